use Rattle.std.proofs.Common.{◌≡◌, ℕ, ◌<◌, ◌-◌, ◌∙◌, false, length, ap, arith, subst, sym, Option}
use Rattle.std.specs.Bool.{⊤}
use Rattle.std.proofs.lemmas.List.{length-map}
use Rattle.std.specs.List.{AllZip, range_with_len}
use Rattle.rayon.specs.Numbers.{nat_range}
use Rattle.rayon.proofs.ListFacts.{AllZip-weaken}
use Rattle.rayon.proofs.ToStd.{nat_range-All}
use Rattle.wh_path.specs.Paths.{cell_at}
use Rattle.wh_points.specs.declared.points.Point.{Point}
use Rattle.wh_points.specs.Points.{Site}
use Rattle.wh_formed.specs.Cuts.{IsCutOf}
use Rattle.wh_formed.proofs.GatherLemmas.{listed}
use Rattle.wh_formed.proofs.LinkLemmas.{cut_by_numbers, labels_beside}
use Rattle.wh_formed.proofs.checker.cuts.Goals as goal

pub collect-requires-clause-ready : goal.collect-requires-clause-ready
collect-requires-clause-ready g c κs within =
    let ends = c.into_par_iter.ensures in
    let n = length c.args.cells.now in
    let inside = nat_range-All (λ i. i < n) 0 n (λ i low high. high) in
    let few : n < 4294967296 = (let most = c.requires.few in omega arith) in
    rw (c.map.ensures.base, c.map.ensures.f, c.with_min_len.ensures.base, ends.0, ends.1) (λ k d lt. ((c.requires.size, (few, inside k d lt)), λ y h. tt))

pub returns-clause-cuts : goal.returns-clause-cuts
returns-clause-cuts g c = λ layout o same table labels.
    let site : Site = record { grid = c.args.grid.now; layout = layout; homes = false } in
    let cells = c.args.cells.now in
    let numbers = c.args.numbers.now in
    let n = length cells in
    let whole : n - 0 ≡ n = omega arith in
    let ends = c.into_par_iter.ensures in
    let h = c.in_ok-found.ensures in
    let chain = rw (c.map.ensures.base, c.map.ensures.f, c.with_min_len.ensures.base) at h.1 in
    let places = chain.1 ∙ (λ i. nat_range (ends.0 i) (ends.1 i)) ∙ ap (range_with_len 0) whole in
    let R = λ (i : ℕ) (cut : Option ℕ). i < n → IsCutOf site i cut in
    let each = AllZip-weaken _ R (λ i r k. cut_by_numbers site cells o numbers (sym same) table i r (labels_beside site.grid o numbers (cell_at cells i) labels) k) chain.0 h.0 chain.2 in
    let all = listed R n h.0 (subst (λ is. AllZip R is h.0) places each) in
    let count : n ≡ length layout.points = ap length (sym same) ∙ length-map layout.points (λ (p : Point). p.cell) in
    rw h.2 (record { size = all.0 ∙ count; exact = λ a d inside. (let b : a < n = omega arith in all.1 a d b b) })

pub returns-clause-bound : goal.returns-clause-bound
returns-clause-bound g c =
    let n = length c.args.cells.now in
    let whole : n - 0 ≡ n = omega arith in
    let ends = c.into_par_iter.ensures in
    let h = c.in_ok-found.ensures in
    let chain = rw (c.map.ensures.base, c.map.ensures.f, c.with_min_len.ensures.base) at h.1 in
    let places = chain.1 ∙ (λ i. nat_range (ends.0 i) (ends.1 i)) ∙ ap (range_with_len 0) whole in
    let R = λ (i : ℕ) (cut : Option ℕ). ⊤ in
    let size = (listed R n h.0 (subst (λ is. AllZip R is h.0) places (AllZip-weaken _ R (λ i r k. tt) chain.0 h.0 chain.2))).0 in
    let most = c.requires.few in
    rw h.2 (omega arith)

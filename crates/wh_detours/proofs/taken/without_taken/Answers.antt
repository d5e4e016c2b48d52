use Rattle.std.proofs.Common.{◌≡◌, ℕ, ◌+◌, ◌++◌, List, Bool, [], length, take, drop, sym, subst, ap, ◌∙◌, arith}
use Rattle.std.proofs.Math.Seq.{take-append_seam}
use Rattle.std.proofs.lemmas.List.{get_or_default}
use Rattle.wh_grid.specs.declared.cell.Cell.{Cell}
use Rattle.wh_grid.specs.Grids.{Floor}
use Rattle.wh_path.specs.Paths.{path_of}
use Rattle.wh_detours.specs.Taken.{IsWithoutTaken, IsFiltered, IsBarredIf}
use Rattle.wh_detours.proofs.Filtered.{filtered_more, filtered_all}
use Rattle.wh_detours.proofs.taken.without_taken.Goals as goal

pub loop-path-preserved : goal.loop-path-preserved
loop-path-preserved c =
    let g = c.args.grid.now in
    let o = c.args.others.now in
    let paths = c.args.paths.now in
    let n = c.loop-path.path-index in
    let item : path_of paths n ≡ c.path-item.result = get_or_default paths n [] c.path-item.result (omega arith) ∙ sym c.path-item.is in
    let was = subst (λ (p : List Cell). IsBarredIf g o p c.loop-path.walkable.items c.bar.new.walkable) (sym item) (rw c.deref_mut.ensures.value at c.bar.ensures) in
    let now = c.bar.new.walkable in
    let size : c.loop-path.walkable.len ≡ length now = omega arith in
    let rest = drop (length now) c.loop-path.walkable.items in
    let back = ap (λ k. take k (now ++ rest)) size ∙ take-append_seam now rest in
    subst (λ (xs : List Bool). IsFiltered g o paths (n + 1) xs) (sym back) (filtered_more g o paths n c.loop-path.walkable.items c.bar.new.walkable c.loop-path.invariant was)

pub returns : goal.returns
returns c =
    let g = c.args.grid.now in
    let o = c.args.others.now in
    let paths = c.args.paths.now in
    let last : c.loop-path.path-index ≡ length paths = omega arith in
    let all = subst (λ (n : ℕ). IsFiltered g o paths n c.loop-path.walkable.items) last c.loop-path.invariant in
    let items = c.loop-path.walkable.items in
    let Made : Floor → Type 0 = λ f. f ≡ record { width = g.width; height = g.height; walkable = items } in
    let made : Made c.new.result = c.new.ensures ∙ ap (λ w. record { width = w; height = c.height.result; walkable = items }) c.width.ensures.value
    ∙ ap (λ h. record { width = g.width; height = h; walkable = items }) c.height.ensures.value in
    subst (λ (f : Floor). IsWithoutTaken g o paths f) (sym made) (filtered_all g o paths items all)

-- cells with a number in common are joined, and the other way round
use Rattle.std.proofs.Common.{◌≡◌, ℕ, ◌<◌, ◌⊎◌, inl, inr, ◌∙◌, List, Bool, Option, Some, length, zero, suc, refl, sym, ap, subst, arith}
use Rattle.std.proofs.lemmas.List.{length-map}
use Rattle.wh_grid.specs.declared.cell.Cell.{Cell}
use Rattle.wh_grid.specs.Grids.{Floor, IsMove, IsPassable}
use Rattle.wh_path.proofs.WalkLemmas.{move_back}
use Rattle.wh_points.specs.declared.points.Point.{Point}
use Rattle.wh_points.specs.Points.{Site}
use Rattle.wh_path.specs.Paths.{cell_at}
use Rattle.wh_formed.specs.Cuts.{IsCutOf, IsFirstFailing, cells_of}
use Rattle.wh_formed.specs.Fills.{IsMarked, IsOpenTable, IsReached, Reaches}
use Rattle.wh_formed.specs.Labels.{AreLabels, AreLabelsBeside, AreLinked, MarksPassable, ShareNumber}
use Rattle.wh_formed.specs.Verdicts.{AreJoined, IsFirstCut, JoinedBy, cell_of}
use Rattle.wh_formed.proofs.JoinLemmas.{IsFree, cut_by_test, nth-cells_of, joined_is_passable, joins, leads, reaches-same}
use Rattle.wh_formed.proofs.LabelLemmas.{one_step, reached_then}
use Rattle.wh_formed.proofs.TableLemmas.{place_below}

-- open cells are passable
pub open_is_passable : (g : Floor) (points : List Cell) (o : List Bool) → IsOpenTable g points o → MarksPassable g o
open_is_passable g points o t = record { size = t.size; inside = λ c m. ((t.exact c).0 m).passable }

-- a walk of at least one step has a first step
pub first_step : (g : Floor) (P : Cell → Type 0) (inside : (c : Cell) → P c → IsPassable g c) (a r : Cell) (n : ℕ) → Reaches g P a (suc n) r → (c : Cell) × IsMove a c × P c × IsReached g P c r
first_step g P inside a r zero s = (r, subst (λ x. IsMove x r) s.1.1 s.2, s.3, (0, (inside r s.3, refl)))
first_step g P inside a r (suc n) s =
    let before = first_step g P inside a s.0 n s.1 in
    (before.0, before.1, before.2, (suc before.3.0, (s.0, before.3.1, s.2, s.3)))

module _ (site : Site) (o : List Bool) (numbers : List ℕ) (table : IsOpenTable site.grid (cells_of site.layout) o) (a b : Cell) (labels : AreLabelsBeside site.grid (IsMarked site.grid o) a numbers) where
  inside : (c : Cell) → IsMarked site.grid o c → IsPassable site.grid c
  inside c m = ((table.exact c).0 m).passable

  to_open : (r : Cell) → IsReached site.grid (IsMarked site.grid o) a r → IsReached site.grid (IsFree site) a r
  to_open r h = (h.0, reaches-same site.grid (IsMarked site.grid o) (IsFree site) a (λ c m. (table.exact c).0 m) h.0 r h.1)

  pub linked_join : AreLinked site.grid numbers a b → JoinedBy site a b
  linked_join l =
      elim l.link [
        | inl m ↦ joins site a b l.to (a, (0, (l.from, refl)), m)
        | inr s ↦
            (let c = s.2.0 in
            let d = s.3.0 in
            let step = one_step site.grid (IsMarked site.grid o) inside a c l.from s.2.1 (labels.parts.only c s.0 s.1 s.2.2) in
            let onward = labels.parts.linked c d s.0 s.1 s.2.2 s.3.2 in
            joins site a b l.to (d, to_open d (reached_then site.grid (IsMarked site.grid o) inside a c d step onward.0 onward.1), move_back b d s.3.1))
      ]

  share : (r : Cell) (n : ℕ) → Reaches site.grid (IsMarked site.grid o) a n r → IsMove r b → IsMove a b ⊎ ShareNumber site.grid numbers a b
  share r zero h m = inl (subst (λ x. IsMove x b) h.1 m)
  share r (suc n) h m =
      let first = first_step site.grid (IsMarked site.grid o) inside a r n h in
      let c = first.0 in
      let number = labels.every c first.2 first.1 in
      let last = labels.parts.closed c r number.0 number.1 number.2 first.3 in
      inr (number.0, number.1, (c, first.1, number.2), (r, move_back r b m, last))

  pub joined_links : JoinedBy site a b → AreLinked site.grid numbers a b
  joined_links j =
      let l = leads site a b j.0 j.1 in
      record {
        from = subst (IsPassable site.grid) j.1.between.starts (j.1.between.walk.passable 0);
        to = joined_is_passable site a b j;
        link = share l.0 l.1.0 (reaches-same site.grid (IsFree site) (IsMarked site.grid o) a (λ c m. (table.exact c).1 m) l.1.0 l.0 l.1.1) l.2;
      }

-- all labels are labels beside a cell
pub labels_beside : (g : Floor) (o : List Bool) (numbers : List ℕ) (a : Cell) → AreLabels g (IsMarked g o) numbers → AreLabelsBeside g (IsMarked g o) a numbers
labels_beside g o numbers a labels = record { parts = labels.parts; every = λ c m near. labels.every c m (place_below g c m.in_width m.in_height) }

-- the first later cell without a number in common is the first later point that is not joined
pub cut_by_numbers : (site : Site) (cells : List Cell) (o : List Bool) (numbers : List ℕ) → cells ≡ cells_of site.layout → IsOpenTable site.grid cells o
    → (a : ℕ) (cut : Option ℕ) → AreLabelsBeside site.grid (IsMarked site.grid o) (cell_at cells a) numbers → IsFirstFailing (λ b. AreLinked site.grid numbers (cell_at cells a) (cell_at cells b)) a (length cells) cut → a < length cells → IsCutOf site a cut
cut_by_numbers site cells o numbers same table a cut labels first inside =
    let listed : IsOpenTable site.grid (cells_of site.layout) o = subst (λ cs. IsOpenTable site.grid cs o) same table in
    let count : length cells ≡ length site.layout.points = ap length same ∙ length-map site.layout.points (λ (p : Point). p.cell) in
    let cell : (n : ℕ) → n < length site.layout.points → cell_at cells n ≡ cell_of site.layout n = λ n h. ap (λ cs. cell_at cs n) same ∙ nth-cells_of site.layout n h in
    let here : cell_at cells a ≡ cell_of site.layout a = cell a (omega arith) in
    let beside : AreLabelsBeside site.grid (IsMarked site.grid o) (cell_of site.layout a) numbers = subst (λ x. AreLabelsBeside site.grid (IsMarked site.grid o) x numbers) here labels in
    let Test : ℕ → Type 0 = λ b. AreLinked site.grid numbers (cell_at cells a) (cell_at cells b) in
    let Linked : Cell → Cell → Type 0 = λ x y. AreLinked site.grid numbers x y in
    cut_by_test site a Test (λ b h. (
      λ l. linked_join site o numbers listed (cell_of site.layout a) (cell_of site.layout b) beside (subst (λ x. Linked x (cell_of site.layout b)) here (subst (Linked (cell_at cells a)) (cell b h) l)),
      λ j. subst (λ x. Linked x (cell_at cells b)) (sym here) (subst (Linked (cell_of site.layout a)) (sym (cell b h)) (joined_links site o numbers listed (cell_of site.layout a) (cell_of site.layout b) beside j)),
    )) cut (subst (λ n. IsFirstFailing Test a n cut) count first)

-- so a cut of the first point is the first cut
pub first_cut_by_numbers : (site : Site) (cells : List Cell) (o : List Bool) (numbers : List ℕ) → cells ≡ cells_of site.layout → IsOpenTable site.grid cells o
    → (cut : Option ℕ) → AreLabelsBeside site.grid (IsMarked site.grid o) (cell_at cells 0) numbers → IsFirstFailing (λ b. AreLinked site.grid numbers (cell_at cells 0) (cell_at cells b)) 0 (length cells) cut → 0 < length cells
    → (b : ℕ) → cut ≡ Some b → IsFirstCut site 0 b
first_cut_by_numbers site cells o numbers same table cut labels first inside b is =
    let found : IsCutOf site 0 (Some b) = subst (IsCutOf site 0) is (cut_by_numbers site cells o numbers same table 0 cut labels first inside) in
    record {
      in_order = found.0;
      inside = found.1;
      cut = found.2;
      first = λ k l order below earlier. elim earlier [
        | inl h ↦ absurd (omega arith)
        | inr h ↦ (let same = h.0 in subst (λ i. AreJoined site i l) (sym same) (found.3 l (omega arith) h.1))
      ];
    }

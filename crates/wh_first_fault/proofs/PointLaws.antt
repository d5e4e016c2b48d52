-- Lines of a points file have one first fault, and a points file has none.
use Rattle.std.proofs.Common.{◌≡◌, ℕ, ◌<◌, List, [], ◌∷◌, ◌++◌, length, Result, Ok, sym, ap, subst, ◌∙◌, inl, inr, arith}
use Rattle.std.proofs.lemmas.Bool.{cases_lt}
use Rattle.std.proofs.lemmas.List.{append-nil}
use Rattle.wh_grid.specs.Grids.{Floor}
use Rattle.wh_points.specs.declared.fault.FaultKind.{FaultKind}
use Rattle.wh_points.specs.declared.fault.Fault.{Fault}
use Rattle.wh_points.specs.Points.{Layout}
use Rattle.wh_points.specs.PointFiles.{empty}
use Rattle.wh_points.specs.PointGrammar.{Says, Spells, IsPointsFile}
use Rattle.wh_points.proofs.GrammarLaws.{line_again}
use Rattle.wh_first_fault.specs.PointFaults.{Ends, IsFirstFault}
use Rattle.wh_first_fault.proofs.MapLaws.{Longer, longer}

same_ok : (a b : Layout) → (let r : Result Layout FaultKind = Ok a in let s : Result Layout FaultKind = Ok b in r ≡ s) → a ≡ b
same_ok a b e = cc

one_after : (g : Floor) (before : Layout) (line : List ℕ) (a b : Layout) → Says g before line a → Says g before line b → a ≡ b
one_after g before line a b p q = same_ok a b (sym (line_again g before a line p) ∙ line_again g before b line q)

-- lines spell one layout
one_layout : (g : Floor) (first : Layout) (lines : List (List ℕ)) (a b : Layout) → Spells g first lines a → Spells g first lines b → a ≡ b
one_layout g first [] a b p q = sym p ∙ q
one_layout g first (line ∷ lines) a b p q =
    let same : p.0 ≡ q.0 = one_after g first line p.0 q.0 p.1 q.1 in
    one_layout g q.0 lines a b (subst (λ (l : Layout). Spells g l lines a) same p.2) q.2

-- what lines spell goes on from what the first of them spell
goes_on : (g : Floor) (first : Layout) (before : List (List ℕ)) (line : List ℕ) (rest : List (List ℕ)) (after middle : Layout) → Spells g first (before ++ line ∷ rest) after → Spells g first before middle
    → (next : Layout) × Says g middle line next
goes_on g first [] line rest after middle all front = (all.0, subst (λ (l : Layout). Says g l line all.0) front all.1)
goes_on g first (one ∷ before) line rest after middle all front =
    let same : all.0 ≡ front.0 = one_after g first one all.0 front.0 all.1 front.1 in
    goes_on g front.0 before line rest after middle (subst (λ (l : Layout). Spells g l (before ++ line ∷ rest) after) same all.2) front.2

not_shorter : (g : Floor) (lines : List (List ℕ)) (a b : Fault) → (x : IsFirstFault g lines a) → (y : IsFirstFault g lines b) → length x.before < length y.before → ⊥
not_shorter g lines a b x y lt =
    let l : Longer x.before x.rest y.before = longer x.before x.rest y.before y.rest (sym x.parts ∙ y.parts) lt in
    let ends : Ends g x.layout a.kind (l.line ∷ l.left) = subst (λ (ls : List (List ℕ)). Ends g x.layout a.kind ls) l.rest_is x.ends in
    let on = goes_on g empty x.before l.line l.tail y.layout x.layout (subst (λ (ls : List (List ℕ)). Spells g empty ls y.layout) l.other_is y.spells) x.spells in
    ends.0 on.0 on.1

pub one_line : (g : Floor) (lines : List (List ℕ)) (a b : Fault) → IsFirstFault g lines a → IsFirstFault g lines b → a.line ≡ b.line
one_line g lines a b x y =
    elim (cases_lt (length x.before) (length y.before)) [
      | inl lt ↦ absurd (not_shorter g lines a b x y lt)
      | inr le ↦ elim (cases_lt (length y.before) (length x.before)) [
        | inl lt ↦ absurd (not_shorter g lines b a y x lt)
        | inr ge ↦ omega (arith, x.place, y.place)
      ]
    ]

ends_none : (g : Floor) (before rest : List (List ℕ)) (middle layout : Layout) (kind : FaultKind) → Spells g empty before middle → Ends g middle kind rest → Spells g empty (before ++ rest) layout → 0 < length layout.agents → ⊥
ends_none g before [] middle layout kind front ends all some =
    let same : middle ≡ layout = one_layout g empty before middle layout front (subst (λ (ls : List (List ℕ)). Spells g empty ls layout) (append-nil before) all) in
    let none : length layout.agents ≡ 0 = ap (λ (l : Layout). length l.agents) (sym same) ∙ ap (λ (ns : List ℕ). length ns) ends.1 in
    omega (arith, none, some)
ends_none g before (line ∷ rest) middle layout kind front ends all some =
    let on = goes_on g empty before line rest layout middle all front in
    ends.0 on.0 on.1

pub no_points : (g : Floor) (lines : List (List ℕ)) (fault : Fault) (layout : Layout) → IsFirstFault g lines fault → IsPointsFile g lines layout → ⊥
no_points g lines fault layout x is =
    ends_none g x.before x.rest x.layout layout fault.kind x.spells x.ends (subst (λ (ls : List (List ℕ)). Spells g empty ls layout) x.parts is.0) is.1

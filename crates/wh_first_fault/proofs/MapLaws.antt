-- Lines have one first fault, and a map has none.
use Rattle.std.proofs.Common.{◌≡◌, ℕ, ◌<◌, List, [], ◌∷◌, ◌++◌, length, refl, sym, ap, subst, ◌∙◌, inl, inr, arith}
use Rattle.std.proofs.lemmas.Bool.{cases_lt}
use Rattle.std.proofs.lemmas.List.{append_assoc, append-nil}
use Rattle.wh_grid.specs.Grids.{Floor}
use Rattle.wh_grid.specs.Grammar.{IsMap}
use Rattle.wh_grid.specs.declared.fault.Fault.{Fault}
use Rattle.wh_first_fault.specs.MapFaults.{Begins, IsWrong, IsFirstFault}
use Rattle.wh_first_fault.proofs.Completing.{begins_fewer, whole_begins}

-- one front of lines that is longer than another has the next line too
pub record Longer (before rest other : List (List ℕ)) : Type 0 where
  pub line : List ℕ
  pub tail : List (List ℕ)
  pub left : List (List ℕ)
  pub rest_is : rest ≡ line ∷ left
  pub other_is : other ≡ before ++ line ∷ tail

pub longer : (before rest other more : List (List ℕ)) → before ++ rest ≡ other ++ more → length before < length other → Longer before rest other
longer before rest [] more e lt = absurd (omega arith)
longer [] rest (line ∷ other) more e lt = record { line = line; tail = other; left = other ++ more; rest_is = e; other_is = refl }
longer (first ∷ before) rest (line ∷ other) more e lt =
    let heads : first ≡ line = ap (λ (ls : List (List ℕ)). head_or ls) e in
    let tails : before ++ rest ≡ other ++ more = ap (λ (ls : List (List ℕ)). tail_of ls) e in
    let l = longer before rest other more tails (omega arith) in
    record { line = l.line; tail = l.tail; left = l.left; rest_is = l.rest_is; other_is = ap (λ (ls : List (List ℕ)). line ∷ ls) l.other_is ∙ ap (λ (x : List ℕ). x ∷ (before ++ l.line ∷ l.tail)) (sym heads) }
  where
    head_or : List (List ℕ) → List ℕ
    head_or [] = []
    head_or (l ∷ ls) = l

    tail_of : List (List ℕ) → List (List ℕ)
    tail_of [] = []
    tail_of (l ∷ ls) = ls

-- no map begins with a wrong line
begins_on : (before rest other more : List (List ℕ)) → IsWrong before rest → Longer before rest other → Begins other → ⊥
begins_on before rest other more wrong l begins =
    let here : IsWrong before (l.line ∷ l.left) = subst (λ (ls : List (List ℕ)). IsWrong before ls) l.rest_is wrong in
    let all : other ≡ (before ++ l.line ∷ []) ++ l.tail = l.other_is ∙ sym (append_assoc before (l.line ∷ []) l.tail) in
    here (begins_fewer (before ++ l.line ∷ []) l.tail (subst (λ (ls : List (List ℕ)). Begins ls) all begins))

not_shorter : (lines : List (List ℕ)) (a b : Fault) → (x : IsFirstFault lines a) → (y : IsFirstFault lines b) → length x.before < length y.before → ⊥
not_shorter lines a b x y lt = begins_on x.before x.rest y.before y.rest x.wrong (longer x.before x.rest y.before y.rest (sym x.parts ∙ y.parts) lt) y.begins

pub one_line : (lines : List (List ℕ)) (a b : Fault) → IsFirstFault lines a → IsFirstFault lines b → a.line ≡ b.line
one_line lines a b x y =
    elim (cases_lt (length x.before) (length y.before)) [
      | inl lt ↦ absurd (not_shorter lines a b x y lt)
      | inr le ↦ elim (cases_lt (length y.before) (length x.before)) [
        | inl lt ↦ absurd (not_shorter lines b a y x lt)
        | inr ge ↦ omega (arith, x.place, y.place)
      ]
    ]

wrong_map : (before rest : List (List ℕ)) (floor : Floor) → IsWrong before rest → IsMap (before ++ rest) floor → ⊥
wrong_map before [] floor wrong is = wrong floor (subst (λ (ls : List (List ℕ)). IsMap ls floor) (append-nil before) is)
wrong_map before (line ∷ rest) floor wrong is =
    let all : before ++ line ∷ rest ≡ (before ++ line ∷ []) ++ rest = sym (append_assoc before (line ∷ []) rest) in
    wrong (begins_fewer (before ++ line ∷ []) rest (subst (λ (ls : List (List ℕ)). Begins ls) all (whole_begins (before ++ line ∷ rest) floor is)))

pub no_map : (lines : List (List ℕ)) (fault : Fault) (floor : Floor) → IsFirstFault lines fault → IsMap lines floor → ⊥
no_map lines fault floor x is = wrong_map x.before x.rest floor x.wrong (subst (λ (ls : List (List ℕ)). IsMap ls floor) x.parts is)

-- what the look for a straight walk keeps, as numbers of states are noted
use Rattle.std.proofs.Common.{◌≡◌, ℕ, ◌+◌, ◌<◌, ◌≤◌, ◌⊎◌, inl, inr, List, [], ◌∷◌, ◌++◌, length, take, Contains, subst, arith, length-append}
use Rattle.std.proofs.Math.Seq.{take-append_seam, get_or-append_seam}
use Rattle.std.proofs.lemmas.List.{get_or_append_left}
use Rattle.wh_field.proofs.Tables.{Contains-none}
use Rattle.wh_search.specs.Frontiers.{Problem, node_at}
use Rattle.wh_search.specs.declared.noted.Node.{Node}
use Rattle.wh_search.specs.States.{State, Steps}
use Rattle.wh_search.specs.Ways.{state_number, IsHopeless, AreHopeless}

-- nodes stay where they are
pub old_node : (nodes : List Node) (n : Node) (i : ℕ) → i < length nodes → node_at (nodes ++ n ∷ []) i ≡ node_at nodes i
old_node nodes n i h = get_or_append_left nodes (n ∷ []) _ i h

pub new_node : (nodes : List Node) (n : Node) → node_at (nodes ++ n ∷ []) (length nodes) ≡ n
new_node nodes n = get_or-append_seam nodes n [] _

pub one_longer : (nodes : List Node) (n : Node) → length (nodes ++ n ∷ []) ≡ length nodes + 1
one_longer nodes n = length-append nodes (n ∷ [])

-- the estimate falls by at most 1 in a step from this state
abbrev pub Falls : Problem → ℕ → State → Type 0
Falls p k s = (t : State) → Steps p.grid p.others p.via k s t → p.estimate s.leg s.cell ≤ p.estimate t.leg t.cell + 1

pub take_front : (m : ℕ) (xs ys : List ℕ) → length xs ≡ m → take m (xs ++ ys) ≡ xs
take_front m xs ys e = subst (λ j. take j (xs ++ ys) ≡ xs) e (take-append_seam xs ys)

-- a number is that of one state
number_one : (s t : State) → s.cell.x < 65536 → s.cell.y < 65536 → t.cell.x < 65536 → t.cell.y < 65536 → state_number s ≡ state_number t → s ≡ t
number_one s t sx sy tx ty e =
    let legs : s.leg ≡ t.leg = omega arith in
    let rows : s.cell.y ≡ t.cell.y = omega arith in
    let columns : s.cell.x ≡ t.cell.x = omega arith in
    λ i. record { leg = legs i; cell = record { x = columns i; y = rows i } }

pub none_hopeless : (p : Problem) (whole : ℕ) (numbers : List ℕ) → numbers ≡ [] → AreHopeless p whole numbers
none_hopeless p whole numbers none n has = λ s x y e. absurd (Contains-none n (subst (λ (ns : List ℕ). Contains ns n) none has))

-- one state more is hopeless
pub hopeless_more : (p : Problem) (whole : ℕ) (numbers more : List ℕ) (s : State) → AreHopeless p whole numbers → IsHopeless p whole s → s.cell.x < 65536 → s.cell.y < 65536
    → ((n : ℕ) → Contains more n → (n ≡ 0) ⊎ ((n ≡ state_number s) ⊎ Contains numbers n)) → AreHopeless p whole more
hopeless_more p whole numbers more s all dead sx sy noted n has t tx ty is =
    elim (noted n has) [
      | inl none ↦ absurd (omega arith)
      | inr some ↦ (elim some [
        | inl same ↦ subst (IsHopeless p whole) (number_one s t sx sy tx ty (let e : state_number s ≡ state_number t = omega arith in e)) dead
        | inr old ↦ all n old t tx ty is
      ])
    ]

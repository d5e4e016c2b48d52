-- from the horizon on a cell is vacant at all times or at none
use Rattle.std.proofs.Common.{◌≢◌, ℕ, ◌≤◌, ◌∙◌, inl, inr, List, [], ◌∷◌, arith}
use Rattle.std.proofs.lemmas.Bool.{cases_lt}
use Rattle.std.proofs.lemmas.List.Elements.{All-nil, All-cons, All-head, All-tail}
use Rattle.wh_grid.specs.declared.cell.Cell.{Cell}
use Rattle.wh_path.specs.Paths.{at, horizon}
use Rattle.wh_path.proofs.AtLemmas.{at-rests}
use Rattle.wh_resv.specs.Calls.{IsVacant}

pub vacant_later : (paths : List (List Cell)) (c : Cell) (j k : ℕ) → horizon paths ≤ j → horizon paths ≤ k → IsVacant paths c j → IsVacant paths c k
vacant_later [] c j k hj hk m = All-nil (λ q. at q k ≢ c)
vacant_later (q ∷ paths) c j k hj hk m =
    All-cons (λ p. at p k ≢ c) q paths
    (λ e. All-head (λ p. at p j ≢ c) q paths m (at-rests q j k (omega arith) (omega arith) ∙ e))
    (vacant_later paths c j k (omega arith) (omega arith) (All-tail (λ p. at p j ≢ c) q paths m))

-- taken at each time up to the horizon is taken for ever
pub never_later : (paths : List (List Cell)) (c : Cell) (k n : ℕ) → k ≤ n → horizon paths ≤ n → ((j : ℕ) → k ≤ j → j ≤ n → IsVacant paths c j → ⊥) → (j : ℕ) → k ≤ j → IsVacant paths c j → ⊥
never_later paths c k n late past taken j from free =
    elim (cases_lt n j) [ inl beyond ↦ taken n late (omega arith) (vacant_later paths c j n (omega arith) past free) | inr within ↦ taken j from within free ]

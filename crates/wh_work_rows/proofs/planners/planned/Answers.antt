use Prim.Native.Nat.{zero, suc}
use Rattle.std.proofs.Common.{◌≡◌, ◌≢◌, ℕ, ◌<◌, List, [], ◌∷◌, true, refl, ap, arith}
use Rattle.wh_grid.specs.declared.cell.Cell.{Cell}
use Rattle.wh_path.specs.Paths.{path_of, IsFree, AllFree}
use Rattle.wh_path.proofs.Freedom.{free-sym, free-resting}
use Rattle.wh_core.proofs.Opening.{walk-one}
use Rattle.wh_work_rows.proofs.planners.planned.Goals as goal

pair : (p q : List Cell) → IsFree true p q → (i j : ℕ) → i < 2 → j < 2 → i ≢ j →
    IsFree true (path_of (p ∷ q ∷ []) i) (path_of (p ∷ q ∷ []) j)
pair p q free zero zero hi hj ne = absurd (ne refl)
pair p q free zero (suc zero) hi hj ne = free
pair p q free zero (suc (suc j)) hi hj ne = absurd (omega arith)
pair p q free (suc zero) zero hi hj ne = free-sym true p q free
pair p q free (suc zero) (suc zero) hi hj ne = absurd (ne refl)
pair p q free (suc zero) (suc (suc j)) hi hj ne = absurd (omega arith)
pair p q free (suc (suc i)) j hi hj ne = absurd (omega arith)

-- two agents that stay at cells that differ
all_free-resting : (c d : Cell) → (c ≡ d → ⊥) → (p q : List Cell) → p ≡ c ∷ [] → q ≡ d ∷ [] → AllFree true (p ∷ q ∷ [])
all_free-resting c d ne p q pc qd = rw (pc, qd) (record { pair = pair _ _ (free-resting true c d ne) })

pub plan-path-requires-clause-free : goal.plan-path-requires-clause-free
plan-path-requires-clause-free c =
    let ne : record { x = 0; y = 5 } ≡ record { x = 5; y = 5 } → ⊥ = λ e. let x : 0 ≡ 5 = ap (λ cell. cell.x) e in absurd (omega (arith, x)) in
    rw c.in_ok-all.ensures (all_free-resting _ _ ne _ _ c.in_ok-one.ensures c.in_ok-one-2.ensures)

pub plan-path-requires-clause-walk : goal.plan-path-requires-clause-walk
plan-path-requires-clause-walk c =
    let here = rw c.deref.ensures at (c.passable.ensures.0 c.if-not-passable.false) in
    rw (c.in_ok-all.ensures, c.in_ok-one.ensures, c.deref-4.ensures) (walk-one _ _ here)

pub patient_path-requires-clause-free : goal.patient_path-requires-clause-free
patient_path-requires-clause-free c =
    let ne : record { x = 0; y = 5 } ≡ record { x = 5; y = 5 } → ⊥ = λ e. let x : 0 ≡ 5 = ap (λ cell. cell.x) e in absurd (omega (arith, x)) in
    rw c.in_ok-all.ensures (all_free-resting _ _ ne _ _ c.in_ok-one.ensures c.in_ok-one-2.ensures)

pub patient_path-requires-clause-walk : goal.patient_path-requires-clause-walk
patient_path-requires-clause-walk c =
    let here = rw c.deref.ensures at (c.passable.ensures.0 c.if-not-passable.false) in
    rw (c.in_ok-all.ensures, c.in_ok-one.ensures, c.deref-4.ensures) (walk-one _ _ here)

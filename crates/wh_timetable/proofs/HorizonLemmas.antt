-- the greatest number of steps left, as paths change
use Rattle.std.proofs.Common.{◌≡◌, ℕ, ◌-◌, ◌≤◌, List, [], ◌∷◌, ◌++◌, map, max, set, refl, ap, ◌∙◌, arith}
use Prim.Native.Nat.{zero, suc}
use Rattle.wh_grid.specs.declared.cell.Cell.{Cell}
use Rattle.wh_path.specs.Paths.{last_index, horizon, advanced}
use Rattle.wh_timetable.proofs.ToldLemmas.{last_advanced}

pub horizon_push : (paths : List (List Cell)) (p : List Cell) (left : ℕ) → horizon paths ≤ left → horizon (paths ++ p ∷ []) ≤ max left (last_index p)
horizon_push [] p left few = omega arith
horizon_push (q ∷ paths) p left few = let rest : horizon paths ≤ left = omega arith in omega (arith, horizon_push paths p left rest)

pub horizon_set : (paths : List (List Cell)) (i : ℕ) (p : List Cell) (left : ℕ) → horizon paths ≤ left → horizon (set paths i p) ≤ max left (last_index p)
horizon_set [] i p left few = omega arith
horizon_set (q ∷ paths) zero p left few = omega arith
horizon_set (q ∷ paths) (suc i) p left few = let rest : horizon paths ≤ left = omega arith in omega (arith, horizon_set paths i p left rest)

pub horizon_advanced : (paths : List (List Cell)) (left : ℕ) → horizon paths ≤ left → horizon (map advanced paths) ≤ left - 1
horizon_advanced [] left few = omega arith
horizon_advanced (q ∷ paths) left few = let rest : horizon paths ≤ left = omega arith in omega (arith, horizon_advanced paths left rest, last_advanced q)

-- paths with no step left stay as they are
pub resting : (paths : List (List Cell)) → horizon paths ≤ 0 → paths ≡ map advanced paths
resting [] none = refl
resting (q ∷ paths) none =
    let rest : horizon paths ≤ 0 = omega arith in
    ap (λ p. p ∷ paths) (rests q (omega arith)) ∙ ap (λ ps. advanced q ∷ ps) (resting paths rest)
  where
    rests : (p : List Cell) → last_index p ≤ 0 → p ≡ advanced p
    rests [] none = refl
    rests (only ∷ []) none = refl
    rests (first ∷ next ∷ rest) none = absurd (omega arith)

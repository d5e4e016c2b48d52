-- the nearest task is determined
use Rattle.std.proofs.Common.{◌≡◌, ℕ, inl, inr, List, Option, Some, None, arith}
use Rattle.wh_grid.specs.declared.cell.Cell.{Cell}
use Rattle.wh_grid.specs.Grids.{Floor}
use Rattle.wh_tasks.specs.declared.task.Task.{Task}
use Rattle.wh_tasks.specs.Choice.{IsAtMost, IsNearest}

at_most-both : (one other : Option ℕ) (n m : ℕ) → IsAtMost one n other m → IsAtMost other m one n → n ≡ m
at_most-both None None n m h k = omega arith
at_most-both None (Some e) n m h k = absurd h
at_most-both (Some d) None n m h k = absurd k
at_most-both (Some d) (Some e) n m h k = elim h [
  | inl less ↦ elim k [ inl more ↦ absurd (omega arith) | inr same ↦ absurd (let s = same.0 in omega arith) ]
  | inr same ↦ elim k [ inl more ↦ absurd (let s = same.0 in omega arith) | inr too ↦ (let a = same.1 in let b = too.1 in omega arith) ]
]

pub nearest_one : (g : Floor) (tasks : List Task) (ends : List Cell) (here : Cell) (n m : ℕ) (task other : Task) →
    IsNearest g tasks ends here n task → IsNearest g tasks ends here m other → n ≡ m
nearest_one g tasks ends here n m task other one two =
    at_most-both one.distance two.distance n m (one.least m other two.distance two.eligible two.is_distance)
    (two.least n task one.distance one.eligible one.is_distance)

-- what every task keeps, after a change
use Rattle.std.proofs.Common.{◌≡◌, ℕ, ◌<◌, ◌≤◌, List, length, arith, refl}
use Rattle.std.specs.Prelude.{Some}
use Rattle.std.proofs.lemmas.List.Elements.{All-nil, All-push}
use Rattle.std.proofs.lemmas.List.Quantifiers.{all_pairs_push}
use Rattle.wh_grid.specs.declared.cell.Cell.{Cell}
use Rattle.wh_tasks.specs.declared.task.Task.{Task}
use Rattle.wh_tasks.specs.Tasks.{visited}
use Rattle.wh_tasks.specs.Changes.{fresh, assigned, visited_once, IsOrderly, IsInTime}
use Rattle.wh_tasks.proofs.Edits.{length-snoc}

pub orderly-fresh : (client : List ℕ) (stops : List Cell) (clock : ℕ) → 2 ≤ length stops → length stops ≤ 8 → IsOrderly (fresh client stops clock)
orderly-fresh client stops clock two eight = record {
  two = two;
  eight = eight;
  within = omega arith;
  unvisited = λ _. refl;
  after = All-nil _;
  rising = λ i j d lt h. absurd (omega arith);
}

pub orderly-assigned : (agent : ℕ) (task : Task) → IsOrderly task → IsOrderly (assigned agent task)
orderly-assigned agent task is = record {
  two = is.two;
  eight = is.eight;
  within = is.within;
  unvisited = λ e. cc;
  after = is.after;
  rising = is.rising;
}

pub orderly-visited : (clock : ℕ) (task : Task) (agent : ℕ) → task.agent ≡ Some agent → visited task < length task.stops → IsInTime clock task →
    IsOrderly task → IsOrderly (visited_once clock task)
orderly-visited clock task agent has left in_time is = record {
  two = is.two;
  eight = is.eight;
  within = rw (length-snoc task.visits clock) left;
  unvisited = λ e. cc;
  after = All-push (λ later. task.submitted ≤ later) task.visits clock is.after in_time.submitted;
  rising = all_pairs_push (λ earlier later. earlier ≤ later) task.visits clock is.rising (λ k d h. in_time.visits k d h);
}

use Rattle.std.proofs.Common.{◌≡◌}
use Rattle.wh_stand.specs.Parts.{state_of}
use Rattle.wh_front.specs.declared.front.Front.{Front}
use Rattle.wh_snapshot.specs.Snapshots.{Reaches, IsSnapshot, told_parts}
use Rattle.wh_snapshot.proofs.Counting.{if_ok_map}
use Rattle.wh_snapshot.proofs.front.snapshot.Goals as goal

pub returns-clause-is : goal.returns-clause-is
returns-clause-is c =
    let book = c.args.book.now in
    let reaches : Reaches c.clock.result c.closed.result c.paths.result.now c.slots.result.now c.tasks.result.now.tasks c.history.result.now book = record {
      begins = c.history.ensures.opening;
      run = c.history.ensures.run;
      some = c.requires.agents;
      few = c.paths.ensures.few;
      clock_is = c.clock.ensures.value;
      closed_is = c.closed.ensures;
      paths_are = c.paths.ensures.value;
      slots_are = c.slots.ensures.value;
      tasks_are = c.tasks.ensures;
      history_is = c.history.ensures.value;
    } in
    if_ok_map _ (IsSnapshot c.args.earlier.now.callers.now c.args.earlier.now.counts.now book) c.snapshot_of.result (λ front is. is book reaches) c.snapshot_of.ensures.is

pub returns-clause-state : goal.returns-clause-state
returns-clause-state c =
    let book = c.args.book.now in
    let reaches : Reaches c.clock.result c.closed.result c.paths.result.now c.slots.result.now c.tasks.result.now.tasks c.history.result.now book = record {
      begins = c.history.ensures.opening;
      run = c.history.ensures.run;
      some = c.requires.agents;
      few = c.paths.ensures.few;
      clock_is = c.clock.ensures.value;
      closed_is = c.closed.ensures;
      paths_are = c.paths.ensures.value;
      slots_are = c.slots.ensures.value;
      tasks_are = c.tasks.ensures;
      history_is = c.history.ensures.value;
    } in
    if_ok_map _ (λ (front : Front). state_of (told_parts front) ≡ book.state) c.snapshot_of.result (λ front is. is book reaches) c.snapshot_of.ensures.state

use Rattle.std.proofs.Common.{◌∙◌, sym, get_or}
use Rattle.wh_tasks.specs.declared.task.Task.{Task}
use Rattle.wh_tasks.proofs.Choosing.{none-is, some-not}
use Rattle.wh_tasks.proofs.Walking.{stands-there, walk-stop}
use Rattle.wh_tasks.proofs.Barring.{stop-read, more-clear, no-more-clear, again-on, again-past, again-all}
use Rattle.wh_tasks.proofs.task_set.bar_again.Goals.{then-is_bar+then-is_none, then-is_bar+else-is_none, else-is_bar}
use Rattle.wh_tasks.proofs.task_set.bar_again.Goals as goal

pub insert-requires-clause-new : goal.insert-requires-clause-new
insert-requires-clause-new c = λ has.
    let clear = c.loop-at.invariant.bars.kept.clear_only c.task-n.result has in
    let clash = sym (c.is_bar.ensures.0 c.if-is_bar.true) ∙ clear.3 in cc

pub loop-at-preserved : goal.loop-at-preserved
loop-at-preserved c =
    let stops = c.args.stops.now.stops in
    let tasks = c.args.tasks.now in
    let before = c.args.before in
    let n = c.task-n.result in
    let ens = c.next-at.ensures in
    let i = c.loop-at.invariant in
    let stands = walk-stop stops c.in-Some.k n before (rw c.in-Some.is at i.at) c.task-n.ensures in
    elim c.if-is_bar.branch [
      | then-is_bar+then-is_none w ↦
          let task : Task = get_or tasks n w.index-tasks-n.result in
          let read = stop-read tasks stops c.in-Some.k n before w.index-tasks-n.result c.requires.found stands in
          let v = w.first_end-bar.result in
          rw (w.bars-is, w.clear-is) (record {
            at = stands-there stops before c.in-Some.k c.next-at.result ens.some;
            bars = again-on stops before c.loop-at.at c.next-at.result c.in-Some.k n tasks c.args.ends.now c.loop-at.bars c.loop-at.clear.members w.insert.new.self.members task v c.in-Some.is stands read.0 read.1
                (c.is_bar.ensures.0 w.if-is_bar.true) c.requires.ended (rw w.as_slice.ensures.value at w.first_end-bar.ensures.some) (rw w.as_slice.ensures.value at w.first_end-bar.ensures.none)
                (more-clear c.loop-at.clear.members w.insert.new.self.members n v (none-is v w.if-is_none.ensures) w.insert.ensures.members) ens.some ens.none i.bars;
            bound = w.insert.ensures.bound ∙ i.bound;
            room = w.insert.ensures.room ∙ i.room;
          })
      | then-is_bar+else-is_none w ↦
          let task : Task = get_or tasks n w.index-tasks-n.result in
          let read = stop-read tasks stops c.in-Some.k n before w.index-tasks-n.result c.requires.found stands in
          let v = w.first_end-bar.result in
          rw (w.bars-is, w.clear-is) (record {
            at = stands-there stops before c.in-Some.k c.next-at.result ens.some;
            bars = again-on stops before c.loop-at.at c.next-at.result c.in-Some.k n tasks c.args.ends.now c.loop-at.bars c.loop-at.clear.members c.loop-at.clear.members task v c.in-Some.is stands read.0 read.1
                (c.is_bar.ensures.0 w.if-is_bar.true) c.requires.ended (rw w.as_slice.ensures.value at w.first_end-bar.ensures.some) (rw w.as_slice.ensures.value at w.first_end-bar.ensures.none)
                (no-more-clear c.loop-at.clear.members n v (some-not v w.if-is_none.ensures)) ens.some ens.none i.bars;
            bound = i.bound;
            room = i.room;
          })
      | else-is_bar w ↦
          rw (w.bars-is, w.clear-is) (record {
            at = stands-there stops before c.in-Some.k c.next-at.result ens.some;
            bars = again-past stops before c.loop-at.at c.next-at.result c.in-Some.k n tasks c.args.ends.now c.loop-at.bars c.loop-at.clear.members c.in-Some.is stands
                (λ e. let yes' = c.is_bar.ensures.1 e in let no' = w.if-is_bar.false in cc) ens.some ens.none i.bars;
            bound = i.bound;
            room = i.room;
          })
    ]

pub returns-clause-bars : goal.returns-clause-bars
returns-clause-bars c =
    again-all c.args.stops.now.stops c.args.before c.loop-at.at c.args.tasks.now c.args.ends.now c.loop-at.bars c.loop-at.clear.members c.in_default.is c.requires.found c.loop-at.invariant.bars

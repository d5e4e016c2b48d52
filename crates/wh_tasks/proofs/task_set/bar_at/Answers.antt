use Rattle.std.proofs.Common.{◌∙◌, ◌<◌, refl, length}
use Rattle.wh_tasks.proofs.Choosing.{none-is, some-not}
use Rattle.wh_tasks.proofs.Walking.{stands-there, walk-stop}
use Rattle.wh_tasks.proofs.Barring.{barred-start, barred-on, barred-past}
use Rattle.wh_tasks.proofs.task_set.bar_at.Goals.{then-is_none, else-is_none}
use Rattle.wh_tasks.proofs.task_set.bar_at.Goals as goal

pub loop-at-init : goal.loop-at-init
loop-at-init c =
    let stops = c.args.stops.now.stops in
    let ens = c.first-at.ensures in
    record {
      at = stands-there stops c.args.cell _ c.first-at.result ens.some;
      bars = barred-start stops c.args.cell c.first-at.result c.args.bars.now c.args.clear.now.members ens.some ens.none c.requires.clear;
      bound = refl;
      room = refl;
    }

pub loop-at-preserved : goal.loop-at-preserved
loop-at-preserved c =
    let stops = c.args.stops.now.stops in
    let cell = c.args.cell in
    let n = c.task-n.result in
    let ens = c.next-at.ensures in
    let i = c.loop-at.invariant in
    let stands = walk-stop stops c.in-Some.k n cell (rw c.in-Some.is at i.at) c.task-n.ensures in
    let within : n < length c.loop-at.bars = rw c.loop-at.auto.bars (c.requires.within c.in-Some.k n stands) in
    elim c.if-is_none.branch [
      | then-is_none w ↦
          rw (w.bars-is, w.clear-is) (record {
            at = stands-there stops cell c.in-Some.k c.next-at.result ens.some;
            bars = barred-on stops cell c.loop-at.at c.next-at.result c.in-Some.k n c.args.bars.now c.loop-at.bars c.args.clear.now.members c.loop-at.clear.members w.remove.new.self.members c.in-Some.is stands within
                (none-is _ w.if-is_none.ensures) w.remove.ensures.members ens.some ens.none i.bars;
            bound = w.remove.ensures.bound ∙ i.bound;
            room = w.remove.ensures.room ∙ i.room;
          })
      | else-is_none w ↦
          rw (w.bars-is, w.clear-is) (record {
            at = stands-there stops cell c.in-Some.k c.next-at.result ens.some;
            bars = barred-past stops cell c.loop-at.at c.next-at.result c.in-Some.k n c.args.bars.now c.loop-at.bars c.args.clear.now.members c.loop-at.clear.members c.in-Some.is stands
                (some-not _ w.if-is_none.ensures) ens.some ens.none i.bars;
            bound = i.bound;
            room = i.room;
          })
    ]

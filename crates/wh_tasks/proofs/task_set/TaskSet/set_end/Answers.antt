use Rattle.std.proofs.Common.{◌∙◌, ◌<◌, ap, length}
use Rattle.wh_tasks.proofs.Members.{written-whole}
use Rattle.wh_tasks.proofs.Barring.{are-found, bars-moved, bars-whole}
use Rattle.wh_tasks.proofs.task_set.TaskSet.set_end.Goals as goal

pub bar_at-requires-clause-clear : goal.bar_at-requires-clause-clear
bar_at-requires-clause-clear c = λ n has. rw c.deref_mut.ensures.value (c.self.invariant.0.bars_are.clear_only n has).3

pub bar_again-requires-clause-found : goal.bar_again-requires-clause-found
bar_again-requires-clause-found c =
    let s = c.self.inside in
    rw c.deref.ensures.value (are-found s.tasks.items s.firsts.items s.stops.stops c.self.invariant.0.stops_are)

pub bar_again-requires-clause-bars : goal.bar_again-requires-clause-bars
bar_again-requires-clause-bars c =
    let s = c.self.inside in
    let i = c.self.invariant.0 in
    let ends = ap (λ s. s.ends) c.self.view_is in
    let within : c.args.agent < length s.ends = rw ends c.requires in
    let whole = written-whole c.bar_at.new.bars s.bars.items s.bars.len (c.bar_at.auto.bars ∙ c.deref_mut.ensures.len) in
    let found = are-found s.tasks.items s.firsts.items s.stops.stops i.stops_are in
    let changed = rw c.deref_mut.ensures.value at c.bar_at.ensures.bars in
    rw (c.deref.ensures.value, c.set.ensures, c.deref_mut-then-not-is_end.ensures.value ∙ whole) (bars-moved s.tasks.items s.stops.stops s.ends s.bars.items c.bar_at.new.bars s.clear.members c.bar_at.new.clear.members c.args.agent c.end-before.result c.args.cell
    within c.end-before.ensures found i.bars_are changed)

pub invariant_of-self-else-not-is_end : goal.invariant_of-self-else-not-is_end
invariant_of-self-else-not-is_end c =
    let s = c.self.inside in
    let i = c.self.invariant.0 in
    let ends = ap (λ s. s.ends) c.self.view_is in
    let within : c.args.agent < length s.ends = rw ends c.requires in
    let whole = written-whole c.bar_at.new.bars s.bars.items s.bars.len (c.bar_at.auto.bars ∙ c.deref_mut.ensures.len) in
    let found = are-found s.tasks.items s.firsts.items s.stops.stops i.stops_are in
    let changed = rw c.deref_mut.ensures.value at c.bar_at.ensures.bars in
    let moved = bars-moved s.tasks.items s.stops.stops s.ends s.bars.items c.bar_at.new.bars s.clear.members c.bar_at.new.clear.members c.args.agent c.end-before.result c.args.cell within c.end-before.ensures found i.bars_are changed in
    rw (whole, c.set.ensures) (
      record {
        few = i.few;
        orderly = i.orderly;
        counts_are = i.counts_are;
        stops_are = i.stops_are;
        bars_are = bars-whole c.end-before.result s.tasks.items _ c.bar_at.new.bars c.bar_at.new.clear.members (rw c.set.ensures at (c.is_end.ensures.0 c.if-not-is_end.false)) moved;
        bound_is = c.bar_at.ensures.bound ∙ i.bound_is;
      },
      λ reserved. rw c.bar_at.ensures.room (c.self.invariant.1 reserved),
    )

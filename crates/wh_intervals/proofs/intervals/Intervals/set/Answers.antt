use Rattle.std.proofs.Common.{◌<◌, List, length, sym, subst}
use Rattle.wh_intervals.specs.Places.{slot}
use Rattle.wh_intervals.specs.declared.intervals.Noted.{Noted}
use Rattle.wh_intervals.proofs.Places.{linked_written}
use Rattle.wh_intervals.proofs.intervals.Intervals.set.Goals as goal

pub invariant_of-self : goal.invariant_of-self
invariant_of-self c =
    let s = c.self.inside in
    let within : c.args.place < length s.noted.items = subst (λ (l : List Noted). c.args.place < length l) (sym c.self.view_is) c.requires in
    (c.self.invariant.0, linked_written (slot (length s.heads.items)) s.heads.items s.noted.items c.args.place c.index_mut.result.now c.args.known within c.index_mut.ensures.value c.self.invariant.1)

use Rattle.std.proofs.Common.{◌≡◌, ◌+◌, ◌≤◌, drop, length, vec_capacity, Some, slice_get}
use Rattle.std.specs.Vec.Iter.{into_iter_items, into_iter_len}
use Rattle.wh_desk.specs.Lists.{AllAt}
use Rattle.wh_crew.specs.Work.{Worked}
use Rattle.wh_crew.proofs.threads.join_all.Given as goal

-- this many threads are joined, and the handles from there on are left
abbrev pub invariant-loop-handle : goal.invariant-loop-handle
invariant-loop-handle g l =
    (length l.reports.items + into_iter_len l.handle-iterator ≡ length l.fn.handles.items)
    × (into_iter_items l.handle-iterator ≡ drop (length l.reports.items) l.fn.handles.items)
    × (length l.fn.handles.items ≤ vec_capacity l.reports)
    × AllAt (λ i r. (h : _) → slice_get l.fn.handles.items i ≡ Some h → Worked g.P.Plans.fits_map g.P.Plans.slot_count g.N.DeskName.origin.site.grid (length g.N.DeskName.cells) h.promise.work.value.commands.items h.promise.work.value.spares.items h.promise.had.value r.pass r.missed) l.reports.items

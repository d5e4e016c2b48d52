use Rattle.std.proofs.Common.{◌≡◌, ◌+◌, ◌≤◌, drop, length, vec_capacity, Some, slice_get}
use Rattle.std.specs.Vec.Iter.{into_iter_items, into_iter_len}
use Rattle.wh_desk.specs.Lists.{AllAt}
use Rattle.wh_serve.specs.Texts.{InEach, receipt_text}
use Rattle.wh_serve.specs.Rows.{Attended}
use Rattle.wh_serve.proofs.threads.join_all.Given as goal

-- this many threads are joined, and the handles from there on are left
abbrev pub invariant-loop-handle : goal.invariant-loop-handle
invariant-loop-handle g l =
    (length l.reports.items + into_iter_len l.handle-iterator ≡ length l.fn.handles.items)
    × (into_iter_items l.handle-iterator ≡ drop (length l.reports.items) l.fn.handles.items)
    × (length l.fn.handles.items ≤ vec_capacity l.reports)
    × AllAt (λ i r. (h : _) → slice_get l.fn.handles.items i ≡ Some h → InEach r.pass.known (λ history. Attended (length g.N.DeskName.cells) g.P.Plans.fits_map g.P.Plans.slot_count g.N.DeskName.origin.site.grid (receipt_text h.promise.form g.N.DeskName.origin history) (λ x. g.R.Read.remaining x) (λ x. g.W.Write.contents x) h.promise.client.value h.promise.had.value r.pass r.connections)) l.reports.items

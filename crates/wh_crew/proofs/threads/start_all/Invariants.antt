use Rattle.std.proofs.Common.{◌≡◌, ◌+◌, ◌≤◌, drop, length, vec_capacity}
use Rattle.std.specs.Vec.Iter.{into_iter_items, into_iter_len}
use Rattle.wh_desk.specs.Lists.{AllAt}
use Rattle.wh_crew.specs.Work.{IsDue}
use Rattle.wh_crew.proofs.threads.start_all.Given as goal

-- this many threads are started, and the passes and works from there on are left
abbrev pub invariant-loop-pass : goal.invariant-loop-pass
invariant-loop-pass g l =
    (length l.handles.items + into_iter_len l.pass-iterator ≡ length l.fn.passes.items)
    × (into_iter_items l.pass-iterator ≡ drop (length l.handles.items) l.fn.passes.items)
    × (into_iter_items l.works ≡ drop (length l.handles.items) l.fn.works.items)
    × (length l.fn.passes.items ≤ vec_capacity l.handles)
    × AllAt (λ i h. IsDue l.fn.works.items l.fn.passes.items i h.promise.had.value h.promise.work.value) l.handles.items

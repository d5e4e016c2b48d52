use Rattle.std.proofs.Common.{◌+◌, ◌∙◌, ℕ, List, sym, ap, subst}
use Rattle.wh_snapshot.specs.Snapshots.{entries_told, entries_of}
use Rattle.wh_snapshot.proofs.Counting.{Tells, first_room, if_ok_map}
use Rattle.wh_snapshot.proofs.counts.counts_of.Goals as goal

pub count_history-requires-clause-room : goal.count_history-requires-clause-room
count_history-requires-clause-room c = first_room c.args.had.now c.args.history.now c.count_told.new.tally.items c.requires.room c.count_told.ensures.each

pub returns : goal.returns
returns c =
    let both : Tells c.count_history.new.tally.items (λ k. entries_told k c.args.had.now + entries_of k c.args.history.now) =
    λ k small. c.count_history.ensures.each k small ∙ ap (λ (n : ℕ). n + entries_of k c.args.history.now) (c.count_told.ensures.each k small) in
    let seen : Tells c.as_slice.result.now (λ k. entries_told k c.args.had.now + entries_of k c.args.history.now) =
    subst (λ (tally : List ℕ). Tells tally (λ k. entries_told k c.args.had.now + entries_of k c.args.history.now)) (sym c.as_slice.ensures.value) both in
    record { value = if_ok_map _ _ c.rows_of.result (λ counts tells. tells (λ k. entries_told k c.args.had.now + entries_of k c.args.history.now) seen) c.rows_of.ensures }

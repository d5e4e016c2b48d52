use Rattle.wh_snapshot.proofs.Counting.{told_room}
use Rattle.wh_snapshot.proofs.counts.count_told.Goals as goal

pub add-requires-clause-room : goal.add-requires-clause-room
add-requires-clause-room c =
    told_room c.args.had.now c.loop-count.count-index (record { caller = 0; entries = 0 }) c.loop-count.tally.items c.loop-count-test.true c.loop-count.invariant.tells c.requires.room

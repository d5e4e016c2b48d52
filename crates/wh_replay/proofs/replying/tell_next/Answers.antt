use Rattle.std.proofs.Common.{refl}
use Rattle.wh_log.specs.Told.{told_text}
use Rattle.wh_replay.proofs.Told.{tells_entry, begins_entry, from_entry}
use Rattle.wh_replay.proofs.replying.tell_next.Goals as goal

pub returns-in-Ok-clause-ok : goal.returns-in-Ok-clause-ok
returns-in-Ok-clause-ok g c =
    tells_entry (told_text c.args.form) c.args.history.now c.args.told _ _ c.in-Some.entry.now (from_entry _ _ _ c.in-Some.ensures.lookup.3.0 c.in-Some.ensures.lookup.1) _ refl c.clock_after.ensures c.in-Ok.ensures.ok

pub returns-in-Err-clause-err : goal.returns-in-Err-clause-err
returns-in-Err-clause-err g c =
    begins_entry (told_text c.args.form) c.args.history.now c.args.told _ _ c.in-Some.entry.now (from_entry _ _ _ c.in-Some.ensures.lookup.3.0 c.in-Some.ensures.lookup.1) c.in-Err.ensures.err

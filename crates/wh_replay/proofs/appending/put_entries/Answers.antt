use Rattle.wh_replay.proofs.Appended.{moves_nil, entry_waits, entry_fails}
use Rattle.wh_replay.proofs.appending.put_entries.Goals as goal

pub loop-entry-init : goal.loop-entry-init
loop-entry-init g c =
    moves_nil g.K.Keeper.is_safe g.K.Keeper.adds g.K.Keeper.leaves g.met.K.Keeper.adds_none g.met.K.Keeper.adds_both (g.K.Keeper.holds c.args.keeper.now) c.args.waiting.now.items

pub returns-in-Err-clause-err : goal.returns-in-Err-clause-err
returns-in-Err-clause-err g c =
    entry_fails g.K.Keeper.is_safe g.K.Keeper.adds g.K.Keeper.leaves g.met.K.Keeper.adds_none g.met.K.Keeper.adds_both (g.K.Keeper.holds c.args.keeper.now) (g.K.Keeper.holds c.loop-entry.keeper) (g.K.Keeper.holds c.put_entry.new.keeper)
    c.args.waiting.now.items c.loop-entry.waiting.items c.args.entries.now c.loop-entry.entry-index c.entry-item.result c.loop-entry-test.true c.entry-item.is c.loop-entry.invariant c.in-Err.ensures.err

pub loop-entry-preserved : goal.loop-entry-preserved
loop-entry-preserved g c =
    entry_waits g.K.Keeper.is_safe g.K.Keeper.adds g.K.Keeper.leaves g.met.K.Keeper.adds_none g.met.K.Keeper.adds_both (g.K.Keeper.holds c.args.keeper.now) (g.K.Keeper.holds c.loop-entry.keeper) (g.K.Keeper.holds c.put_entry.new.keeper)
    c.args.waiting.now.items c.loop-entry.waiting.items c.args.entries.now c.loop-entry.entry-index c.entry-item.result c.loop-entry-test.true c.entry-item.is c.loop-entry.invariant c.put_entry.new.waiting.items c.in-Ok.ensures.ok

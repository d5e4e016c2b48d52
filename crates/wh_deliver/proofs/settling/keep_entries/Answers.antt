use Rattle.wh_replay.specs.Appending.{lines_for}
use Rattle.wh_replay.proofs.Appended.{fails_alone}
use Rattle.wh_deliver.proofs.settling.keep_entries.Goals as goal

pub returns-in-Err-clause-err : goal.returns-in-Err-clause-err
returns-in-Err-clause-err g c =
    fails_alone g.K.Keeper.is_safe g.K.Keeper.adds g.K.Keeper.leaves g.met.K.Keeper.adds_none g.met.K.Keeper.adds_both (g.K.Keeper.holds c.args.keeper.now) (g.K.Keeper.holds c.append_entries.new.keeper) (lines_for c.args.entries.now) c.requires c.in-Err.ensures.err

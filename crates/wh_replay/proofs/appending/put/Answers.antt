use Rattle.std.proofs.Common.{◌++◌, [], refl}
use Rattle.wh_replay.proofs.Appended.{fails_first}
use Rattle.wh_replay.proofs.appending.put.Goals as goal

pub returns-in-Err-clause-err : goal.returns-in-Err-clause-err
returns-in-Err-clause-err g c =
    fails_first g.K.Keeper.is_safe g.K.Keeper.adds g.K.Keeper.leaves g.met.K.Keeper.adds_none g.met.K.Keeper.adds_both (g.K.Keeper.holds c.args.keeper.now) (g.K.Keeper.holds c.make_room.new.keeper)
    [] c.args.waiting.now.items c.args.bytes.now (c.args.waiting.now.items ++ c.args.bytes.now) refl c.in-Err.ensures.err

use Rattle.std.proofs.lemmas.Result.{on_ok_weaker, on_err_weaker}
use Rattle.wh_replay.specs.Appending.{lines_for, logged}
use Rattle.wh_replay.proofs.Appended.{fails_alone}
use Rattle.wh_replay.proofs.appending.keep_entries.Goals as goal

pub returns-clause-ok : goal.returns-clause-ok
returns-clause-ok g c =
    on_ok_weaker c.sync.result (λ kept. kept (g.K.Keeper.holds c.args.keeper.now) (logged (lines_for c.args.entries.now)) c.requires c.in-Ok.ensures.ok) c.sync.ensures.ok

pub returns-clause-err : goal.returns-clause-err
returns-clause-err g c =
    on_err_weaker c.sync.result (λ left. left (g.K.Keeper.holds c.args.keeper.now) (logged (lines_for c.args.entries.now)) c.requires c.in-Ok.ensures.ok) c.sync.ensures.err

pub returns-in-Err-clause-err : goal.returns-in-Err-clause-err
returns-in-Err-clause-err g c =
    fails_alone g.K.Keeper.is_safe g.K.Keeper.adds g.K.Keeper.leaves g.met.K.Keeper.adds_none g.met.K.Keeper.adds_both (g.K.Keeper.holds c.args.keeper.now) (g.K.Keeper.holds c.append_entries.new.keeper) (lines_for c.args.entries.now) c.requires c.in-Err.ensures.err

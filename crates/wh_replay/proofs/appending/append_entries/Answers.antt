use Rattle.std.proofs.Common.{[], ◌++◌, ℕ, List, subst}
use Rattle.std.proofs.lemmas.Result.{on_ok_weaker, on_err_weaker}
use Rattle.wh_replay.specs.Appending.{Moves, FailsAt, lines_for}
use Rattle.wh_replay.proofs.Appended.{moves_end, fails_waiting}
use Rattle.wh_replay.proofs.appending.append_entries.Goals as goal

pub returns-in-Err-clause-err : goal.returns-in-Err-clause-err
returns-in-Err-clause-err g c =
    subst (λ (r : List ℕ). FailsAt g.K.Keeper.is_safe g.K.Keeper.adds g.K.Keeper.leaves (g.K.Keeper.holds c.args.keeper.now) (g.K.Keeper.holds c.put_entries.new.keeper) (r ++ lines_for c.args.entries.now)) c.new-waiting.ensures c.in-Err.ensures.err

pub returns-clause-ok : goal.returns-clause-ok
returns-clause-ok g c =
    let moves : Moves g.K.Keeper.adds (g.K.Keeper.holds c.args.keeper.now) (g.K.Keeper.holds c.put_entries.new.keeper) [] c.put_entries.new.waiting.items (lines_for c.args.entries.now) =
    subst (λ (r : List ℕ). Moves g.K.Keeper.adds (g.K.Keeper.holds c.args.keeper.now) (g.K.Keeper.holds c.put_entries.new.keeper) r c.put_entries.new.waiting.items (lines_for c.args.entries.now)) c.new-waiting.ensures c.in-Ok.ensures.ok in
    on_ok_weaker c.add_waiting.result
    (λ p. moves_end g.K.Keeper.is_safe g.K.Keeper.adds g.K.Keeper.leaves g.met.K.Keeper.adds_none g.met.K.Keeper.adds_both (g.K.Keeper.holds c.args.keeper.now) (g.K.Keeper.holds c.put_entries.new.keeper) (g.K.Keeper.holds c.add_waiting.new.keeper)
    c.put_entries.new.waiting.items (lines_for c.args.entries.now) moves p)
    c.add_waiting.ensures.ok

pub returns-clause-err : goal.returns-clause-err
returns-clause-err g c =
    let moves : Moves g.K.Keeper.adds (g.K.Keeper.holds c.args.keeper.now) (g.K.Keeper.holds c.put_entries.new.keeper) [] c.put_entries.new.waiting.items (lines_for c.args.entries.now) =
    subst (λ (r : List ℕ). Moves g.K.Keeper.adds (g.K.Keeper.holds c.args.keeper.now) (g.K.Keeper.holds c.put_entries.new.keeper) r c.put_entries.new.waiting.items (lines_for c.args.entries.now)) c.new-waiting.ensures c.in-Ok.ensures.ok in
    on_err_weaker c.add_waiting.result
    (λ w. fails_waiting g.K.Keeper.is_safe g.K.Keeper.adds g.K.Keeper.leaves g.met.K.Keeper.adds_none g.met.K.Keeper.adds_both (g.K.Keeper.holds c.args.keeper.now) (g.K.Keeper.holds c.put_entries.new.keeper) (g.K.Keeper.holds c.add_waiting.new.keeper)
    c.put_entries.new.waiting.items (lines_for c.args.entries.now) moves w)
    c.add_waiting.ensures.err

use Rattle.std.proofs.Common.{◌∙◌, List, drop, refl, ap}
use Rattle.std.proofs.lemmas.Result.{on_ok_weaker, on_err_weaker}
use Rattle.wh_event.specs.declared.entry.Entry.{Entry}
use Rattle.wh_session.specs.Machines.{nothing}
use Rattle.wh_replay.specs.Appending.{lines_for, logged}
use Rattle.wh_dispatch.proofs.Kept.{is_set, entries_unkept, reports_unkept, both_added}
use Rattle.wh_dispatch.proofs.manned.MannedMachine.keep.Goals as goal

pub returns-in-Err-clause-err : goal.returns-in-Err-clause-err
returns-in-Err-clause-err g c s h =
    entries_unkept g.K.Keeper.is_safe g.K.Keeper.adds g.K.Keeper.leaves g.met.K.Keeper.adds_none g.met.K.Keeper.adds_both _ (is_set g.row.LOGGED c.if-not-this.false) c.behind.result.now _ (c.behind.ensures ∙ ap (λ (es : List Entry). drop c.args.self.now.first es) c.history.ensures.value)
    _ c.args.self.now.came.now.items refl (g.K.Keeper.holds c.args.keeper.now) c.requires.safe _ c.in-Err.ensures.err

pub returns-in-Err-add_more-clause-err : goal.returns-in-Err-add_more-clause-err
returns-in-Err-add_more-clause-err g c s h =
    reports_unkept g.K.Keeper.is_safe g.K.Keeper.adds g.K.Keeper.leaves g.met.K.Keeper.adds_none g.met.K.Keeper.adds_both _ (is_set g.row.LOGGED c.if-not-this.false) c.behind.result.now _ (c.behind.ensures ∙ ap (λ (es : List Entry). drop c.args.self.now.first es) c.history.ensures.value)
    c.as_slice.result.now c.args.self.now.came.now.items c.as_slice.ensures.value (g.K.Keeper.holds c.args.keeper.now) _
    (c.in-Err-add_more.ensures.err (g.K.Keeper.holds c.args.keeper.now) (logged (lines_for c.behind.result.now)) nothing c.requires.safe c.in-Ok.ensures.ok refl)

pub returns-clause-ok : goal.returns-clause-ok
returns-clause-ok g c =
    let both = both_added g.K.Keeper.is_safe g.K.Keeper.adds g.K.Keeper.leaves g.met.K.Keeper.adds_none g.met.K.Keeper.adds_both _ (is_set g.row.LOGGED c.if-not-this.false) c.behind.result.now _ (c.behind.ensures ∙ ap (λ (es : List Entry). drop c.args.self.now.first es) c.history.ensures.value)
    c.as_slice.result.now c.args.self.now.came.now.items c.as_slice.ensures.value (g.K.Keeper.holds c.args.keeper.now) _ _ c.in-Ok.ensures.ok c.in-Ok-add_more.ensures.ok in
    on_ok_weaker c.sync.result (λ keeps s h. keeps (g.K.Keeper.holds c.args.keeper.now) _ c.requires.safe both) c.sync.ensures.ok

pub returns-clause-err : goal.returns-clause-err
returns-clause-err g c =
    let both = both_added g.K.Keeper.is_safe g.K.Keeper.adds g.K.Keeper.leaves g.met.K.Keeper.adds_none g.met.K.Keeper.adds_both _ (is_set g.row.LOGGED c.if-not-this.false) c.behind.result.now _ (c.behind.ensures ∙ ap (λ (es : List Entry). drop c.args.self.now.first es) c.history.ensures.value)
    c.as_slice.result.now c.args.self.now.came.now.items c.as_slice.ensures.value (g.K.Keeper.holds c.args.keeper.now) _ _ c.in-Ok.ensures.ok c.in-Ok-add_more.ensures.ok in
    on_err_weaker c.sync.result (λ leaves s h. leaves (g.K.Keeper.holds c.args.keeper.now) _ c.requires.safe both) c.sync.ensures.err

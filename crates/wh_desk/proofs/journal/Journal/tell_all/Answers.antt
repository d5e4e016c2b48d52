use Rattle.std.proofs.Common.{List, ap, sym, subst, ◌∙◌}
use Rattle.wh_core.specs.Steps.{Run}
use Rattle.wh_event.specs.declared.entry.Entry.{Entry}
use Rattle.wh_desk.proofs.journal.Journal.tell_all.Goals as goal

pub learn-requires-clause-run : goal.learn-requires-clause-run
learn-requires-clause-run g c =
    let origin = g.N.DeskName.origin in
    let state = c.args.self.now.state in
    (state, subst (λ (h : List Entry). Run origin.site origin.opening h state) (sym c.front.ensures.history) c.is_run.ensures)

pub returns : goal.returns
returns g c = c.learn.ensures ∙ ap (λ (h : List Entry). record { caller = c.args.pass.now.caller; list = c.args.pass.now.list; known = h }) c.front.ensures.history

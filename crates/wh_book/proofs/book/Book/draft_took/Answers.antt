use Rattle.std.proofs.Common.{◌≡◌, ◌∙◌, ap, subst}
use Rattle.std.specs.Prelude.{Some, slice_get}
use Rattle.wh_tasks.specs.declared.task.Load.{Load}
use Rattle.wh_core.specs.States.{State}
use Rattle.wh_state.specs.Standings.{Standing}
use Rattle.wh_book.specs.Drafts.{Seen, IsKept}
use Rattle.wh_book.proofs.Kept.{took-drafts, went_on-drafts}
use Rattle.wh_book.proofs.book.Book.draft_took.Goals.{then-is_idle, else-is_idle}
use Rattle.wh_book.proofs.book.Book.draft_took.Goals as goal

pub returns-clause-drafts : goal.returns-clause-drafts
returns-clause-drafts c =
    let book = c.args.self.now in
    let kept = subst (λ (s : Seen). IsKept s.site s.opening s.history s.state) c.self.view_is c.self.invariant.kept in
    let lawful = c.requires.lawful in
    let same : c.reserve_path.new.self.state ≡ book.state = ap (λ (f : Standing). f.state) c.reserve_path.ensures.same ∙ ap (λ (s : Seen). s.state) c.self.view_is in
    elim c.if-is_idle.branch [
      | then-is_idle w ↦
          let idle : slice_get book.state.loads c.args.agent ≡ Some Load.None =
          subst (λ (s : State). slice_get s.loads c.args.agent ≡ Some Load.None) same (c.is_idle.ensures.0 w.if-is_idle.true) in
          rw (w.change-is, c.in_ok-copy.ensures) (took-drafts book c.args.caller c.args.agent c.args.task c.args.path lawful.0 idle c.requires.due lawful.1 lawful.2 c.requires.room)
      | else-is_idle w ↦
          let busy : ¬ (slice_get book.state.loads c.args.agent ≡ Some Load.None) =
          subst (λ (s : State). ¬ (slice_get s.loads c.args.agent ≡ Some Load.None)) same (λ idle. (let e = c.is_idle.ensures.1 idle in let f = w.if-is_idle.false in cc)) in
          rw (w.change-is, c.in_ok-copy.ensures) (went_on-drafts book c.args.caller c.args.agent c.args.task c.args.path lawful.0 kept busy c.requires.due lawful.1 lawful.2 c.requires.room)
    ]

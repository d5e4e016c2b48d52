use Rattle.std.proofs.Common.{◌≡◌, sym, ap, subst}
use Rattle.std.specs.Prelude.{IfSome}
use Rattle.wh_points.specs.Points.{Site}
use Rattle.wh_tasks.specs.declared.task.Task.{Task}
use Rattle.wh_core.specs.States.{State}
use Rattle.wh_core.specs.Steps.{IsNext}
use Rattle.wh_book.specs.Drafts.{Seen}
use Rattle.wh_book.proofs.Askers.{if-some}
use Rattle.wh_book.proofs.book.Book.next.Goals as goal

pub returns-clause-next : goal.returns-clause-next
returns-clause-next c =
    let site = c.args.self.now.site in
    let agent = c.args.agent in
    let state = c.self.inside.floor.state in
    let same : state ≡ c.args.self.now.state = ap (λ (b : Seen). b.state) c.self.view_is in
    subst (λ (s : State). IfSome c.next_task.result (λ n. (task : Task) × IsNext site s agent n task)) same
    (if-some c.next_task.result (λ n. (at : Site) → at.grid ≡ c.args.near.now.grid → (task : Task) × IsNext at state agent n task)
    (λ n. (task : Task) × IsNext site state agent n task) (λ n each. each site (sym c.requires.over)) c.next_task.ensures.next)

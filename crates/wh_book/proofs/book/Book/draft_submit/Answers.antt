use Rattle.std.proofs.Common.{◌≡◌, ◌∙◌, ap, sym, length}
use Rattle.wh_book.specs.Drafts.{Seen}
use Rattle.wh_book.proofs.Naming.{refuses-fault, all-stations}
use Rattle.wh_book.proofs.book.Book.draft_submit.Goals as goal

pub refuse-requires-clause-refuses : goal.refuse-requires-clause-refuses
refuse-requires-clause-refuses c =
    let site : c.self.inside.setting ≡ c.args.self.now.site = ap (λ (s : Seen). s.site) c.self.view_is in
    let fault = rw (site, c.stops-2.ensures) at c.in-Err.ensures.fault in
    rw (c.refusal_of-refusal.ensures, c.stops-in-Err.ensures) (refuses-fault c.args.self.now.site c.args.self.now.state c.args.client c.in_ok-stops.stops c.in-Err.fault c.requires.not_closed fault)

pub refuse-requires-then-task-eq-MOST_TASKS-clause-refuses : goal.refuse-requires-then-task-eq-MOST_TASKS-clause-refuses
refuse-requires-then-task-eq-MOST_TASKS-clause-refuses c =
    let site : c.self.inside.setting ≡ c.args.self.now.site = ap (λ (s : Seen). s.site) c.self.view_is in
    let places = rw (site, c.stops-2.ensures) at c.in-Ok.ensures.places in (
      c.requires.not_closed,
      all-stations c.args.self.now.site.layout c.in_ok-stops.stops c.in-Ok.places places,
      sym (ap (λ ts. length ts) (c.tasks.ensures.tasks ∙ ap (λ (s : Seen). s.state.tasks) c.self.view_is)) ∙ sym c.len-task.ensures.count ∙ c.if-task-eq-MOST_TASKS.true,
    )

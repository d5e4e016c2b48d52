use Rattle.std.proofs.Common.{◌≡◌, ◌∙◌, ◌++◌, ◌∷◌, [], ap}
use Rattle.wh_book.specs.Drafts.{Seen}
use Rattle.wh_token.specs.Houses.{House}
use Rattle.wh_token.proofs.Runs.{moved-by-choice}
use Rattle.wh_token.proofs.warehouse.Warehouse.add_choice.Goals as goal

pub returns-in-Ok : goal.returns-in-Ok
returns-in-Ok g c =
    let old = c.args.self.now.book in
    let mid = c.draft_choice.new.self.book in
    let new = c.commit_draft-none.new.self.book in
    let entry = c.in-Ok.draft.entry in
    let same = c.reserve_entry.ensures.same in
    let made = c.commit_draft-none.ensures in
    let site : mid.site ≡ old.site = ap (λ (s : Seen). s.site) c.draft_choice.ensures.book ∙ same.site ∙ ap (λ (h : House g.row.P.Denot). h.book.site) c.self.view_is in
    let opening : mid.opening ≡ old.opening = ap (λ (s : Seen). s.opening) c.draft_choice.ensures.book ∙ same.opening ∙ ap (λ (h : House g.row.P.Denot). h.book.opening) c.self.view_is in
    let state : mid.state ≡ old.state = ap (λ (s : Seen). s.state) c.draft_choice.ensures.book ∙ same.state ∙ ap (λ (h : House g.row.P.Denot). h.book.state) c.self.view_is in
    let history : mid.history ≡ old.history = ap (λ (s : Seen). s.history) c.draft_choice.ensures.book ∙ same.history ∙ ap (λ (h : House g.row.P.Denot). h.book.history) c.self.view_is in
    let step = rw (site, state) at made.step in
    record {
      runs = λ spares. moved-by-choice g.P.Plans.fits_map g.P.Plans.slot_count c.args.caller c.args.agent entry old spares new c.in-Ok.ensures.drafts.caller_is c.in-Ok.ensures.drafts.event_is step
          (record { site = made.stays.site ∙ site; opening = made.stays.opening ∙ opening }) (made.history ∙ ap (λ es. es ++ entry ∷ []) history);
    }

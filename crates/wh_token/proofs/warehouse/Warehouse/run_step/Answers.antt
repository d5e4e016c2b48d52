use Rattle.std.proofs.Common.{rules, refl, arith, ap, ◌∙◌, ◌++◌, ◌∷◌, [], Some}
use Rattle.std.proofs.lemmas.Grind.{common_steps}
use Rattle.wh_token.proofs.Runs.{tells_of}
use Rattle.wh_token.proofs.warehouse.Warehouse.run_step.Goals.{then-wants, else-wants}
use Rattle.wh_token.proofs.warehouse.Warehouse.run_step.Goals as goal

pub returns-in-Ok : goal.returns-in-Ok
returns-in-Ok g c =
    let entry = c.in-Ok.draft.entry in
    let same = c.draft.ensures.same in
    let event = rw c.copy.ensures at c.in-Ok.ensures.drafts.event_is in
    let tells = tells_of g.P.Plans.fits_map g.P.Plans.slot_count c.args.self.now.book.site.grid c.if-wants.spare c.args.command.now c.tell-told.result entry.event c.tell-told.ensures event in
    record {
      runs = record {
        outcome = Some entry;
        added_is = refl;
        history = c.commit_draft.ensures.history ∙ ap (λ h. h ++ entry ∷ []) same.history;
        moves = (
          c.in-Ok.ensures.drafts.caller_is,
          rw (same.site, same.state) at c.commit_draft.ensures.step,
          (c.tell-told.result, event),
          record {
            last = λ wants. elim c.if-wants.branch [
              | then-wants w ↦ record { spare = c.if-wants.spare; taken = search rules; none_left = grind (arith, common_steps); tells = tells }
              | else-wants w ↦ absurd (search rules)
            ];
            other = λ unwanted. elim c.if-wants.branch [
              | then-wants w ↦ absurd (search rules)
              | else-wants w ↦ search rules
            ];
            none_told = λ unwanted. elim c.if-wants.branch [
              | then-wants w ↦ absurd (search rules)
              | else-wants w ↦ rw w.spare-is at tells
            ];
          },
        );
        stays = record { site = c.commit_draft.ensures.stays.site ∙ same.site; opening = c.commit_draft.ensures.stays.opening ∙ same.opening };
      };
    }

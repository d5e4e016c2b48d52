use Rattle.std.proofs.Common.{◌∙◌, ap, ℕ, Bool}
use denote.Param.Object.{read_made}
use Rattle.wh_claims.specs.Claim.{claim_amount}
use Rattle.wh_grid.proofs.Same.{same_at}
use Rattle.wh_acceptance.proofs.answers.fn.served.make.Hides as hides
use Rattle.wh_acceptance.specs.contracts.answers.fn.served.make.{dyn-1-ghosts}
use Rattle.wh_acceptance.proofs.answers.fn.served.make.Goals as goal

-- what a box tells is what the planner in it tells
pub returns-in_ok-new-in-Near : goal.returns-in_ok-new-in-Near
returns-in_ok-new-in-Near g c =
    let has = hides.has-1-1 g.dyn-1.0 g.dyn-1-has in
    let made = c.into_dyn_box.ensures.1 in
    let late = c.with_slack.ensures in
    let inner = c.in_ok-new-in-Near.ensures.ok ∙ c.with_effort-bounded.ensures in
    record {
      on_grid =
          read_made (dyn-1-ghosts g.dyn-1).0 _ (has.at tt) (has.same tt) Bool (λ j v. j.1.Plans.fits_map v c.args.parts.grid.value) _ _ _ made
          ∙ same_at _ _ (ap (λ n. n.grid) inner ∙ ap (λ n. n.grid) late ∙ c.in_ok-sharing-in-Near.ensures.grid);
      has_slots =
          read_made (dyn-1-ghosts g.dyn-1).0 _ (has.at tt) (has.same tt) ℕ (λ j v. j.1.Plans.slot_count v) _ _ _ made
          ∙ ap (λ n. claim_amount n.claim) inner ∙ ap (λ n. claim_amount n.claim) late ∙ ap claim_amount c.in_ok-sharing-in-Near.ensures.claim;
    }

pub returns-in_ok-new-in-Patient : goal.returns-in_ok-new-in-Patient
returns-in_ok-new-in-Patient g c =
    let has = hides.has-1-2 g.dyn-1.0 g.dyn-1-has in
    let made = c.into_dyn_box-in_ok-new-in-Patient.ensures.1 in
    let inner = c.in_ok-new-in-Patient.ensures.ok ∙ c.new-in-Patient.ensures in
    record {
      on_grid =
          read_made (dyn-1-ghosts g.dyn-1).0 _ (has.at tt) (has.same tt) Bool (λ j v. j.1.Plans.fits_map v c.args.parts.grid.value) _ _ _ made
          ∙ same_at _ _ (ap (λ p. p.grid) inner);
      has_slots =
          read_made (dyn-1-ghosts g.dyn-1).0 _ (has.at tt) (has.same tt) ℕ (λ j v. j.1.Plans.slot_count v) _ _ _ made
          ∙ ap (λ p. claim_amount p.claim) inner;
    }

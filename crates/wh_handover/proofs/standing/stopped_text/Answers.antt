use Rattle.std.proofs.Common.{◌∙◌, List, ℕ, inl, inr, subst}
use Rattle.wh_points.specs.Points.{Site}
use Rattle.wh_restore.specs.SoundFronts.{state_told}
use Rattle.wh_handover.specs.Standing.{HoldsSound, IsUnsound}
use Rattle.wh_handover.proofs.Standings.{sound_is, stand_is}
use Rattle.wh_handover.proofs.standing.stopped_text.Goals as goal

pub returns-in-Err-clause-fault : goal.returns-in-Err-clause-fault
returns-in-Err-clause-fault c = inl c.in-Err.ensures.fault

pub returns-in-Ok-judge-clause-ok : goal.returns-in-Ok-judge-clause-ok
returns-in-Ok-judge-clause-ok c =
    let front = c.in-Ok.front in
    let told = c.in-Ok-front_text.told.items in
    let holds : HoldsSound c.args.resumed.now.book.site told =
    subst (λ (s : Site). HoldsSound s told) c.setting.ensures (subst (λ (t : List ℕ). HoldsSound c.setting.result.now t) c.as_slice.ensures.value c.in-Ok-judge.ensures.ok) in
    let begins = sound_is c.args.resumed.now.book.site front told c.in-Ok.ensures.ok.fits c.in-Ok-front_text.ensures.text holds in
    record {
      front = front;
      is = c.in-Ok.ensures.ok;
      told_is = c.in-Ok-front_text.ensures.text;
      begins = begins;
      stand = stand_is c.args.resumed.now.book.site (state_told front) c.args.places.now c.in-Ok.ensures.ok.paths begins;
    }

pub returns-in-Err-judge-clause-fault : goal.returns-in-Err-judge-clause-fault
returns-in-Err-judge-clause-fault c =
    let why = subst (λ (s : Site). IsUnsound s c.as_slice.result.now c.in-Err-judge.fault) c.setting.ensures c.in-Err-judge.ensures.fault in
    inr (c.in-Ok.front, c.in-Ok.ensures.ok, subst (λ (t : List ℕ). IsUnsound c.args.resumed.now.book.site t c.in-Err-judge.fault) (c.as_slice.ensures.value ∙ c.in-Ok-front_text.ensures.text) why)

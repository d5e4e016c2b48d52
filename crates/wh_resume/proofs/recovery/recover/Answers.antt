use Rattle.std.proofs.Common.{◌≡◌, ◌∙◌, ◌<◌, ◌-◌, ◌^◌, ℕ, List, length, refl, sym, subst, arith}
use Rattle.std.proofs.lemmas.Bool.{false≢true}
use Rattle.std.specs.Prelude.{IfSome}
use Rattle.wh_resume.specs.Behind.{IsVersionThree}
use Rattle.wh_resume.specs.Resuming.{IsFront}
use Rattle.wh_resume.specs.Looking.{HoldsAtLeast}
use Rattle.wh_resume.proofs.Reading.{front_none, not_three, three_more}
use Rattle.wh_resume.proofs.recovery.recover.Goals as goal

pub read_from-requires : goal.read_from-requires
read_from-requires g c = subst (λ read. IfSome (g.S.Source.held c.args.source.now) (IsFront read)) (sym c.new-text.ensures.items) (front_none (g.S.Source.held c.args.source.now))

pub recover_two-requires-clause-version : goal.recover_two-requires-clause-version
recover_two-requires-clause-version g c =
    let held = g.S.Source.held c.args.source.now in
    let none : IsVersionThree c.read_from.new.read.items → ⊥ = λ three. false≢true (sym c.if-not-is_version_three.true ∙ c.is_version_three.ensures.1 (subst (λ (t : List ℕ). IsVersionThree t) (sym c.as_slice.ensures.value) three)) in
    subst (λ h. IfSome h (λ bytes. IsVersionThree bytes → ⊥)) (sym c.read_from.ensures.same) (not_three held 7 c.read_from.new.read.items refl c.in_default.ensures.ok none)

pub returns-in-Ok-clause-told : goal.returns-in-Ok-clause-told
returns-in-Ok-clause-told g c =
    let held = g.S.Source.held c.args.source.now in
    let text = c.read_from-2.new.read in
    let here : HoldsAtLeast (g.S.Source.held c.read_from.new.source) (2 ^ 64 - 1) text.items = c.in_default-read_from.ensures.ok in
    let all = subst (λ h. HoldsAtLeast h (2 ^ 64 - 1) text.items) c.read_from.ensures.same here in
    (text.items, all.all (omega (arith, text.ok.0, text.ok.1)), c.in-Ok.ensures c.args.begun.now)

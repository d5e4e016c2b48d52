use Rattle.std.proofs.Common.{◌≡◌, ◌≤◌, ◌∙◌, ℕ, List, Option, length, sym, subst}
use Rattle.wh_points.specs.Points.{Site, IsLayout}
use Rattle.wh_log.specs.Torn.{Recovers}
use Rattle.wh_log.specs.declared.front_log.Front.{Front}
use Rattle.wh_judge.specs.Following.{Opens, Steps}
use Rattle.wh_judge.specs.Judged.{Judged}
use Rattle.wh_judge.specs.Verifying.{told_front}
use Rattle.wh_judge.specs.declared.verifier.VerifiedFront.{VerifiedFront}
use Rattle.wh_judge.proofs.Telling.{SaysTold, can_open, says_front, says_unopened}
use Rattle.wh_judge.proofs.verifier.verify_unended.Goals as goal

pub follow_front-requires : goal.follow_front-requires
follow_front-requires c =
    let site = c.args.instance in
    let few : length site.layout.agents ≤ 256 = rw (← c.agents-agents.ensures.value) c.agents-agents.ensures.few in
    can_open site c.in_ok-follower.follower (c.in_ok-follower.ensures ∙ c.again.ensures) c.requires.some few

-- what was said of the front is told
told_so : (site : Site) (log text : List ℕ) (first new : Judged) (front : Front) (told : Option VerifiedFront) → IsLayout site.grid site.layout → first.site ≡ site → text ≡ log
    → Recovers Opens Steps text first new front → told ≡ told_front front → SaysTold site log told
told_so site log text first new front told layout is held said same =
    subst (λ (t : List ℕ). SaysTold site t told) held
    (subst (λ (o : Option VerifiedFront). SaysTold site text o) (sym same) (says_front site first new text front layout is said))

pub returns-in-Some : goal.returns-in-Some
returns-in-Some c =
    let site = c.args.instance in
    let said = c.in-Ok.ensures.front in
    let told : SaysTold site c.args.log.now c.told_of-told.result = told_so site c.args.log.now said.0 c.in_ok-follower.follower c.follow_front.new.judge c.in-Ok.front c.told_of-told.result
    c.grid-grid.ensures.layout (c.in_ok-follower.ensures ∙ c.again.ensures) said.1 said.2 c.told_of-told.ensures in
    record { says = subst (λ (o : Option VerifiedFront). SaysTold site c.args.log.now o) c.in-Some.is told }

pub returns-in_ok-verified-in-None : goal.returns-in_ok-verified-in-None
returns-in_ok-verified-in-None c =
    let site = c.args.instance in
    let said = c.in-Ok.ensures.front in
    let told : SaysTold site c.args.log.now c.told_of-told.result = told_so site c.args.log.now said.0 c.in_ok-follower.follower c.follow_front.new.judge c.in-Ok.front c.told_of-told.result
    c.grid-grid.ensures.layout (c.in_ok-follower.ensures ∙ c.again.ensures) said.1 said.2 c.told_of-told.ensures in
    record {
      says = says_unopened site c.args.log.now c.in_ok-verified-in-None.verified
          (subst (λ (o : Option VerifiedFront). SaysTold site c.args.log.now o) c.in-None.is told)
          c.in_ok-verified-in-None.ensures.says;
    }

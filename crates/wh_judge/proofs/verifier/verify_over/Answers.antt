use Rattle.std.proofs.Common.{◌≤◌, length, subst}
use Rattle.wh_log.specs.declared.follow_log.Followed.{Followed}
use Rattle.wh_log.specs.Judges.{Concludes}
use Rattle.wh_judge.specs.declared.verifier.Verified.TheVariants as told
use Rattle.wh_judge.specs.Following.{Opens, Steps}
use Rattle.wh_judge.proofs.Telling.{can_open, says_run, says_bad, says_only}
use Rattle.wh_judge.proofs.verifier.verify_over.Goals as goal

pub follow-requires : goal.follow-requires
follow-requires c =
    let site = c.args.instance in
    let few : length site.layout.agents ≤ 256 = rw (← c.agents-agents.ensures.value) c.agents-agents.ensures.few in
    can_open site c.in_ok-follower.follower c.in_ok-follower.ensures c.requires.some few

pub returns-in-Whole-clause-says : goal.returns-in-Whole-clause-says
returns-in-Whole-clause-says c =
    let site = c.args.instance in
    let first = c.in_ok-follower.follower in
    let said = subst (λ (r : Followed). Concludes Opens Steps c.args.log.now first c.follow.new.judge r) c.in-Whole.is c.in_ok-entries.ensures in
    says_run site first c.follow.new.judge c.args.log.now c.in-Whole.entries c.grid-grid.ensures.layout c.in_ok-follower.ensures said

pub returns-in-Whole-clause-run : goal.returns-in-Whole-clause-run
returns-in-Whole-clause-run c =
    let site = c.args.instance in
    let first = c.in_ok-follower.follower in
    let said = subst (λ (r : Followed). Concludes Opens Steps c.args.log.now first c.follow.new.judge r) c.in-Whole.is c.in_ok-entries.ensures in
    let says = says_run site first c.follow.new.judge c.args.log.now c.in-Whole.entries c.grid-grid.ensures.layout c.in_ok-follower.ensures said in
    λ content is history. says_only site c.args.log.now (told.Run c.in-Whole.entries) content says is history

pub returns-clause-says : goal.returns-clause-says
returns-clause-says c =
    let site = c.args.instance in
    let first = c.in_ok-follower.follower in
    let said = subst (λ (r : Followed). Concludes Opens Steps c.args.log.now first c.follow.new.judge r) c.in-Bad.is c.in_ok-entries.ensures in
    says_bad site first c.follow.new.judge c.args.log.now c.in-Bad.line c.grid-grid.ensures.layout c.in_ok-follower.ensures said

pub returns-clause-run : goal.returns-clause-run
returns-clause-run c =
    let site = c.args.instance in
    let first = c.in_ok-follower.follower in
    let said = subst (λ (r : Followed). Concludes Opens Steps c.args.log.now first c.follow.new.judge r) c.in-Bad.is c.in_ok-entries.ensures in
    let says = says_bad site first c.follow.new.judge c.args.log.now c.in-Bad.line c.grid-grid.ensures.layout c.in_ok-follower.ensures said in
    λ content is history. says_only site c.args.log.now (told.Bad c.in-Bad.line) content says is history

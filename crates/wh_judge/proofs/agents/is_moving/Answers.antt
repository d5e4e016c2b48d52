use Rattle.std.proofs.Common.{◌≢◌, sym, subst}
use Rattle.std.proofs.lemmas.Bool.{eqb-true, eq-eqb}
use Rattle.wh_core.specs.Steps.{IsIdleIn}
use Rattle.wh_core.proofs.Idle.{idle-one}
use Rattle.wh_judge.proofs.agents.is_moving.Goals as goal

pub returns : goal.returns
returns c =
    let site = c.args.instance.now in
    let s = c.args.floor.now.state in
    let agent = c.args.agent in
    let left = c.args.left in
    let known = c.is_known.ensures.0 c.if-not-is_known.false in
    let told = c.ticks_until_idle.ensures site (sym c.homes.ensures) in
    let later : left ≢ 0 = c.if-left-eq0.false in (
      λ e. (known, subst (λ k. IsIdleIn site s agent k) (sym (eqb-true left c.ticks_until_idle.result e)) told, later),
      λ moving. eq-eqb left c.ticks_until_idle.result (idle-one site s agent left c.ticks_until_idle.result moving.1 told),
    )

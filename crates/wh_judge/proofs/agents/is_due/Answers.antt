use Rattle.std.proofs.Common.{sym, subst}
use Rattle.std.proofs.lemmas.Bool.{eqb-true, eq-eqb}
use Rattle.wh_core.specs.Steps.{IsIdleIn}
use Rattle.wh_core.proofs.Idle.{idle-none}
use Rattle.wh_judge.proofs.agents.is_due.Goals as goal

pub returns : goal.returns
returns c =
    let site = c.args.instance.now in
    let s = c.args.floor.now.state in
    let agent = c.args.agent in
    let known = c.is_known.ensures.0 c.if-not-is_known.false in
    let told = c.ticks_until_idle.ensures site (sym c.homes.ensures) in (
      λ e. record { known = known; idle = subst (λ k. IsIdleIn site s agent k) (eqb-true c.ticks_until_idle.result 0 e) told },
      λ due. eq-eqb c.ticks_until_idle.result 0 (idle-none site s agent c.ticks_until_idle.result due.idle told),
    )

use Rattle.std.proofs.Common.{sym, subst}
use Rattle.wh_core.specs.States.{State}
use Rattle.wh_core.specs.Laws.{AllOnTheirWays}
use Rattle.wh_judge.specs.Judged.{IsReachable}
use Rattle.wh_judge.proofs.Reaching.{reached-bool, ways-bool, step-bool}
use Rattle.wh_judge.proofs.judge.Judge.step.Goals as goal

pub invariant_of-self : goal.invariant_of-self
invariant_of-self c =
    let same = sym c.in_err-is_step.ensures.err in (
      subst (λ (s : State). IsReachable c.self.inside.instance s) same c.self.invariant.0,
      c.answer.ensures.grid,
      λ e. subst (λ (s : State). AllOnTheirWays c.self.inside.instance s) same (c.self.invariant.2 e),
    )

pub has_stray-self-inside-requires-clause-reached : goal.has_stray-self-inside-requires-clause-reached
has_stray-self-inside-requires-clause-reached c =
    reached-bool c.self.inside.instance c.self.inside.floor.state c.args.entry.reply c.args.entry.event c.answer.new.floor.state c.in_ok-is_step.is_step c.self.invariant.0
    c.in_ok-is_step.ensures.answer c.in_ok-is_step.ensures.kept

pub has_stray-self-inside-requires-clause-ways : goal.has_stray-self-inside-requires-clause-ways
has_stray-self-inside-requires-clause-ways c = λ e.
    ways-bool c.self.inside.instance c.self.inside.floor.state c.args.entry.reply c.args.entry.event c.answer.new.floor.state c.in_ok-is_step.is_step c.self.invariant.0
    (c.self.invariant.2 e) c.in_ok-is_step.ensures.answer c.in_ok-is_step.ensures.kept

pub invariant_of-self-2 : goal.invariant_of-self-2
invariant_of-self-2 c = (
  reached-bool c.self.inside.instance c.self.inside.floor.state c.args.entry.reply c.args.entry.event c.answer.new.floor.state c.in_ok-is_step.is_step c.self.invariant.0
      c.in_ok-is_step.ensures.answer c.in_ok-is_step.ensures.kept,
  c.answer.ensures.grid,
  c.has_stray-self-inside.ensures,
)

pub returns-clause-step : goal.returns-clause-step
returns-clause-step c =
    rw (← c.self.view_is) (step-bool c.self.inside.instance c.self.inside.floor.state c.args.entry c.answer.new.floor.state c.in_ok-is_step.is_step c.in_ok-is_step.ensures.answer)

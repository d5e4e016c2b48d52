use Rattle.std.proofs.Common.{◌∙◌, ap, sym, subst}
use Rattle.wh_field.specs.Fields.{Seeking}
use Rattle.wh_core.specs.States.{State}
use Rattle.wh_book.specs.Columns.{state_in}
use Rattle.wh_judge.specs.Judged.{IsReachable}
use Rattle.wh_judge.proofs.Reachable.{reached-begun}
use Rattle.wh_judge.proofs.judge.Judge.begin.Goals as goal

pub of-requires : goal.of-requires
of-requires c =
    record { site = c.args.instance; few = rw (← c.agents-agents.ensures.value) c.agents-agents.ensures.few; sound = c.requires.sound }

pub has_stray-strays-requires-clause-reached : goal.has_stray-strays-requires-clause-reached
has_stray-strays-requires-clause-reached c =
    subst (λ (s : State). IsReachable c.args.instance s) (sym c.in_ok-floor.ensures) (reached-begun c.args.instance (state_in c.args.parts.now) c.requires)

pub invariant_of-result : goal.invariant_of-result
invariant_of-result c = (
  subst (λ (s : State). IsReachable c.args.instance s) (sym c.in_ok-floor.ensures) (reached-begun c.args.instance (state_in c.args.parts.now) c.requires),
  ap (λ (f : Seeking). f.grid) c.in_ok-near.ensures ∙ c.grid-grid.ensures.value,
  c.has_stray-strays.ensures,
)

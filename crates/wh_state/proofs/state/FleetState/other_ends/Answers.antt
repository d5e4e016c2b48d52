use Rattle.std.proofs.Common.{◌∙◌, ap}
use Rattle.wh_path.specs.Paths.{ends, others}
use Rattle.wh_state.specs.Standings.{Standing}
use Rattle.wh_state.proofs.StandingLemmas.{ends-others}
use Rattle.wh_state.proofs.state.FleetState.other_ends.Goals as goal

pub returns : goal.returns
returns c =
    c.other_ends.ensures ∙ ends-others c.self.inside.paths c.self.inside.tasks.ends c.args.agent c.self.invariant.0.ends_each
    ∙ ap (λ (v : Standing). ends (others v.state.paths c.args.agent)) c.self.view_is

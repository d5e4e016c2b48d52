use Rattle.std.proofs.Common.{◌≡◌, ◌<◌, Some, Ok, length, subst, ◌∙◌, sym, arith, ap, ℕ, List}
use Rattle.wh_points.specs.Points.{Layout}
use Rattle.wh_points.specs.PointLines.{starts_at}
use Rattle.wh_points.proofs.LineSteps.{agent_started}
use Rattle.wh_points.proofs.draft.Draft.start.Goals as goal

pub returns : goal.returns
returns c =
    let count : length c.agents.result.now ≡ length c.self.inside.points.agents = ap (λ (ns : List ℕ). length ns) c.agents.ensures.value in
    let few : length c.agents.result.now < 256 = c.if-agents-ge-MOST_AGENTS.false in
    subst (λ (layout : Layout). starts_at layout (Some c.args.number) ≡ Ok c.in_ok-points.points) c.self.view_is
    (agent_started c.self.inside.points c.in_ok-points.points c.args.number (sym c.is_start.ensures ∙ c.if-is_start.false) (omega arith) c.in_ok-points.ensures)

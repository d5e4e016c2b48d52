use Rattle.std.proofs.Common.{◌≡◌, ℕ, ◌<◌, ◌≤◌, List, length, sym, ap, subst, ◌∙◌, below_more, arith}
use Rattle.std.proofs.lemmas.Bool.{false≢true}
use Rattle.wh_grid.specs.declared.cell.Cell.{Cell}
use Rattle.wh_core.specs.Laws.{IsOnItsWay}
use Rattle.wh_stand.specs.Ways.{site_at}
use Rattle.wh_stand.proofs.ways.first_stray.Goals as goal

pub overflow_cast-result : goal.overflow_cast-result
overflow_cast-result c =
    let few : length c.args.points.now.agents ≤ 256 = rw (← c.agents-agents.ensures.value) c.agents-agents.ensures.bound in
    let seats : length c.args.floor.now.state.paths ≡ length c.args.points.now.agents = c.requires.1.sound.seats.paths in
    let size : length c.paths-agent-end.result.now ≡ length c.args.floor.now.state.paths = ap length c.paths-agent-end.ensures.value in
    omega (arith, c.loop-agent-test.true)

pub returns-then-not-is_on_its_way-clause-some : goal.returns-then-not-is_on_its_way-clause-some
returns-then-not-is_on_its_way-clause-some c = λ grid. record {
  known = subst (λ (paths : List (List Cell)). c.loop-agent.agent < length paths) c.paths-agent-end.ensures.value c.loop-agent-test.true;
  stray = λ on. false≢true (sym c.if-not-is_on_its_way.true ∙ (c.is_on_its_way.ensures grid).1 on);
  earlier = c.loop-agent.invariant grid;
}

pub loop-agent-preserved : goal.loop-agent-preserved
loop-agent-preserved c = λ grid.
    below_more (λ (j : ℕ). IsOnItsWay (site_at grid c.args.points.now c.args.homes) c.args.floor.now.state j) c.loop-agent.agent (c.loop-agent.invariant grid)
    ((c.is_on_its_way.ensures grid).0 c.if-not-is_on_its_way.false)

pub returns-clause-none : goal.returns-clause-none
returns-clause-none c = λ grid agent known.
    let size : length c.paths-agent-end.result.now ≡ length c.args.floor.now.state.paths = ap length c.paths-agent-end.ensures.value in
    c.loop-agent.invariant grid agent (omega (arith, c.loop-agent-test.false))

use Rattle.std.proofs.Common.{◌≡◌, ◌∙◌, ◌<◌, ℕ, List, length, ap, subst, sym, arith}
use Rattle.wh_grid.specs.declared.cell.Cell.{Cell}
use Rattle.wh_path.specs.Paths.{cell_at}
use Rattle.wh_drive.specs.Drives.{place}
use Rattle.wh_service.proofs.Stood.{one_place_more}
use Rattle.wh_service.proofs.standing.places_of.Goals as goal

pub loop-agent-preserved : goal.loop-agent-preserved
loop-agent-preserved c = record {
  many = (let now = c.in_ok-push.ensures.len in let was = c.loop-agent.invariant.many in omega (arith, now, was));
  there = λ d is. subst (λ (cells : List Cell). (agent : ℕ) → agent < length cells → cell_at cells agent ≡ place d agent) (sym c.in_ok-push.ensures.items)
      (one_place_more d c.loop-agent.places.items c.place.result (c.loop-agent.invariant.there d is) (c.place.ensures d is ∙ ap (λ (n : ℕ). place d n) (sym c.loop-agent.invariant.many)));
}

pub returns : goal.returns
returns c = record {
  all = (let many = c.loop-agent.invariant.many in let agents = c.agents-agent-end.ensures in let most = c.loop-agent.auto.agent-end in let test = c.loop-agent-test.false in omega (arith, many, agents, most, test));
  there = c.loop-agent.invariant.there;
}

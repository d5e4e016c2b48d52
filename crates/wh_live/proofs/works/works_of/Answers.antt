use Rattle.std.proofs.Common.{rules, ◌≡◌, ◌+◌, suc, replicate, subst, arith}
use Rattle.wh_event.specs.declared.event.Command.TheVariants.{Tick, Token}
use Rattle.wh_live.specs.Works.{JoinedBy, requests}
use Rattle.wh_live.proofs.Joining.{joined_by_none, joined_by_more}
use Rattle.wh_live.proofs.works.works_of.Goals as goal

pub loop-agent-init : goal.loop-agent-init
loop-agent-init g c = joined_by_none c.args.clients.items

pub loop-agent-preserved : goal.loop-agent-preserved
loop-agent-preserved g c =
    let agent = c.loop-agent.agent in
    let next : suc agent ≡ agent + 1 = omega arith in
    subst (λ k. JoinedBy (requests c.args.turns k) c.args.clients.items c.push.new.self.items) next
    (joined_by_more (requests c.args.turns agent) c.args.clients.items c.loop-agent.works.items c.push.new.self.items c.in_ok-agent_work.field-0
    c.loop-agent.invariant c.in_ok-push.ensures.items c.in_ok-agent_work.ensures.spares (replicate c.args.turns (Token agent)) c.in_ok-agent_work.ensures.commands)

pub returns : goal.returns
returns g c =
    let all : c.loop-agent.agent ≡ c.args.agents = search rules in
    joined_by_more (requests c.args.turns c.args.agents) c.args.clients.items c.loop-agent.works.items c.push-2.new.self.items c.in_ok-clock_work.field-0
    (subst (λ k. JoinedBy (requests c.args.turns k) c.args.clients.items c.loop-agent.works.items) all c.loop-agent.invariant) c.in_ok-push-2.ensures.items c.in_ok-clock_work.ensures.spares
    (replicate c.args.turns Tick) c.in_ok-clock_work.ensures.commands

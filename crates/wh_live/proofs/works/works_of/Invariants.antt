use Rattle.wh_live.specs.Works.{JoinedBy, requests}
use Rattle.wh_live.proofs.works.works_of.Given as goal

-- the agents so far stand behind the clients
abbrev pub invariant-loop-agent : goal.invariant-loop-agent
invariant-loop-agent g l = JoinedBy (requests l.fn.turns l.agent) l.fn.clients.items l.works.items

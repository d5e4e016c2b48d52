use Rattle.wh_crew.proofs.Turning.{Taking}
use Rattle.wh_host.proofs.Turning.{KeepsShare}
use Rattle.wh_host.proofs.pacing.take_turns.Given as goal

-- this many looks were taken
abbrev pub invariant-loop : goal.invariant-loop
invariant-loop g l = record {
  taking : Taking g.N.DeskName.origin l.fn.pass l.pass l.counter l.last;
  share : KeepsShare l.fn.pace.entries l.fn.pass l.pass;
}

use Rattle.std.proofs.Common.{◌<◌, ◌^◌, length}
use Rattle.wh_log.specs.Behinds.{TellsOn}
use Rattle.wh_log.proofs.tell_entries.tell_lines.Given as goal

abbrev pub invariant-loop-entry : goal.invariant-loop-entry
invariant-loop-entry g l = (l.entries < 10 ^ 9) × TellsOn g.J.Judge.opens g.J.Judge.steps l.fn.version l.fn.entries l.fn.judge l.fn.text l.entries l.judge l.rest

abbrev pub decreases-loop-entry : goal.decreases-loop-entry
decreases-loop-entry g l = length l.rest

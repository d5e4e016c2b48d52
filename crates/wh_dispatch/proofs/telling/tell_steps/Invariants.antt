use Rattle.std.proofs.Common.{take}
use Rattle.std.specs.Io.KnownBytes.{Appends}
use Rattle.wh_replay.specs.Answers.{text_of}
use Rattle.wh_dispatch.specs.Lines.{go_lines}
use Rattle.wh_dispatch.proofs.telling.tell_steps.Given as goal

abbrev pub invariant-loop-step : goal.invariant-loop-step
invariant-loop-step g l = Appends (g.W.Write.contents l.fn.writer) (g.W.Write.contents l.writer) (text_of (go_lines (take l.step-index l.steps)))

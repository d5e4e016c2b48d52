use Rattle.std.proofs.Common.{◌≡◌, take, map}
use Rattle.wh_handover.specs.Stopped.{stopped_submission}
use Rattle.wh_handover.proofs.stopped.stopped_tasks.Given as goal

abbrev pub invariant-loop-submission : goal.invariant-loop-submission
invariant-loop-submission l = l.stopped ≡ map (stopped_submission l.first l.steps) (take l.submission-index l.tasks)

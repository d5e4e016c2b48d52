use Rattle.std.proofs.Common.{ℕ, ◌<◌, ◌≤◌}
use Rattle.std.specs.Prelude.{slice_index}
use Rattle.wh_convoy.proofs.finding.first_beyond.Given as goal

abbrev pub invariant-loop-agent : goal.invariant-loop-agent
invariant-loop-agent l = (k : ℕ) → k < l.agent → slice_index l.steps k ≤ l.most

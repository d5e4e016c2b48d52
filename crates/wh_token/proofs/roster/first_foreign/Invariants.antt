use Rattle.std.proofs.Common.{◌≡◌, ℕ, ◌<◌, Some, true}
use Rattle.std.specs.Prelude.{slice_get}
use Rattle.wh_token.proofs.roster.first_foreign.Given as goal

abbrev pub invariant-loop-agent : goal.invariant-loop-agent
invariant-loop-agent g l = (k : ℕ) (other : g.row.P.Denot) → k < l.agent → slice_get l.planners k ≡ Some other → g.P.Plans.fits_map other l.grid ≡ true

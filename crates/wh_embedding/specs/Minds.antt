-- What is told of a planner of either kind: what its own kind tells.
use Rattle.std.specs.Prelude.{ℕ, Bool}
use Rattle.wh_grid.specs.Grids.{Floor, same_floor}
use Rattle.wh_claims.specs.Claim.{claim_amount}
use Rattle.wh_embedding.specs.declared.mind.Mind.{Mind}
use Rattle.wh_embedding.specs.declared.mind.Mind.TheVariants.{Sharing, Patient}

-- the grids that it plans on
abbrev pub fits : Mind → Floor → Bool
fits (Sharing planner) grid = same_floor planner.grid grid
fits (Patient planner) grid = same_floor planner.grid grid

-- its slots
abbrev pub slots : Mind → ℕ
slots (Sharing planner) = claim_amount planner.claim
slots (Patient planner) = claim_amount planner.claim

-- The planners that a run is given.
use Rattle.std.specs.Prelude.{◌≡◌, ◌<◌, ◌≤◌, ℕ, Bool, true, List, length, All, Contains, Result, Ok}
use Rattle.std.specs.List.{AllZip}
use Rattle.std.specs.declared.alloc.AllocError.{AllocError}
use Rattle.std.specs.Arc.{arc_value}
use Rattle.wh_grid.specs.Grids.{Floor}
use Rattle.wh_claims.specs.Bank.{bank_total}
use Rattle.wh_claims.specs.Claim.{claim_amount, claim_bank}
use Rattle.wh_claims.specs.declared.bank.Bank.{Bank}
use Rattle.wh_claims.specs.declared.claim.Claim.{Claim}
use Rattle.wh_edge.specs.declared.trouble.Trouble.{Trouble}
use Rattle.wh_edge.specs.declared.trouble.Trouble.TheVariants as trouble
use Rattle.wh_options.specs.declared.chosen.Fleet.{Fleet}
use Rattle.wh_service.specs.declared.parts.PlannerParts.{PlannerParts}

-- a claim of 2 to 64 slots, as many as a planner may have
abbrev pub IsForPlanner : Claim → Type 0
IsForPlanner claim = (2 ≤ claim_amount claim) × (claim_amount claim ≤ 64)

-- Each planner that a call gives of such parts plans on their grid, and has the slots of their claim. Fits and count say
-- what a planner returns.
pub record MakesPlanners {X : Type 0} (fits : X → Floor → Bool) (count : X → ℕ) (gives : PlannerParts → Result X AllocError → Type 0) : Type 0 where
  pub on_grid : (parts : PlannerParts) (planner : X) → IsForPlanner parts.claim → gives parts (Ok planner) → fits planner (arc_value parts.grid) ≡ true
  pub has_slots : (parts : PlannerParts) (planner : X) → IsForPlanner parts.claim → gives parts (Ok planner) → count planner ≡ claim_amount parts.claim

-- each planner of the fleet may keep 2 to 64 fields
abbrev pub IsOfFleet : Fleet → Type 0
IsOfFleet fleet = (2 ≤ fleet.slots) × (fleet.slots ≤ 64)

-- the planner was made of the fleet's kind, slack and effort, this grid, and a claim of the fleet's slots on this bank
pub record IsMember {X : Type 0} (gives : PlannerParts → Result X AllocError → Type 0) (fleet : Fleet) (grid : Floor) (bank : Bank) (planner : X) : Type 0 where
  pub parts : PlannerParts
  pub made : gives parts (Ok planner)
  pub kind_is : parts.kind ≡ fleet.planner
  pub slack_is : parts.slack ≡ fleet.slack
  pub effort_is : parts.effort ≡ fleet.effort
  pub grid_is : arc_value parts.grid ≡ grid
  pub slots_are : claim_amount parts.claim ≡ fleet.slots
  pub bank_is : claim_bank parts.claim ≡ bank

-- the given number of planners, all of them members of the fleet
pub record AreMembers {X : Type 0} (gives : PlannerParts → Result X AllocError → Type 0) (fleet : Fleet) (grid : Floor) (bank : Bank) (many : ℕ) (planners : List X) : Type 0 where
  pub many_is : length planners ≡ many
  pub members : All (IsMember gives fleet grid bank) planners

-- the fleet, but that each planner has the given number of slots
abbrev pub with_slots : Fleet → ℕ → Fleet
with_slots fleet slots = record fleet { slots = slots }

-- one planner of the fleet for each of these numbers of slots
abbrev pub AreSeated : {X : Type 0} → (PlannerParts → Result X AllocError → Type 0) → Fleet → Floor → Bank → List ℕ → List X → Type 0
AreSeated gives fleet grid bank slots planners = AllZip (λ n planner. IsMember gives (with_slots fleet n) grid bank planner) slots planners

-- One planner for each of the given number of agents, and as many spare ones as the options name, all of them members of the fleet. The
-- bank has as many slots in all as the options name.
pub record IsEquipped {X : Type 0} (gives : PlannerParts → Result X AllocError → Type 0) (fleet : Fleet) (grid : Floor) (agents : ℕ) (planners spares : List X) : Type 0 where
  pub bank : Bank
  pub total : bank_total bank ≡ fleet.bank
  pub seats : length planners ≡ agents
  pub stands_by : length spares ≡ fleet.spares
  pub planners_are : All (IsMember gives fleet grid bank) planners
  pub spares_are : All (IsMember gives fleet grid bank) spares

-- why the slots were not claimed: fewer were free, or the bank's word changed meanwhile, or memory ran out
abbrev pub IsWhyUnclaimed : ℕ → Trouble → Type 0
IsWhyUnclaimed slots (trouble.Short free) = free < slots
IsWhyUnclaimed slots (trouble.Raced seen) = Unit {0}
IsWhyUnclaimed slots trouble.NoMemory = Unit {0}
IsWhyUnclaimed slots _ = ⊥

-- why planners with these numbers of slots were not made: fewer were free than one of them is to have, or the bank's word
-- changed meanwhile, or memory ran out
abbrev pub IsWhyUnseated : List ℕ → Trouble → Type 0
IsWhyUnseated slots (trouble.Short free) = (n : ℕ) × Contains slots n × (free < n)
IsWhyUnseated slots (trouble.Raced seen) = Unit {0}
IsWhyUnseated slots trouble.NoMemory = Unit {0}
IsWhyUnseated slots _ = ⊥

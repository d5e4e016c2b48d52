-- the planners of the agents
use Rattle.std.specs.Prelude.{◌≡◌, ◌≢◌, ℕ, ◌<◌, List, Bool, true, false, Option, Some, None, length, slice_get, slice_set, slice_index}
use Rattle.wh_grid.specs.Grids.{Floor}
use Rattle.wh_token.specs.declared.roster.OpenFault.{OpenFault}
use Rattle.wh_token.specs.declared.roster.ResumeFault.{ResumeFault}
use Rattle.wh_event.specs.declared.event.Spare.{Spare}
use Rattle.wh_event.specs.declared.entry.Entry.{Entry}
use Rattle.wh_event.specs.declared.event.Event.{Event}
use Rattle.wh_event.specs.declared.event.Command.{Command}
use Rattle.wh_event.specs.declared.reply.Reply.{Reply}

-- Each planner plans on the map, and has the slots that the state tells. Fits and count say what a planner returns.
pub record IsTied {X : Type 0} (fits : X → Floor → Bool) (count : X → ℕ) (grid : Floor) (planners : List X) (slots : List ℕ) : Type 0 where
  pub seats : length planners ≡ length slots
  pub fit : (k : ℕ) (planner : X) → slice_get planners k ≡ Some planner → fits planner grid ≡ true
  pub counts : (k : ℕ) (planner : X) → slice_get planners k ≡ Some planner → count planner ≡ slice_index slots k

-- all of them plan on the map
abbrev pub AllFit : {X : Type 0} → (X → Floor → Bool) → Floor → List X → Type 0
AllFit {X} fits grid planners = (k : ℕ) (planner : X) → slice_get planners k ≡ Some planner → fits planner grid ≡ true

-- the planner of this number is the first that does not plan on the map
pub record IsFirstForeign {X : Type 0} (fits : X → Floor → Bool) (grid : Floor) (planners : List X) (agent : ℕ) : Type 0 where
  pub planner : X
  pub there : slice_get planners agent ≡ Some planner
  pub foreign : fits planner grid ≡ false
  pub earlier : (k : ℕ) (other : X) → k < agent → slice_get planners k ≡ Some other → fits other grid ≡ true

-- Why a warehouse is not opened: a wrong count comes first, then the first planner of another map, then out of memory.
abbrev pub RefusesToOpen : {X : Type 0} → (X → Floor → Bool) → Floor → List X → ℕ → OpenFault → Type 0
RefusesToOpen fits grid planners agents OpenFault.WrongCount = length planners ≢ agents
RefusesToOpen fits grid planners agents (OpenFault.Foreign agent) = (length planners ≡ agents) × IsFirstForeign fits grid planners agent
RefusesToOpen fits grid planners agents OpenFault.NoMemory = (length planners ≡ agents) × AllFit fits grid planners

-- each of them has these slots
abbrev pub HaveSlots : {X : Type 0} → (X → ℕ) → List X → List ℕ → Type 0
HaveSlots {X} count planners slots = (k : ℕ) (planner : X) → slice_get planners k ≡ Some planner → count planner ≡ slice_index slots k

-- the planner of this number is the first that has not these slots
pub record IsFirstOther {X : Type 0} (count : X → ℕ) (planners : List X) (slots : List ℕ) (agent : ℕ) : Type 0 where
  pub planner : X
  pub there : slice_get planners agent ≡ Some planner
  pub differs : count planner ≢ slice_index slots agent
  pub earlier : (k : ℕ) (other : X) → k < agent → slice_get planners k ≡ Some other → count other ≡ slice_index slots k

-- Why a warehouse does not go on: a wrong count comes first, then the first planner of another map, then the first with
-- other slots, then out of memory.
abbrev pub RefusesToResume : {X : Type 0} → (X → Floor → Bool) → (X → ℕ) → Floor → List X → List ℕ → ResumeFault → Type 0
RefusesToResume fits count grid planners slots ResumeFault.WrongCount = length planners ≢ length slots
RefusesToResume fits count grid planners slots (ResumeFault.Foreign agent) =
    (length planners ≡ length slots) × IsFirstForeign fits grid planners agent
RefusesToResume fits count grid planners slots (ResumeFault.WrongSlots agent) =
    (length planners ≡ length slots) × AllFit fits grid planners × IsFirstOther count planners slots agent
RefusesToResume fits count grid planners slots ResumeFault.NoMemory =
    (length planners ≡ length slots) × AllFit fits grid planners × HaveSlots count planners slots

-- what is told of the box that was handed in
abbrev pub TellsSpare : {X : Type 0} → (X → Floor → Bool) → (X → ℕ) → Floor → Option X → Spare → Type 0
TellsSpare fits count grid None Spare.None = Unit {0}
TellsSpare fits count grid (Some planner) Spare.Foreign = fits planner grid ≡ false
TellsSpare fits count grid (Some planner) (Spare.Fits slots) = (fits planner grid ≡ true) × (slots ≡ count planner)
TellsSpare fits count grid handed spare = ⊥

-- the same by reply and event
abbrev pub replaced_by : Reply → Event → Option ℕ
replaced_by (Reply.Replaced slots) (Event.Replace agent spare) = Some agent
replaced_by reply event = None

-- the agent whose planner this entry replaces
abbrev pub replaced_agent : Entry → Option ℕ
replaced_agent entry = replaced_by entry.reply entry.event

-- Where an agent's planner is replaced, the agent's planner is the box handed in and the one before comes back; else
-- the box handed in comes back.
abbrev pub Swaps : {X : Type 0} → Option ℕ → List X → Option X → List X → Option X → Type 0
Swaps (Some agent) old (Some handed) new back = (new ≡ slice_set old agent handed) × (back ≡ slice_get old agent)
Swaps agent old handed new back = (new ≡ old) × (back ≡ handed)

-- what the event tells of the box that was handed in
abbrev pub TellsFor : {X : Type 0} → (X → Floor → Bool) → (X → ℕ) → Floor → Option X → Event → Type 0
TellsFor fits count grid handed (Event.Replace agent told) = TellsSpare fits count grid handed told
TellsFor fits count grid handed event = Unit {0}

-- the agent whose planner is to be replaced is there
abbrev pub IsSeated : {X : Type 0} → Option ℕ → List X → Type 0
IsSeated (Some agent) planners = agent < length planners
IsSeated None planners = Unit {0}

-- there are as many planners, and those of all other agents stay as they are
pub record OthersStay {X : Type 0} (agent : ℕ) (old new : List X) : Type 0 where
  pub seats : length new ≡ length old
  pub others : (k : ℕ) → k ≢ agent → slice_get new k ≡ slice_get old k

-- Only a Token asks a planner, that of its own agent: the others stay as they are. At any other command all of them stay.
abbrev pub StaySeated : {X : Type 0} → Command → List X → List X → Type 0
StaySeated (Command.Token agent) old new = OthersStay agent old new
StaySeated command old new = new ≡ old

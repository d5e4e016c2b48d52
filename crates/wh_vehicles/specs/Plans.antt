-- the plan that a run of the warehouse makes, and vehicles that carry it out late
use Rattle.std.specs.Prelude.{◌≡◌, ℕ, ◌≤◌, List, [], ◌∷◌, ◌++◌, length, map, slice_index_or}
use Rattle.wh_grid.specs.declared.cell.Cell.{Cell}
use Rattle.wh_path.specs.Paths.{at}
use Rattle.wh_points.specs.Points.{Site}
use Rattle.wh_event.specs.declared.entry.Entry.{Entry}
use Rattle.wh_event.specs.declared.reply.Reply.{Reply}
use Rattle.wh_core.specs.States.{State}
use Rattle.wh_core.specs.Steps.{Step as StepOfState}
use Rattle.wh_core.specs.Laws.{IsReached as IsReachedState, IsBeginning}
use Rattle.wh_drive.specs.Drives.{Drive, clock, MayStart, MayArrive, MayTick, started, arrived, ticked, opened}
use Rattle.wh_drive.specs.Runs.{Event as EventOfVehicles, IsReached as IsReachedDrive}

-- where the agents are
abbrev pub places : State → List Cell
places s = map (λ path. at path 0) s.paths

-- a drive under the site's rule, whose plan has come to where the agents are
pub record HasComeTo (site : Site) (d : Drive) (s : State) : Type 0 where
  pub rule : d.nofollow ≡ site.layout.nofollow
  pub all : length d.vehicles ≡ length s.paths
  pub now : slice_index_or d.rows (clock d) [] ≡ places s

-- Whatever the warehouse does next, the plan may go on to where the agents then are, however late its vehicles are.
abbrev pub EachStepMayBeTaken : Type 0
EachStepMayBeTaken =
    (site : Site) (entries : List Entry) (old : State) (entry : Entry) (new : State) (d : Drive) → IsReachedState site entries old →
    StepOfState site old entry new → HasComeTo site d old → MayTick d (places new)

-- What happens in a warehouse with vehicles: an entry of its history is made, a vehicle is told to go on, a vehicle
-- arrives at a step.
pub data Happening : Type 0 where
  Done : (entry : Entry) → Happening
  Goes : (agent : ℕ) → Happening
  Comes : (agent step : ℕ) → Happening

-- a tick that was made, and nothing else, takes the plan on: to where the agents then are
abbrev pub taken : Reply → State → Drive → Drive
taken (Reply.Clock now first last) s d = ticked (places s) d
taken reply s d = d

-- the warehouse, and the drive that carries its plan out
pub record Fleet : Type 0 where
  pub state : State
  pub drive : Drive

-- Of the plan nothing is asked as the warehouse goes on.
abbrev pub Happens : Site → Fleet → Happening → Fleet → Type 0
Happens site old (Done entry) new = StepOfState site old.state entry new.state × (new.drive ≡ taken entry.reply new.state old.drive)
Happens site old (Goes agent) new = MayStart old.drive agent × (new ≡ record old { drive = started agent old.drive })
Happens site old (Comes agent step) new = MayArrive old.drive agent step × (new ≡ record old { drive = arrived agent old.drive })

abbrev pub AllHappen : Site → Fleet → List Happening → Fleet → Type 0
AllHappen site old [] new = new ≡ old
AllHappen site old (happening ∷ happenings) new = (mid : Fleet) × Happens site old happening mid × AllHappen site mid happenings new

-- the warehouse is at a beginning, and each vehicle stands where its agent is
pub record IsOpening (site : Site) (fleet : Fleet) : Type 0 where
  pub ahead : ℕ
  pub some : 1 ≤ ahead
  pub state : IsBeginning site fleet.state
  pub drive : fleet.drive ≡ opened site.layout.nofollow ahead (places fleet.state)

-- the entries among what happens
abbrev pub entries_of : List Happening → List Entry
entries_of [] = []
entries_of (Done entry ∷ happenings) = entry ∷ entries_of happenings
entries_of (Goes agent ∷ happenings) = entries_of happenings
entries_of (Comes agent step ∷ happenings) = entries_of happenings

-- The state is that of a run of the warehouse, and the drive that of a run of vehicles, whose plan has come as far.
pub record IsCarriedOut (site : Site) (entries : List Entry) (fleet : Fleet) : Type 0 where
  pub state : IsReachedState site entries fleet.state
  pub events : List EventOfVehicles
  pub drive : IsReachedDrive events fleet.drive
  pub come : HasComeTo site fleet.drive fleet.state

-- So each run of the warehouse is a plan that vehicles may carry out late, in whatever order things happen: all laws of
-- runs, and all laws of vehicles, hold of it.
abbrev pub EachRunIsAPlan : Type 0
EachRunIsAPlan =
    (site : Site) (opening : Fleet) (happenings : List Happening) (fleet : Fleet) → IsOpening site opening →
    AllHappen site opening happenings fleet → IsCarriedOut site (entries_of happenings) fleet

-- the row of an entry: where the agents are after a tick that was made
abbrev pub row_of : Reply → State → List (List Cell)
row_of (Reply.Clock now first last) s = places s ∷ []
row_of reply s = []

-- the rows of all that happens, one after another
abbrev pub rows_of : (site : Site) (old : Fleet) (happenings : List Happening) (new : Fleet) → AllHappen site old happenings new → List (List Cell)
rows_of site old [] new all = []
rows_of site old (Done entry ∷ happenings) new all = row_of entry.reply all.0.state ++ rows_of site all.0 happenings new all.2
rows_of site old (Goes agent ∷ happenings) new all = rows_of site all.0 happenings new all.2
rows_of site old (Comes agent step ∷ happenings) new all = rows_of site all.0 happenings new all.2

-- The rows of the drive are those of the history's ticks, and no others.
abbrev pub RowsAreTheTicks : Type 0
RowsAreTheTicks =
    (site : Site) (old : Fleet) (happenings : List Happening) (new : Fleet) (all : AllHappen site old happenings new) →
    new.drive.rows ≡ old.drive.rows ++ rows_of site old happenings new all

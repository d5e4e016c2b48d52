-- the fronts that tell a state with which a run may begin
use Rattle.std.specs.Prelude.{◌≡◌, ℕ, List, ◌++◌, map}
use Rattle.wh_grid.specs.Grids.{Floor}
use Rattle.wh_points.specs.Points.{Layout, Site}
use Rattle.wh_core.specs.States.{State}
use Rattle.wh_core.specs.Laws.{IsBeginning}
use Rattle.wh_front.specs.declared.rules.Rules.{Rules}
use Rattle.wh_front.specs.declared.front.Front.{Front}
use Rattle.wh_front.specs.declared.front.Seat.{Seat}
use Rattle.wh_front.specs.declared.front.Submission.{Submission}
use Rattle.wh_front.specs.Fronts.{Fits, front_text}
use Rattle.wh_stand.specs.Parts.{Parts, state_of}

-- what a front tells of a state
abbrev pub parts_told : Front → Parts
parts_told f = record {
  clock = f.clock;
  closed = f.closed;
  paths = map (λ (seat : Seat). seat.path) f.seats;
  slots = map (λ (seat : Seat). seat.slots) f.seats;
  tasks = map (λ (submission : Submission). submission.task) f.tasks;
}

-- the state that a front tells, with the loads that its tasks tell
abbrev pub state_told : Front → State
state_told f = state_of (parts_told f)

-- a grid and its points, where paths end as the rules say
abbrev pub site_of : Floor → Layout → Rules → Site
site_of grid layout rules = record { grid = grid; layout = layout; homes = rules.homes }

-- A front of a sound state: it keeps its ranges, its rules are these, and a run over the site may begin with its state.
pub record IsSoundFront (site : Site) (rules : Rules) (f : Front) : Type 0 where
  pub fits : Fits f
  pub rules_are : f.rules ≡ rules
  pub beginning : IsBeginning site (state_told f)

-- the text of no such front stands at the beginning of this one
abbrev pub HasNoSoundFront : Site → Rules → List ℕ → Type 0
HasNoSoundFront site rules text = (front : Front) (rest : List ℕ) → IsSoundFront site rules front → text ≡ front_text front ++ rest → ⊥

-- the text is the beginning of some such front's
pub record BeginsSoundFront (site : Site) (rules : Rules) (text : List ℕ) : Type 0 where
  pub front : Front
  pub sound : IsSoundFront site rules front
  pub more : List ℕ
  pub whole : front_text front ≡ text ++ more

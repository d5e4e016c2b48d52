-- What a crew did from the opening of a warehouse, and the log of it.
use Rattle.std.specs.Prelude.{◌≡◌, ℕ, ◌<◌, ◌≤◌, Bool, List, length, All}
use Rattle.wh_words.specs.Lines.{text_of}
use Rattle.wh_grid.specs.Grids.{Floor}
use Rattle.wh_points.specs.Points.{Site}
use Rattle.wh_event.specs.declared.entry.Entry.{Entry}
use Rattle.wh_core.specs.Laws.{IsBeginning}
use Rattle.wh_core.specs.States.{State, opened}
use Rattle.wh_core.specs.Steps.{Run}
use Rattle.wh_crew.specs.Fleet.{IsTied}
use Rattle.wh_log.specs.Logs.{log_lines}
use Rattle.wh_log.specs.declared.version.Version.TheVariants.{Two}
use Rattle.wh_edge.specs.declared.work.Work.{Work}
use Rattle.wh_crew.specs.Pasts.{Origin}
use Rattle.wh_crew.specs.Lists.{Received}
use Rattle.wh_crew.specs.Calls.{AllEmpty, InOrder, NoneWantsPath}
use Rattle.wh_crew.specs.Work.{AllWorked, MissedWithCause}
use Rattle.wh_crew.specs.declared.worker.Missed.{Missed}

-- The history is one run from there, where it may begin, by its callers alone, the first of whom are these workers. Each had
-- nothing before, and what a worker did are its commands, in order, without as many as it missed: where one was missed since
-- the journal was full, the history has exactly as many entries as positions, and else one was missed for lack of memory alone. On
-- a well-formed site no request is refused for lack of a path.
pub record WorkedFrom {X : Type 0} (fits : X → Floor → Bool) (count : X → ℕ) (origin : Origin) (works : List (Work X)) (callers journal : ℕ)
    (history : List Entry) (state : State) : Type 0 where
  pub begins : IsBeginning origin.site origin.opening
  pub run : Run origin.site origin.opening history state
  pub served : NoneWantsPath origin history
  pub within : length history ≤ journal
  pub by_callers : All (λ entry. entry.caller < callers) history
  pub passes : List Received
  pub in_order : InOrder callers passes
  pub empty : AllEmpty passes
  pub missed : List Missed
  pub worked : AllWorked fits count origin.site.grid journal works passes history missed
  pub with_cause : MissedWithCause journal history missed

-- The warehouse was opened at clock 0 with these planners, the workers did their works over a journal of the given number of positions,
-- and the text is the log of it.
pub record Lives {X : Type 0} (fits : X → Floor → Bool) (count : X → ℕ) (site : Site) (planners : List X) (works : List (Work X))
    (journal : ℕ) (text : List ℕ) : Type 0 where
  pub slots : List ℕ
  pub tied : IsTied fits count site.grid planners slots
  pub history : List Entry
  pub state : State
  pub worked : WorkedFrom fits count (record { site = site; opening = opened site.layout 0 slots }) works (length works) journal history state
  pub text_is : text ≡ text_of (log_lines Two (record { clock = 0; slots = slots; entries = history }))

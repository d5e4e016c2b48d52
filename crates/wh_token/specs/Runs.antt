-- what a list of commands makes of the warehouse, and of the spare planners
use Rattle.std.specs.Prelude.{◌≡◌, ℕ, List, [], ◌∷◌, ◌++◌, Bool, Option, Some, None, is_some, length}
use Rattle.std.specs.Option.{option_to_list}
use Rattle.wh_grid.specs.Grids.{Floor}
use Rattle.wh_core.specs.States.{State}
use Rattle.wh_core.specs.Steps.{Step, IsKnown}
use Rattle.wh_points.specs.Points.{Site}
use Rattle.wh_token.specs.Commands.{event_of}
use Rattle.wh_book.specs.Drafts.{Seen}
use Rattle.wh_token.specs.Fleet.{TellsFor}
use Rattle.wh_token.specs.Houses.{StaysAt}
use Rattle.wh_event.specs.declared.event.Spare.{Spare}
use Rattle.wh_event.specs.declared.event.Event.{Event}
use Rattle.wh_event.specs.declared.event.Command.{Command}
use Rattle.wh_event.specs.declared.entry.Entry.{Entry}

-- the last spare is taken, and the event tells it; with no spare left nothing is taken
pub record TakesLast {X : Type 0} (fits : X → Floor → Bool) (count : X → ℕ) (grid : Floor) (event : Event) (old new : List X) : Type 0 where
  pub spare : Option X
  pub taken : old ≡ new ++ option_to_list spare
  pub none_left : spare ≡ None → length old ≡ 0
  pub tells : TellsFor fits count grid spare event

-- a Replace of a known agent, while open
abbrev pub WantsSpare : State → Command → Type 0
WantsSpare s (Command.Replace agent) = IsKnown s agent
WantsSpare s command = ⊥

-- such a Replace takes the last spare, and no other command takes one or tells of one
pub record Takes {X : Type 0} (fits : X → Floor → Bool) (count : X → ℕ) (grid : Floor) (s : State) (command : Command) (event : Event) (old new : List X) : Type 0 where
  pub last : WantsSpare s command → TakesLast fits count grid event old new
  pub other : (WantsSpare s command → ⊥) → new ≡ old
  pub none_told : (WantsSpare s command → ⊥) → TellsFor fits count grid None event

-- One command: with no entry it was refused for memory, and nothing changed; else the entry answers it.
abbrev pub Moves : {X : Type 0} → (X → Floor → Bool) → (X → ℕ) → Site → ℕ → Command → Option Entry → State → List X → State → List X → Type 0
Moves fits count site caller command None s spares new rest = (new ≡ s) × (rest ≡ spares)
Moves fits count site caller command (Some entry) s spares new rest =
    (entry.caller ≡ caller) × Step site s entry new
    × ((told : Spare) × (entry.event ≡ event_of command told)) × Takes fits count site.grid s command entry.event spares rest

-- the commands one after another, each with its entry or with none
abbrev pub Ran : {X : Type 0} → (X → Floor → Bool) → (X → ℕ) → Site → ℕ → List Command → List (Option Entry) → State → List X → State → List X → Type 0
Ran fits count site caller [] [] s spares new rest = (new ≡ s) × (rest ≡ spares)
Ran {X} fits count site caller (command ∷ commands) (outcome ∷ outcomes) s spares new rest =
    (mid : State) × (left : List X) × Moves fits count site caller command outcome s spares mid left
    × Ran fits count site caller commands outcomes mid left new rest
Ran fits count site caller [] (outcome ∷ outcomes) s spares new rest = ⊥
Ran fits count site caller (command ∷ commands) [] s spares new rest = ⊥

-- the entries among the outcomes
abbrev pub entries_of : List (Option Entry) → List Entry
entries_of [] = []
entries_of (None ∷ outcomes) = entries_of outcomes
entries_of (Some entry ∷ outcomes) = entry ∷ entries_of outcomes

-- One command has run: the history has grown by its entry, where it added one, and by nothing else.
pub record RunsOne {X : Type 0} (fits : X → Floor → Bool) (count : X → ℕ) (caller : ℕ) (command : Command) (added : Bool)
    (old : Seen) (spares : List X) (new : Seen) (rest : List X) : Type 0 where
  pub outcome : Option Entry
  pub added_is : is_some outcome ≡ added
  pub history : new.history ≡ old.history ++ entries_of (outcome ∷ [])
  pub moves : Moves fits count old.site caller command outcome old.state spares new.state rest
  pub stays : StaysAt old new

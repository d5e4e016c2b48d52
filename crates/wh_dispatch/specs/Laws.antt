-- what the lines of a script come to, all together
use Rattle.std.specs.Prelude.{◌≡◌, ℕ, Bool, List, [], ◌∷◌, ◌++◌}
use Rattle.wh_grid.specs.Grids.{Floor}
use Rattle.wh_replay.specs.declared.asker.Asker.{Asker}
use Rattle.wh_vehicles.specs.Plans.{Happening, AllHappen, IsCarriedOut, entries_of}
use Rattle.wh_vehicles.specs.Visits.{Visit}
use Rattle.wh_dispatch.specs.Lines.{Depot, fleet_of, AreMadeNow, NoneIsLeft, ServesAll}

-- One list of happenings leads there: entries, and vehicles that are told to go on and arrive. The history has grown by its
-- entries, and by nothing else.
pub record HasHappened {X : Type 0} (old new : Depot X) : Type 0 where
  pub happenings : List Happening
  pub all : AllHappen old.book.site (fleet_of old) happenings (fleet_of new)
  pub history : new.book.history ≡ old.book.history ++ entries_of happenings
  pub site : new.book.site ≡ old.book.site
  pub opening : new.book.opening ≡ old.book.opening

-- So it is with all lines that were served: by the laws of happenings they are a run of the warehouse, and one of its
-- vehicles whose rows are the history's ticks.
abbrev pub EachScriptHappens : {X : Type 0} → (X → Floor → Bool) → (X → ℕ) → Asker → Type 0
EachScriptHappens {X} fits count asker =
    (bound : ℕ) (lines : List (List ℕ)) (old new : Depot X) (texts : List (List ℕ)) → ServesAll fits count asker bound lines old new texts →
    HasHappened old new

-- the visits that all lines told, one line after another
abbrev pub visits_of : {X : Type 0} (fits : X → Floor → Bool) (count : X → ℕ) (asker : Asker) (bound : ℕ) (lines : List (List ℕ)) (old new : Depot X) (texts : List (List ℕ)) →
    ServesAll fits count asker bound lines old new texts → List Visit
visits_of fits count asker bound [] old new texts all = []
visits_of fits count asker bound (line ∷ lines) old new texts all = all.3.takes.visits ++ visits_of fits count asker bound lines all.0 new all.2 all.4

-- what was told of visits is what was made
pub record TellsWhatIsMade {X : Type 0} (old new : Depot X) (visits : List Visit) : Type 0 where
  pub made : AreMadeNow old new visits
  pub all : NoneIsLeft old new visits

-- Of whatever lines were served, in whatever order: all visits that vehicles made meanwhile are told, each once, those of a
-- task in its order, and no others.
abbrev pub EachVisitIsTold : {X : Type 0} → (X → Floor → Bool) → (X → ℕ) → Asker → Type 0
EachVisitIsTold {X} fits count asker =
    (bound : ℕ) (lines : List (List ℕ)) (old new : Depot X) (texts : List (List ℕ)) (all : ServesAll fits count asker bound lines old new texts) →
    IsCarriedOut old.book.site old.book.history (fleet_of old) → TellsWhatIsMade old new (visits_of fits count asker bound lines old new texts all)

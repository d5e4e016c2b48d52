-- Reading an event and the equals sign after it.
use Rattle.std.specs.Prelude.{ℕ, ◌&&◌, List, [], ◌∷◌, length, Option, Some, None, nat_le, cond, codes}
use Rattle.std.specs.Str.{bytes_eq}
use Rattle.wh_text.specs.Names.{name_of}
use Rattle.wh_event.specs.declared.event.Event.{Event}
use Rattle.wh_event.specs.declared.event.Event.TheVariants.{Submit, Request, Tick, Close, Replace}
use Rattle.wh_event.specs.declared.event.Spare.{Spare}
use Rattle.wh_event.specs.declared.event.Spare.TheVariants as planner
use Rattle.wh_log.specs.Reading.{◌>>=◌, literal_at, small_at, name_at}

-- names up to an equals sign
unfoldable pub names_at : List (List ℕ) → Option (List (List ℕ) × List (List ℕ))
names_at [] = None
names_at (word ∷ words) = cond (bytes_eq word (codes "=")) (Some ([], words)) (do
  name ← name_of word
  rest ← names_at words
  Some (name ∷ rest.0, rest.1))

-- the names, where they are 2 at least and not too many
abbrev pub counted_of : ℕ → List (List ℕ) → Option (List (List ℕ))
counted_of most names = cond (nat_le 2 (length names) && nat_le (length names) most) (Some names) None

-- the stops of a task, and the equals sign
unfoldable pub stops_at : ℕ → List (List ℕ) → Option (List (List ℕ) × List (List ℕ))
stops_at most words = do
  names ← names_at words
  stops ← counted_of most names.0
  Some (stops, names.1)

-- what follows `submit`
unfoldable pub submit_at : ℕ → List (List ℕ) → Option (Event × List (List ℕ))
submit_at most words = do
  client ← name_at words
  stops ← stops_at most client.1
  Some (Submit client.0 stops.0, stops.1)

-- what follows `token`
unfoldable pub token_at : List (List ℕ) → Option (Event × List (List ℕ))
token_at words = do
  agent ← small_at words
  rest ← literal_at (codes "=") agent.1
  Some (Request agent.0, rest)

-- what follows `tick`
unfoldable pub tick_at : List (List ℕ) → Option (Event × List (List ℕ))
tick_at words = do
  rest ← literal_at (codes "=") words
  Some (Tick, rest)

-- what follows `close`
unfoldable pub close_at : List (List ℕ) → Option (Event × List (List ℕ))
close_at words = do
  rest ← literal_at (codes "=") words
  Some (Close, rest)

-- what follows `fits`
unfoldable pub fits_at : List (List ℕ) → Option (Spare × List (List ℕ))
fits_at words = do
  slots ← small_at words
  Some (planner.Fits slots.0, slots.1)

-- what is told of a planner
unfoldable pub spare_at : List (List ℕ) → Option (Spare × List (List ℕ))
spare_at [] = None
spare_at (name ∷ words) = cond (bytes_eq name (codes "none")) (Some (planner.None, words))
    (cond (bytes_eq name (codes "foreign")) (Some (planner.Foreign, words))
    (cond (bytes_eq name (codes "fits")) (fits_at words) None))

-- what follows `replace`
unfoldable pub replace_at : List (List ℕ) → Option (Event × List (List ℕ))
replace_at words = do
  agent ← small_at words
  spare ← spare_at agent.1
  rest ← literal_at (codes "=") spare.1
  Some (Replace agent.0 spare.0, rest)

-- an event by its first word
unfoldable pub event_at : ℕ → List (List ℕ) → Option (Event × List (List ℕ))
event_at most [] = None
event_at most (name ∷ words) = cond (bytes_eq name (codes "submit")) (submit_at most words)
    (cond (bytes_eq name (codes "token")) (token_at words)
    (cond (bytes_eq name (codes "tick")) (tick_at words)
    (cond (bytes_eq name (codes "close")) (close_at words)
    (cond (bytes_eq name (codes "replace")) (replace_at words) None))))

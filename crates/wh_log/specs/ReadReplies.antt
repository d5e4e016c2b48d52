-- Reading a reply, to the end of the line, and whole entries.
use Rattle.std.specs.Prelude.{ℕ, List, [], ◌∷◌, Option, Some, None, nat_lt, cond, codes}
use Rattle.std.specs.Str.{bytes_eq}
use Rattle.wh_event.specs.declared.reply.Reply.{Reply}
use Rattle.wh_event.specs.declared.reply.Reply.TheVariants.{Accepted, Took, Rested, Parked, Clock, Replaced, Closed, Refused}
use Rattle.wh_event.specs.declared.reply.Refusal.{Refusal}
use Rattle.wh_event.specs.declared.reply.Refusal.TheVariants as why
use Rattle.wh_event.specs.declared.entry.Entry.{Entry}
use Rattle.wh_log.specs.Reading.{◌>>=◌, literal_at, at_end, small_at, clock_at, wide_at, name_at, path_of}
use Rattle.wh_log.specs.ReadEvents.{event_at}

-- what follows `accepted`
unfoldable pub accepted_of : List (List ℕ) → Option Reply
accepted_of words = do
  task ← small_at words
  at_end task.1 (Accepted task.0)

-- what follows `took`
unfoldable pub took_of : List (List ℕ) → Option Reply
took_of words = do
  task ← small_at words
  rest ← literal_at (codes "path") task.1
  path ← path_of rest
  Some (Took task.0 path)

-- what follows `parked`
unfoldable pub parked_of : List (List ℕ) → Option Reply
parked_of words = do
  point ← name_at words
  rest ← literal_at (codes "path") point.1
  path ← path_of rest
  Some (Parked point.0 path)

-- what follows `clock`
unfoldable pub clock_of : List (List ℕ) → Option Reply
clock_of words = do
  now ← clock_at words
  before_picked ← literal_at (codes "picked") now.1
  picked ← small_at before_picked
  before_dropped ← literal_at (codes "dropped") picked.1
  dropped ← small_at before_dropped
  at_end dropped.1 (Clock now.0 picked.0 dropped.0)

-- what follows `replaced`
unfoldable pub replaced_of : List (List ℕ) → Option Reply
replaced_of words = do
  slots ← small_at words
  at_end slots.1 (Replaced slots.0)

-- what follows E1
unfoldable pub unknown_point_of : List (List ℕ) → Option Refusal
unknown_point_of words = do
  name ← name_at words
  at_end name.1 (why.UnknownPoint name.0)

-- what follows E2
unfoldable pub not_station_of : List (List ℕ) → Option Refusal
not_station_of words = do
  name ← name_at words
  at_end name.1 (why.NotStation name.0)

-- what follows E4
unfoldable pub unknown_agent_of : List (List ℕ) → Option Refusal
unknown_agent_of words = do
  agent ← small_at words
  at_end agent.1 (why.UnknownAgent agent.0)

-- what follows E5
unfoldable pub moving_of : List (List ℕ) → Option Refusal
moving_of words = do
  steps ← wide_at words
  at_end steps.1 (why.Moving steps.0)

-- a refusal that tells nothing more
unfoldable pub bare_refusal_of : List ℕ → List (List ℕ) → Option Refusal
bare_refusal_of code words = cond (bytes_eq code (codes "E3")) (at_end words why.TasksFull)
    (cond (bytes_eq code (codes "E6")) (at_end words why.NoPath)
    (cond (bytes_eq code (codes "E7")) (at_end words why.ClockFull)
    (cond (bytes_eq code (codes "E8")) (at_end words why.Closed)
    (cond (bytes_eq code (codes "E9")) (at_end words why.ForeignPlanner)
    (cond (bytes_eq code (codes "E10")) (at_end words why.NoSpare) None)))))

-- a refusal by its code
unfoldable pub refusal_of : List (List ℕ) → Option Refusal
refusal_of [] = None
refusal_of (code ∷ words) = cond (bytes_eq code (codes "E1")) (unknown_point_of words)
    (cond (bytes_eq code (codes "E2")) (not_station_of words)
    (cond (bytes_eq code (codes "E4")) (unknown_agent_of words)
    (cond (bytes_eq code (codes "E5")) (moving_of words) (bare_refusal_of code words))))

-- what follows `refused`
unfoldable pub refused_of : List (List ℕ) → Option Reply
refused_of words = do
  refusal ← refusal_of words
  Some (Refused refusal)

-- a reply by its first word
unfoldable pub reply_of : List (List ℕ) → Option Reply
reply_of [] = None
reply_of (name ∷ words) = cond (bytes_eq name (codes "accepted")) (accepted_of words)
    (cond (bytes_eq name (codes "took")) (took_of words)
    (cond (bytes_eq name (codes "rested")) (at_end words Rested)
    (cond (bytes_eq name (codes "parked")) (parked_of words)
    (cond (bytes_eq name (codes "clock")) (clock_of words)
    (cond (bytes_eq name (codes "replaced")) (replaced_of words)
    (cond (bytes_eq name (codes "closed")) (at_end words Closed)
    (cond (bytes_eq name (codes "refused")) (refused_of words) None)))))))

-- a number below 64
abbrev pub caller_of : ℕ → Option ℕ
caller_of n = cond (nat_lt n 64) (Some n) None

-- an entry: the caller, the event with its equals sign, the reply
unfoldable pub entry_of : ℕ → List (List ℕ) → Option Entry
entry_of most words = do
  number ← small_at words
  caller ← caller_of number.0
  event ← event_at most number.1
  reply ← reply_of event.1
  Some (record { caller = caller; event = event.0; reply = reply })

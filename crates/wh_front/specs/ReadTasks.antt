-- Reading tasks. Private, as the reading of the other lines.
use Rattle.std.specs.Prelude.{ℕ, List, [], ◌∷◌, length, Option, Some, None, nat_le, ◌&&◌, cond, codes}
use Rattle.std.specs.Str.{bytes_eq}
use Rattle.wh_words.specs.Numerals.{numeral_of}
use Rattle.wh_grid.specs.declared.cell.Cell.{Cell}
use Rattle.wh_log.specs.Reading.{◌>>=◌, literal_at, at_end, first_at, small_at, clock_at, name_at}
use Rattle.wh_front.specs.declared.front.Submission.{Submission}
use Rattle.wh_front.specs.declared.line.Line.{Line}
use Rattle.wh_front.specs.declared.line.Line.TheVariants as lines
use Rattle.wh_front.specs.Reading.{if_so, cells_of, caller_of, before_of, rules_of, state_of, counts_of, agents_of, seat_of}

unfoldable pub tasks_of : List (List ℕ) → Option ℕ
tasks_of words = do
  count ← small_at words
  tasks ← if_so (nat_le count.0 1000000) count.0
  at_end count.1 tasks

-- who has a task, and when its stops were visited
pub record Holder : Type 0 where
  pub agent : Option ℕ
  pub visits : List ℕ

-- a clock
abbrev pub clock_of : List ℕ → Option ℕ
clock_of word = numeral_of 10 word >>= λ n. if_so (nat_le n 1000000000) n

-- clocks up to `stops`
unfoldable pub clocks_at : List (List ℕ) → Option (List ℕ × List (List ℕ))
clocks_at [] = None
clocks_at (word ∷ words) = cond (bytes_eq word (codes "stops")) (Some ([], words)) (do
  clock ← clock_of word
  rest ← clocks_at words
  Some (clock ∷ rest.0, rest.1))

-- the clocks, where they are 1 to 8
abbrev pub counted_of : List ℕ → Option (List ℕ)
counted_of clocks = if_so (nat_le 1 (length clocks) && nat_le (length clocks) 8) clocks

-- 1 to 8 of them
unfoldable pub some_clocks_at : List (List ℕ) → Option (List ℕ × List (List ℕ))
some_clocks_at words = do
  clocks ← clocks_at words
  counted ← counted_of clocks.0
  Some (counted, clocks.1)

-- the visits, if there are any, and `stops`
unfoldable pub visits_at : List (List ℕ) → Option (List ℕ × List (List ℕ))
visits_at [] = None
visits_at (word ∷ words) = cond (bytes_eq word (codes "stops")) (Some ([], words)) (cond (bytes_eq word (codes "visits")) (some_clocks_at words) None)

-- what follows `open`
unfoldable pub open_at : List (List ℕ) → Option (Holder × List (List ℕ))
open_at words = do
  rest ← literal_at (codes "stops") words
  Some (record { agent = None; visits = [] }, rest)

-- what follows `agent`
unfoldable pub agent_at : List (List ℕ) → Option (Holder × List (List ℕ))
agent_at words = do
  agent ← small_at words
  visits ← visits_at agent.1
  Some (record { agent = Some agent.0; visits = visits.0 }, visits.1)

-- who has the task, and `stops`
unfoldable pub who_at : List (List ℕ) → Option (Holder × List (List ℕ))
who_at [] = None
who_at (word ∷ words) = cond (bytes_eq word (codes "open")) (open_at words) (cond (bytes_eq word (codes "agent")) (agent_at words) None)

-- 2 to 8 stops, and no fewer than visits
abbrev pub stops_of : ℕ → List Cell → Option (List Cell)
stops_of visits cells = if_so (nat_le 2 (length cells) && nat_le (length cells) 8 && nat_le visits (length cells)) cells

unfoldable pub submission_of : List (List ℕ) → Option Submission
submission_of words = do
  caller ← first_at caller_of words
  client ← name_at caller.1
  submitted ← clock_at client.1
  who ← who_at submitted.1
  cells ← cells_of who.1
  stops ← stops_of (length who.0.visits) cells
  Some (record { caller = caller.0; task = record { client = client.0; stops = stops; submitted = submitted.0; agent = who.0.agent; visits = who.0.visits } })

-- what follows the first word of a line
unfoldable pub title_of : List (List ℕ) → Option Line
title_of words = do
  rest ← literal_at (codes "3") words
  at_end rest lines.Title

-- a line by its first word
unfoldable pub line_by : List ℕ → List (List ℕ) → Option Line
line_by name words = cond (bytes_eq name (codes "task")) (submission_of words >>= λ x. Some (lines.Task x))
    (cond (bytes_eq name (codes "agent")) (seat_of words >>= λ x. Some (lines.Agent x))
    (cond (bytes_eq name (codes "wlog")) (title_of words)
    (cond (bytes_eq name (codes "after")) (before_of words >>= λ x. Some (lines.Before x))
    (cond (bytes_eq name (codes "rules")) (rules_of words >>= λ x. Some (lines.Rules x))
    (cond (bytes_eq name (codes "state")) (state_of words)
    (cond (bytes_eq name (codes "entries")) (counts_of 0 words >>= λ x. Some (lines.Entries x))
    (cond (bytes_eq name (codes "agents")) (agents_of words >>= λ x. Some (lines.Agents x))
    (cond (bytes_eq name (codes "tasks")) (tasks_of words >>= λ x. Some (lines.Tasks x))
    (cond (bytes_eq name (codes "begin")) (at_end words lines.Begin) None)))))))))

unfoldable pub line_at : List (List ℕ) → Option Line
line_at [] = None
line_at (name ∷ words) = line_by name words

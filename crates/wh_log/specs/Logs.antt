-- What a log is: its text is fixed by its version and its content.
use Rattle.std.specs.Prelude.{◌≡◌, ℕ, ◌<◌, ◌≤◌, ◌^◌, List, [], ◌∷◌, ◌++◌, map, length, codes, decimal}
use Rattle.std.specs.List.{AllByRecursion}
use Rattle.wh_words.specs.Lines.{text_of}
use Rattle.wh_words.specs.Words.{line_of}
use Rattle.wh_event.specs.declared.entry.Entry.{Entry}
use Rattle.wh_log.specs.Spelling.{entry_line}
use Rattle.wh_log.specs.Ranges.{IsClock, Keeps}
use Rattle.wh_log.specs.declared.version.Version.{Version}
use Rattle.wh_log.specs.declared.version.Version.TheVariants.{One, Two}

-- what a log tells
pub record Content : Type 0 where
  pub clock : ℕ  -- the opening clock
  pub slots : List ℕ  -- the opening slots of each agent
  pub entries : List Entry

-- the first line tells the version
abbrev pub head_line : Version → List ℕ
head_line One = codes "wlog 1"
head_line Two = codes "wlog 2"

-- how many stops a task may have
abbrev pub most_stops : Version → ℕ
most_stops One = 2
most_stops Two = 8

-- start CLOCK slots N0 N1 ..
abbrev pub start_line : ℕ → List ℕ → List ℕ
start_line clock slots = line_of (codes "start" ∷ decimal clock ∷ codes "slots" ∷ map decimal slots)

-- end COUNT
abbrev pub end_line : ℕ → List ℕ
end_line count = line_of (codes "end" ∷ decimal count ∷ [])

-- the first two lines, one line for each entry in their order, and the end line
abbrev pub log_lines : Version → Content → List (List ℕ)
log_lines version content = head_line version ∷ start_line content.clock content.slots ∷ (map entry_line content.entries ++ end_line (length content.entries) ∷ [])

-- an opening number of slots
abbrev pub IsSlots : ℕ → Type 0
IsSlots n = (2 ≤ n) × (n ≤ 64)

-- the ranges of the first two lines
pub record Opens (clock : ℕ) (slots : List ℕ) : Type 0 where
  pub clock_fits : IsClock clock
  pub some : 1 ≤ length slots
  pub few : length slots ≤ 256
  pub each : AllByRecursion IsSlots slots

-- what a log of the version can tell
pub record Fits (version : Version) (content : Content) : Type 0 where
  pub opens : Opens content.clock content.slots
  pub entries : AllByRecursion (Keeps (most_stops version)) content.entries
  pub count : length content.entries < 10 ^ 9

-- the text is a log of this content
pub record IsLogText (content : Content) (text : List ℕ) : Type 0 where
  pub version : Version
  pub fits : Fits version content
  pub text_is : text ≡ text_of (log_lines version content)

-- A run that is killed, and goes on from what the kill left of its log file: what each life did, and what the next one finds.
use Rattle.std.specs.Prelude.{◌≡◌, ◌<◌, ◌≤◌, ◌^◌, ◌⊎◌, ℕ, Bool, List, [], ◌++◌, length, Option, None, Some, IfSome, Result, Ok, Err}
use Rattle.std.specs.List.{sum_by}
use Rattle.wh_lines.specs.Input.{Input, Takes}
use Rattle.wh_grid.specs.Grids.{Floor}
use Rattle.wh_points.specs.Points.{Site}
use Rattle.wh_event.specs.declared.entry.Entry.{Entry}
use Rattle.wh_core.specs.States.{State}
use Rattle.wh_core.specs.Laws.{IsOpening, IsBeginning}
use Rattle.wh_core.specs.Steps.{Run}
use Rattle.wh_front.specs.declared.front.Count.{Count}
use Rattle.wh_front.specs.declared.front.Front.{Front}
use Rattle.wh_front.specs.Fronts.{front_text}
use Rattle.wh_restore.specs.Heads.{first_two_lines}
use Rattle.wh_restore.specs.SoundFronts.{state_told}
use Rattle.wh_resume.specs.Behind.{IsFrontOf}
use Rattle.wh_resume.specs.Drafts.{Seen}
use Rattle.wh_replay.specs.Answers.{text_of}
use Rattle.wh_replay.specs.declared.asker.Asker.{Asker}
use Rattle.wh_journal.specs.Journals.{ServesLines, lines_for}
use Rattle.wh_journal.specs.Scripts.{WritesFront}
use Rattle.wh_continue.specs.Running.{first_text, last_line}
use Rattle.wh_continue.specs.Starting.{IsWhyNoStart, NamesOther, StartsByFile}
use Rattle.wh_continue.specs.declared.starting.Start.{Start}
use Rattle.wh_continue.specs.declared.starting.StartFault.TheVariants.{Bad, Flawed, Unread, NoMemory}
use Rattle.wh_lives.specs.declared.life.LifeFault.{LifeFault}
use Rattle.wh_lives.specs.declared.life.LifeFault.TheVariants.{Unstarted, Unbegun, Stopped}

-- What is known of a life: what it found in its log, the book behind the last line to which it may have told a reply, and the book at its end.
pub record Deeds : Type 0 where
  pub start : Start
  pub known : Seen
  pub final : Seen

-- The text is a front with which a run of the site may go on: all are on their ways in its state, which is this, and it tells of fewer than
-- 2^63 entries.
pub record IsSoundHead (site : Site) (opening : State) (text : List ℕ) : Type 0 where
  pub front : Front
  pub sound : IsFrontOf site front
  pub text_is : text ≡ front_text front
  pub opening_is : opening ≡ state_told front
  pub few : sum_by (λ (count : Count). count.entries) front.counts < 2 ^ 63

-- a run of the site begins with this state, and its log with these bytes: two lines, or such a front
abbrev pub StandsBefore : Site → State → List ℕ → Type 0
StandsBefore site opening text = (IsOpening site opening × (text ≡ first_two_lines opening.clock opening.slots)) ⊎ IsSoundHead site opening text

-- The log of what is known was synced. Behind it stands a front of the lines of later entries, or of the line that ends the log.
pub record IsSafe (site : Site) (known : Seen) (later : List Entry) (synced holds : Option (List ℕ)) : Type 0 where
  pub head : List ℕ
  pub stands_before : StandsBefore site known.opening head
  pub kept : List ℕ
  pub log : kept ≡ head ++ lines_for known.history
  pub safe : List ℕ
  pub synced_is : synced ≡ Some safe
  pub no_less : length kept ≤ length safe
  pub behind : WritesFront (Some kept) holds (lines_for later) ⊎ ((later ≡ []) × WritesFront (Some kept) holds (last_line (length known.history)))

-- A life over a log file. It went on from what it found there, and told how many entries that has. It served whole lines, and told a front of the
-- replies to them; then it served more, of which it told nothing; what else it took of its input it did not serve. What it found and what it did
-- are one run, from the opening or the state that it found.
pub record Life {X : Type 0} (fits : X → Floor → Bool) (count : X → ℕ) (asker : Asker) (site : Site) (slots : List ℕ) (spares : List X)
    (before after : Input) (had has file synced holds : Option (List ℕ)) (deeds : Deeds) : Type 0 where
  pub starts : StartsByFile site slots file deeds.start
  pub answered : List ℕ
  pub replies : List (List ℕ)
  pub added : List Entry
  pub held : List X
  pub serves : ServesLines fits count asker deeds.start.book spares deeds.known held answered replies added
  pub told : WritesFront had has (first_text None deeds.start ++ text_of replies)
  pub unanswered : List ℕ
  pub untold : List (List ℕ)
  pub later : List Entry
  pub rest : List X
  pub serves_more : ServesLines fits count asker deeds.known held deeds.final rest unanswered untold later
  pub unserved : List ℕ
  pub takes : Takes before after (answered ++ (unanswered ++ unserved))
  pub is_safe : IfSome file (λ _. IsSafe site deeds.known later synced holds)
  pub is_beginning : IsBeginning site deeds.final.opening
  pub run : Run site deeds.final.opening deeds.final.history deeds.final.state

-- nothing was taken of the input, and nothing was told
abbrev pub IsSilent : (before after : Input) → (had has : Option (List ℕ)) → Type 0
IsSilent before after had has = (after ≡ before) × (has ≡ had)

-- what a session over a log file came to: a life, or nothing where its log was not begun
abbrev pub Lived : {X : Type 0} → (X → Floor → Bool) → (X → ℕ) → Asker → Site → (slots : List ℕ) → (spares : List X) → (result : Result Unit LifeFault)
    → (before after : Input) → (had has file synced holds : Option (List ℕ)) → Deeds → Type 0
Lived fits count asker site slots spares (Ok _) before after had has file synced holds deeds = Life fits count asker site slots spares before after had has file synced holds deeds
Lived fits count asker site slots spares (Err (Unstarted fault)) before after had has file synced holds deeds = IsWhyNoStart site slots file fault × IsSilent before after had has
Lived fits count asker site slots spares (Err (Unbegun fault)) before after had has file synced holds deeds = StartsByFile site slots file deeds.start × IsSilent before after had has
Lived fits count asker site slots spares (Err (Stopped fault)) before after had has file synced holds deeds = Life fits count asker site slots spares before after had has file synced holds deeds

-- the first list and then others are all
abbrev pub IsFirstOf : (first all : List Entry) → Type 0
IsFirstOf first all = (others : List Entry) × (all ≡ first ++ others)

-- A book goes on from a life: each entry to which that may have told a reply stands in it, at its place, in a run from the same opening; behind them
-- stand only entries of that life, in their order.
pub record Continues (life : Deeds) (found : Seen) : Type 0 where
  pub site_is : found.site ≡ life.known.site
  pub opening_is : found.opening ≡ life.known.opening
  pub all_known : IsFirstOf life.known.history found.history
  pub none_else : IsFirstOf found.history life.final.history

-- What a second life finds of the first: it goes on from that. It is refused a start only where the file is not to be read, memory runs out, or the
-- log tells of a planner that the program does not make: never for a line that the kill cut or lost.
abbrev pub Finds : (site : Site) → (left : Option (List ℕ)) → (first : Deeds) → Result Unit LifeFault → (second : Deeds) → Type 0
Finds site left first (Ok _) second = Continues first second.start.book
Finds site left first (Err (Unstarted (Bad line))) second = IfSome left (λ text. NamesOther site text line)
Finds site left first (Err (Unstarted (Flawed line reason))) second = ⊥
Finds site left first (Err (Unstarted Unread)) second = Unit {0}
Finds site left first (Err (Unstarted NoMemory)) second = Unit {0}
Finds site left first (Err (Unbegun fault)) second = Continues first second.start.book
Finds site left first (Err (Stopped fault)) second = Continues first second.start.book

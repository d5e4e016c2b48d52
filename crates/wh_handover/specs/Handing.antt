-- what the front of a log tells that goes on from what another log tells
use Rattle.std.specs.Prelude.{◌≡◌, ◌⊎◌, ℕ, ◌+◌, ◌<◌, ◌≤◌, List, [], ◌∷◌, ◌++◌, map, take, length, Option, Some, None, Bool}
use Rattle.sha2.specs.Sha256.{sha256}
use Rattle.hex.specs.Hex.{encode_lower}
use Rattle.wh_words.specs.Lines.{text_of}
use Rattle.wh_points.specs.Points.{Site}
use Rattle.wh_core.specs.States.{State, opened}
use Rattle.wh_core.specs.Steps.{Run}
use Rattle.wh_core.specs.Laws.{IsBeginning}
use Rattle.wh_event.specs.declared.entry.Entry.{Entry}
use Rattle.wh_log.specs.declared.version.Version.{Version}
use Rattle.wh_log.specs.declared.version.Version.TheVariants.{Two}
use Rattle.wh_log.specs.Ranges.{IsSmall}
use Rattle.wh_log.specs.Logs.{Content, Fits as FitsLog, head_line, start_line}
use Rattle.wh_log.specs.Torn.{Holds, IsRest}
use Rattle.wh_front.specs.declared.front.Front.{Front}
use Rattle.wh_front.specs.declared.front.Count.{Count}
use Rattle.wh_front.specs.declared.front.Submission.{Submission}
use Rattle.wh_front.specs.declared.before.Before.{Before}
use Rattle.wh_front.specs.declared.before.Before.TheVariants as before
use Rattle.wh_front.specs.declared.rules.Kind.TheVariants as kind
use Rattle.wh_front.specs.Fronts.{Fits, front_text}
use Rattle.wh_stand.specs.Parts.{state_of}
use Rattle.wh_restore.specs.SoundFronts.{state_told}
use Rattle.wh_resume.specs.Drafts.{Seen}
use Rattle.wh_resume.specs.Behind.{IsFrontOf, IsFlawed, entries_told, rules_of}
use Rattle.wh_resume.specs.Resuming.{IsWhyBad}
use Rattle.wh_snapshot.specs.Snapshots.{IsSnapshot, CanCount, all_told, told_parts}
use Rattle.wh_handover.specs.declared.front.HandoverFault.{HandoverFault}
use Rattle.wh_handover.specs.declared.front.HandoverFault.TheVariants as fault

-- ---- the log from which another goes on
-- what it tells
pub record Told : Type 0 where
  pub head : List ℕ  -- the bytes before its entries
  pub opening : State
  pub entries : List Entry
  pub callers : List ℕ  -- who submitted each task of the opening
  pub counts : List Count  -- how many entries each caller had had
  pub number : ℕ  -- its number in its chain, from 1

-- a log of version 1 or 2 begins a chain
abbrev pub told_of : Site → Version → Content → Told
told_of site version content = record {
  head = text_of (head_line version ∷ start_line content.clock content.slots ∷ []);
  opening = opened site.layout content.clock content.slots;
  entries = content.entries;
  callers = [];
  counts = [];
  number = 1;
}

-- the number of the log behind that one
abbrev pub number_behind : Before → ℕ
number_behind before.Nothing = 1
number_behind (before.Log number bytes sum) = number + 1

-- a log of version 3 goes on from what its front tells
abbrev pub told_behind : Front → List Entry → Told
told_behind front entries = record {
  head = front_text front;
  opening = state_told front;
  entries = entries;
  callers = map (λ (submission : Submission). submission.caller) front.tasks;
  counts = front.counts;
  number = number_behind front.before;
}

-- the text holds a log of version 1 or 2, and perhaps a part of a line behind it
pub record HoldsFirst (site : Site) (text : List ℕ) (told : Told) : Type 0 where
  pub version : Version
  pub content : Content
  pub is_ended : Bool
  pub bytes : ℕ
  pub holds : Holds version content is_ended text bytes
  pub is : told ≡ told_of site version content

-- the text holds a log of version 3, and perhaps a part of a line behind it
pub record HoldsLater (site : Site) (text : List ℕ) (told : Told) : Type 0 where
  pub front : Front
  pub entries : List Entry
  pub is_ended : Bool
  pub rest : List ℕ
  pub is_front : IsFrontOf site front
  pub fits : FitsLog Two (record { clock = (state_told front).clock; slots = (state_told front).slots; entries = entries })
  pub text_is : text ≡ (front_text front ++ entries_told entries) ++ rest
  pub rest_is : IsRest is_ended (record { clock = (state_told front).clock; slots = (state_told front).slots; entries = entries }) rest
  pub is : told ≡ told_behind front entries

-- the text holds a log of a run over the site, which tells this
pub record Tells (site : Site) (text : List ℕ) (told : Told) : Type 0 where
  pub holds : HoldsFirst site text told ⊎ HoldsLater site text told
  pub begins : IsBeginning site told.opening
  pub state : State
  pub run : Run site told.opening told.entries state

-- ---- how far it counts
-- its bytes up to the entry of this number
abbrev pub text_to : ℕ → Told → List ℕ
text_to count told = told.head ++ entries_told (take count told.entries)

-- how many of its entries count: all, or those up to the one of the number asked for, where the entries of a chain are counted from its
-- first opening
abbrev pub IsCount : Option ℕ → Told → ℕ → Type 0
IsCount None told count = count ≡ length told.entries
IsCount (Some number) told count = (number ≡ all_told told.counts + count) × (count ≤ length told.entries)

-- the chain has no entry of this number in this log, nor ends the log before with it
abbrev pub IsOutside : Option ℕ → Told → Type 0
IsOutside None told = ⊥
IsOutside (Some number) told = (number < all_told told.counts) ⊎ (all_told told.counts + length told.entries < number)

-- ---- the front
-- a book that came to this state by the first entries
abbrev pub seen_after : Site → Told → ℕ → State → Seen
seen_after site told count state = record { site = site; opening = told.opening; state = state; history = take count told.entries; entry_room = 0; task_room = 0 }

-- the log before, as far as the entry of this number
abbrev pub before_after : ℕ → Told → Before
before_after count told = before.Log told.number (length (text_to count told)) (encode_lower (sha256 (text_to count told)))

-- The front tells the state after the entries that count, and what was before: the log that the text holds, as far as there.
pub record IsHandover (site : Site) (text : List ℕ) (after : Option ℕ) (front : Front) : Type 0 where
  pub told : Told
  pub tells : Tells site text told
  pub count : ℕ
  pub count_is : IsCount after told count
  pub state : State
  pub run : Run site told.opening (take count told.entries) state
  pub is : IsSnapshot told.callers told.counts (seen_after site told count state) front
  pub state_is : state_of (told_parts front) ≡ state
  pub before_is : front.before ≡ before_after count told
  pub rules_are : front.rules ≡ rules_of site
  pub kind_is : front.kind ≡ kind.Whole
  pub fits : Fits front

-- the log has no such state: the entry is not one of its; or its entries or the next log's number are more than a front can tell
pub record HasNoState (site : Site) (text : List ℕ) (after : Option ℕ) : Type 0 where
  pub told : Told
  pub tells : Tells site text told
  pub why : IsOutside after told ⊎ ((CanCount told.counts told.entries → ⊥) ⊎ (IsSmall told.number → ⊥))

-- Why there is no such front: the text is empty; its front has a flaw, or an agent in it is not on its way; it has no such state, which is
-- told as line 0; or this is the first line with which no log of a run begins.
abbrev pub IsWhyNone : Site → List ℕ → Option ℕ → HandoverFault → Type 0
IsWhyNone site text after fault.Empty = text ≡ []
IsWhyNone site text after (fault.Flawed line reason) = IsFlawed site text line reason
IsWhyNone site text after (fault.Bad line) = ((line ≡ 0) × HasNoState site text after) ⊎ IsWhyBad site [] text line
IsWhyNone site text after fault.NoMemory = Unit {0}

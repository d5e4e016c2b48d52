-- what is said of a text that is to be the log of a run which began with the state of a front
use Rattle.std.specs.Prelude.{◌≡◌, ◌⊎◌, ℕ, ◌+◌, ◌<◌, Bool, List, ◌∷◌, ◌++◌, map, length, codes, None, Some, slice_get}
use Rattle.wh_points.specs.Points.{Site}
use Rattle.wh_words.specs.Lines.{text_of}
use Rattle.wh_core.specs.States.{State}
use Rattle.wh_core.specs.Steps.{Run}
use Rattle.wh_judge.specs.Drafts.{Seen}
use Rattle.wh_event.specs.declared.entry.Entry.{Entry}
use Rattle.wh_log.specs.Spelling.{entry_line}
use Rattle.wh_log.specs.Logs.{Content, IsSlots, Fits as FitsLog}
use Rattle.wh_log.specs.declared.version.Version.TheVariants.{Two}
use Rattle.wh_log.specs.FirstBad.{IsFirstBad, Begins}
use Rattle.wh_log.specs.Torn.{IsRest}
use Rattle.wh_front.specs.declared.rules.Rules.{Rules}
use Rattle.wh_front.specs.declared.front.Front.{Front}
use Rattle.wh_front.specs.declared.front.Submission.{Submission}
use Rattle.wh_front.specs.declared.front.Seat.{Seat}
use Rattle.wh_front.specs.declared.line.Line.TheVariants as lines
use Rattle.wh_front.specs.Fronts.{front_text, front_lines}
use Rattle.wh_restore.specs.Heads.{first_two_lines}
use Rattle.wh_restore.specs.Restoring.{head_of}
use Rattle.wh_restore.specs.SoundFronts.{IsSoundFront, state_told}
use Rattle.wh_restore.specs.FirstFlawed.{IsFirstFlawed}
use Rattle.wh_restore.specs.declared.reason.Reason.{Reason}
use Rattle.wh_restore.specs.declared.reason.Reason.TheVariants as reasons
use Rattle.wh_resume.specs.declared.recovery.Preface.{Preface}

-- the first line of the text is that of a log of version 3
pub record IsVersionThree (text : List ℕ) : Type 0 where
  pub rest : List ℕ
  pub is : text ≡ codes "wlog 3" ++ 10 ∷ rest

-- the rules of a run over the site: no option gives classes of age
abbrev pub rules_of : Site → Rules
rules_of site = record { homes = site.homes; age = None }

-- the lines of entries
abbrev pub entries_told : List Entry → List ℕ
entries_told entries = text_of (map entry_line entries)

-- what a log of version 2 would tell of the book beside the state with which it began
abbrev pub content_of : Seen → Content
content_of book = record { clock = book.opening.clock; slots = book.opening.slots; entries = book.history }

-- a front of a sound state over the site
abbrev pub IsFrontOf : Site → Front → Type 0
IsFrontOf site front = IsSoundFront site (rules_of site) front

-- what the front tells beside the state
pub record IsPrefaceOf (front : Front) (preface : Preface) : Type 0 where
  pub head_is : preface.head ≡ head_of front
  pub callers_are : preface.callers ≡ map (λ (submission : Submission). submission.caller) front.tasks
  pub lines_are : preface.lines ≡ length (front_lines front)
  pub text_is : preface.text.items ≡ front_text front

-- The front and the lines of the book's entries stand whole at the front of the text, in this many bytes, and no other line does but, where
-- it is ended, the end line. The book began with the state that the front tells.
pub record GoesOnBehind (site : Site) (text : List ℕ) (bytes : ℕ) (is_ended : Bool) (preface : Preface) (book : Seen) : Type 0 where
  pub front : Front
  pub is_front : IsFrontOf site front
  pub fits : FitsLog Two (content_of book)
  pub rest : List ℕ
  pub text_is : text ≡ (front_text front ++ entries_told book.history) ++ rest
  pub rest_is : IsRest is_ended (content_of book) rest
  pub bytes_are : bytes ≡ length (front_text front ++ entries_told book.history)
  pub preface_is : IsPrefaceOf front preface
  pub site_is : book.site ≡ site
  pub opening_is : book.opening ≡ state_told front

-- a log's clock and slots are those of the state, and its entries are a run from it
pub record IsRunFrom (site : Site) (opening : State) (content : Content) : Type 0 where
  pub clock_is : content.clock ≡ opening.clock
  pub slots_are : content.slots ≡ opening.slots
  pub state : State
  pub run : Run site opening content.entries state

-- With the lines before this one a log of a run from the state of its front begins, and none begins with it, nor with the text. Behind its
-- front such a log is one of version 2 with its first two lines in place of the front.
pub record BreaksOffBehind (site : Site) (text : List ℕ) (line : ℕ) : Type 0 where
  pub front : Front
  pub is_front : IsFrontOf site front
  pub rest : List ℕ
  pub text_is : text ≡ front_text front ++ rest
  pub number : ℕ
  pub bad : IsFirstBad (IsRunFrom site (state_told front)) (first_two_lines front.clock (map (λ (seat : Seat). seat.slots) front.seats) ++ rest) number
  pub never : Begins (IsRunFrom site (state_told front)) (first_two_lines front.clock (map (λ (seat : Seat). seat.slots) front.seats) ++ rest) → ⊥
  pub line_is : line + 2 ≡ number + length (front_lines front)

-- The text begins with a front of a sound state. This is the line of the first agent whose planner has
-- fewer than 2 slots or more than 64: no log begins so.
pub record HasOddSlots (site : Site) (text : List ℕ) (line : ℕ) : Type 0 where
  pub front : Front
  pub is_front : IsFrontOf site front
  pub rest : List ℕ
  pub text_is : text ≡ front_text front ++ rest
  pub agent : ℕ
  pub seat : Seat
  pub seat_is : slice_get front.seats agent ≡ Some seat
  pub place : ℕ
  pub place_is : slice_get (front_lines front) place ≡ Some (lines.Agent seat)
  pub line_is : line ≡ place + 1
  pub odd : IsSlots seat.slots → ⊥
  pub earlier : (other : ℕ) (one : Seat) → other < agent → slice_get front.seats other ≡ Some one → IsSlots one.slots

-- The first line is that of version 3, and a line of the front has a flaw: with it no front of a sound state begins, or the slots that it
-- tells are out of range.
pub record IsFlawed (site : Site) (text : List ℕ) (line : ℕ) (reason : Reason) : Type 0 where
  pub version : IsVersionThree text
  pub why : IsFirstFlawed site (rules_of site) text line reason ⊎ ((reason ≡ reasons.Form) × HasOddSlots site text line)

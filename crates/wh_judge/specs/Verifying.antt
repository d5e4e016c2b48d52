-- what is said of a text that is to be the history of a warehouse
use Rattle.std.specs.Prelude.{◌≡◌, ◌⊎◌, ℕ, Bool, true, false, List, length, Option, None, Some}
use Rattle.wh_points.specs.Points.{Site}
use Rattle.wh_core.specs.States.{State, opened}
use Rattle.wh_core.specs.Steps.{Run}
use Rattle.wh_core.specs.Laws.{IsOpening}
use Rattle.wh_log.specs.Logs.{Content, IsLogText}
use Rattle.wh_log.specs.FirstBad.{IsFirstBad, Begins}
use Rattle.wh_log.specs.Torn.{Holds, IsUnopened}
use Rattle.wh_log.specs.declared.version.Version.{Version}
use Rattle.wh_log.specs.declared.front_log.Front.{Front}
use Rattle.wh_log.specs.declared.front_log.Front.TheVariants.{Whole, Unopened, Bad}
use Rattle.wh_judge.specs.declared.verifier.Verified.{Verified}
use Rattle.wh_judge.specs.declared.verifier.VerifiedFront.{VerifiedFront}
use Rattle.wh_judge.specs.declared.verifier.Verified.TheVariants as told

-- a warehouse may open with the log's clock and slots, and the log's entries are a run from there
pub record IsRunOf (site : Site) (content : Content) : Type 0 where
  pub is_opening : IsOpening site (opened site.layout content.clock content.slots)
  pub state : State
  pub run : Run site (opened site.layout content.clock content.slots) content.entries state

-- Run tells a log whose entries are a run, and how many they are; Bad tells the first line with which no such log begins.
abbrev pub Says : Site → List ℕ → Verified → Type 0
Says site text (told.Run entries) = (content : Content) × IsLogText content text × IsRunOf site content × (length content.entries ≡ entries)
Says site text (told.Bad line) = IsFirstBad (IsRunOf site) text line

-- The lines of a log without its last one stand whole in the text, a part of a line may follow, and these entries are a run.
pub record IsUnended (site : Site) (text : List ℕ) (entries : ℕ) : Type 0 where
  pub version : Version
  pub content : Content
  pub bytes : ℕ
  pub holds : Holds version content false text bytes
  pub is_run : IsRunOf site content
  pub count : length content.entries ≡ entries

-- What is said of a text that may lack its last line. Run tells a log whose entries are a run, whole where it is ended. Bad tells the
-- first line with which no such log begins: the text begins none, or fewer than two of its lines stand whole.
abbrev pub SaysUnended : Site → List ℕ → Verified → (is_ended : Bool) → Type 0
SaysUnended site text (told.Run entries) true = Says site text (told.Run entries)
SaysUnended site text (told.Run entries) false = IsUnended site text entries
SaysUnended site text (told.Bad line) is_ended = IsFirstBad (IsRunOf site) text line × ((Begins (IsRunOf site) text → ⊥) ⊎ IsUnopened text)

-- what is told of a front that was followed: nothing where fewer than two lines stand whole
abbrev pub told_front : Front → Option VerifiedFront
told_front (Whole version entries bytes is_ended) = Some (record { verified = told.Run entries; is_ended = is_ended })
told_front (Unopened text) = None
told_front (Bad line bytes) = Some (record { verified = told.Bad line; is_ended = false })

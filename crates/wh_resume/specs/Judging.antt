-- what is said of a text of any version that is to be the history of a warehouse
use Rattle.std.specs.Prelude.{◌≡◌, ◌⊎◌, ℕ, ◌+◌, Bool, true, false, List, ◌++◌, map, length}
use Rattle.wh_points.specs.Points.{Site}
use Rattle.wh_log.specs.Logs.{Content, Fits as FitsLog}
use Rattle.wh_log.specs.FirstBad.{IsFirstBad, Begins}
use Rattle.wh_log.specs.Torn.{IsRest}
use Rattle.wh_log.specs.declared.version.Version.TheVariants.{Two}
use Rattle.wh_judge.specs.Verifying.{Says, SaysUnended}
use Rattle.wh_judge.specs.declared.verifier.Verified.{Verified}
use Rattle.wh_judge.specs.declared.verifier.Verified.TheVariants as told
use Rattle.wh_judge.specs.declared.verifier.VerifiedFront.{VerifiedFront}
use Rattle.wh_front.specs.declared.front.Front.{Front}
use Rattle.wh_front.specs.declared.front.Seat.{Seat}
use Rattle.wh_front.specs.Fronts.{front_text, front_lines}
use Rattle.wh_restore.specs.Heads.{first_two_lines}
use Rattle.wh_restore.specs.SoundFronts.{state_told}
use Rattle.wh_restore.specs.declared.reason.Reason.{Reason}
use Rattle.wh_resume.specs.Behind.{IsFrontOf, IsRunFrom, IsFlawed, entries_told}

-- Of a text of version 1 or 2 the same is said as where no other version is known. Where the last line may be missing, it is said whether
-- it stands.
abbrev pub SaysOfTwo : Site → (unended : Bool) → (text : List ℕ) → VerifiedFront → Type 0
SaysOfTwo site true text said = SaysUnended site text said.verified said.is_ended
SaysOfTwo site false text said = Says site text said.verified × (said.is_ended ≡ true)

-- The text is a front of a sound state, then the lines of entries that are a run from it, this many, and then
-- the end line, or a part of a line where it is not ended.
pub record RunsBehind (site : Site) (text : List ℕ) (entries : ℕ) (is_ended : Bool) : Type 0 where
  pub front : Front
  pub is_front : IsFrontOf site front
  pub content : Content
  pub fits : FitsLog Two content
  pub rest : List ℕ
  pub text_is : text ≡ (front_text front ++ entries_told content.entries) ++ rest
  pub rest_is : IsRest is_ended content rest
  pub run : IsRunFrom site (state_told front) content
  pub count : length content.entries ≡ entries

-- Behind a front of a sound state this is the first line with which no log of a run from that state goes on.
-- Lines are counted from the front's first. Where the last line may be missing, none begins with the text.
pub record IsBadBehind (site : Site) (unended : Bool) (text : List ℕ) (line : ℕ) : Type 0 where
  pub front : Front
  pub is_front : IsFrontOf site front
  pub rest : List ℕ
  pub text_is : text ≡ front_text front ++ rest
  pub number : ℕ
  pub bad : IsFirstBad (IsRunFrom site (state_told front)) (first_two_lines front.clock (map (λ (seat : Seat). seat.slots) front.seats) ++ rest) number
  pub never : unended ≡ true → Begins (IsRunFrom site (state_told front)) (first_two_lines front.clock (map (λ (seat : Seat). seat.slots) front.seats) ++ rest) → ⊥
  pub line_is : line + 2 ≡ number + length (front_lines front)

-- What is said of a text of version 3. Run tells a front and a log of a run from its state, ended unless its last line may be missing.
-- Bad tells the first line with a flaw, of the front or behind it.
abbrev pub SaysOfThree : Site → (unended : Bool) → (text : List ℕ) → Verified → (is_ended : Bool) → Type 0
SaysOfThree site unended text (told.Run entries) is_ended = RunsBehind site text entries is_ended × (unended ≡ false → is_ended ≡ true)
SaysOfThree site unended text (told.Bad line) is_ended =
    ((reason : Reason) × IsFlawed site text line reason) ⊎ IsBadBehind site unended text line

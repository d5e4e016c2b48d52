-- one step of a session: the next line
use Rattle.std.specs.Prelude.{◌≡◌, ◌⊎◌, ℕ, ◌<◌, Bool, true, false, List, [], ◌∷◌, ◌++◌, length, Option}
use Rattle.std.specs.Io.KnownBytes.{IsAtEnd}
use Rattle.wh_text.specs.Lines.{IsLine}
use Rattle.wh_lines.specs.Text.{short_line}
use Rattle.wh_lines.specs.Input.{Input, left, Takes}
use Rattle.wh_session.specs.declared.machine.Halt.{Halt}
use Rattle.wh_session.specs.declared.fault.SessionFault.{SessionFault}
use Rattle.wh_session.specs.declared.stepping.Step.{Step}
use Rattle.wh_session.specs.declared.stepping.Step.TheVariants.{Line, Ended, Torn, Over}
use Rattle.wh_session.specs.Machines.{Records, ServesOne}
use Rattle.wh_session.specs.Sessions.{IsWholeLine, LeavesOff, HasCause}

-- a whole line was taken and served
pub record TakesLine {S : Type 0} (serves : S → Option (List ℕ) → List ℕ → Records → S → Type 0) (before after : Input) (old new : S) (said says : List ℕ) (came comes : Records) : Type 0 where
  pub raw : List ℕ
  pub plain : IsLine raw
  pub takes : Takes before after (raw ++ 10 ∷ [])
  pub one : ServesOne serves (short_line raw) old new said says came comes

-- the same waits, in the same state
pub record Same {S : Type 0} (old new : S) (said says : List ℕ) (came comes : Records) : Type 0 where
  pub state : new ≡ old
  pub said_is : says ≡ said
  pub came_is : comes ≡ came

-- the end was reached, and what follows the last line feed was served, or nothing does
pub record TakesRest {S : Type 0} (serves : S → Option (List ℕ) → List ℕ → Records → S → Type 0) (last_too : Bool) (before after : Input) (old new : S) (said says : List ℕ) (came comes : Records) : Type 0 where
  pub raw : List ℕ
  pub plain : IsLine raw
  pub takes : Takes before after raw
  pub ended : IsAtEnd (left after)
  pub one : (Same old new said says came comes × (raw ≡ [])) ⊎ ((last_too ≡ true) × (0 < length raw) × ServesOne serves (short_line raw) old new said says came comes)

-- the end was reached, and what follows the last line feed was not served
pub record TakesTorn {S : Type 0} (last_too : Bool) (before after : Input) (old new : S) (said says : List ℕ) (came comes : Records) : Type 0 where
  pub raw : List ℕ
  pub plain : IsLine raw
  pub some : 0 < length raw
  pub takes : Takes before after raw
  pub ended : IsAtEnd (left after)
  pub not_too : last_too ≡ false
  pub same : Same old new said says came comes

-- the service is over, and a line that had come was not served
pub record TakesNone {S : Type 0} (before after : Input) (old new : S) (said says : List ℕ) (came comes : Records) : Type 0 where
  pub bytes : List ℕ
  pub line : IsWholeLine bytes
  pub takes : Takes before after bytes
  pub same : Same old new said says came comes

abbrev pub Steps : {S : Type 0} → (S → Option (List ℕ) → List ℕ → Records → S → Type 0) → Bool → Step → Input → Input → S → S → (said says : List ℕ) → (came comes : Records) → Type 0
Steps serves last_too Line before after old new said says came comes = TakesLine serves before after old new said says came comes
Steps serves last_too Ended before after old new said says came comes = TakesRest serves last_too before after old new said says came comes
Steps serves last_too Torn before after old new said says came comes = TakesTorn last_too before after old new said says came comes
Steps serves last_too Over before after old new said says came comes = TakesNone before after old new said says came comes

abbrev pub StepsFrom : {X : Type 0} → {S : Type 0} → (X → S → Type 0) → (S → Option (List ℕ) → List ℕ → Records → S → Type 0) → (X → S → List ℕ) → (X → S → Records) → Bool → Step → Input → Input → X → X → Type 0
StepsFrom {X} {S} stands serves says logs last_too step before after old new =
    (s : S) → stands old s → (e : S) × stands new e × Steps serves last_too step before after s e (says old s) (says new e) (logs old s) (logs new e)

-- no further line was served
pub record Halts {S : Type 0} (halts : S → Option (List ℕ) → Halt → S → Type 0) (last_too : Bool) (fault : SessionFault) (before after : Input) (old new : S) : Type 0 where
  pub bytes : List ℕ
  pub takes : Takes before after bytes
  pub left_off : LeavesOff halts last_too fault after bytes old new
  pub cause : HasCause fault before after 0

abbrev pub HaltsStepFrom : {X : Type 0} → {S : Type 0} → (X → S → Type 0) → (S → Option (List ℕ) → Halt → S → Type 0) → Bool → SessionFault → Input → Input → X → X → Type 0
HaltsStepFrom {X} {S} stands halts last_too fault before after old new = (s : S) → stands old s → (e : S) × stands new e × Halts halts last_too fault before after s e

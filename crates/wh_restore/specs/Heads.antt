-- what stands before the entries in the log of a run
use Rattle.std.specs.Prelude.{◌≡◌, ◌⊎◌, ℕ, List, [], ◌∷◌}
use Rattle.wh_words.specs.Lines.{text_of}
use Rattle.wh_core.specs.States.{State}
use Rattle.wh_log.specs.declared.version.Version.TheVariants.{Two}
use Rattle.wh_log.specs.Logs.{head_line, start_line}
use Rattle.wh_front.specs.declared.front.Front.{Front}
use Rattle.wh_front.specs.Fronts.{IsFrontOf}
use Rattle.wh_restore.specs.SoundFronts.{state_told}

-- the first two lines of a log of version 2 whose run begins at this clock with these slots
abbrev pub first_two_lines : (clock : ℕ) (slots : List ℕ) → List ℕ
first_two_lines clock slots = text_of (head_line Two ∷ start_line clock slots ∷ [])

-- the text is a front that tells the state
pub record TellsState (opening : State) (text : List ℕ) : Type 0 where
  pub front : Front
  pub is : IsFrontOf text front
  pub state_is : state_told front ≡ opening

-- What stands before the entries of a run that began with this state: two lines with its clock and slots, or a front that tells it.
abbrev pub IsHeadOf : State → List ℕ → Type 0
IsHeadOf opening text = (text ≡ first_two_lines opening.clock opening.slots) ⊎ TellsState opening text

-- a log of version 1 as one of version 2: each of its lines except the first is a line of version 2 too, and means the same
use Rattle.std.specs.Prelude.{option_map, ◌≡◌, ◌⊎◌, ℕ, Bool, List, take, slice_set, Option, Some, IfSome}
use Rattle.wh_words.specs.Lines.{text_of as lines_text}
use Rattle.wh_log.specs.declared.version.Version.{Version}
use Rattle.wh_log.specs.declared.version.Version.TheVariants.{One, Two}
use Rattle.wh_log.specs.Logs.{Content, Fits, log_lines}
use Rattle.wh_log.specs.Torn.{Holds}

-- the text of a log of this version as one of version 2: the sixth byte is the digit 2 of `wlog 2`
abbrev pub in_two : Version → List ℕ → List ℕ
in_two One text = slice_set text 5 50
in_two Two text = text

-- the same of the bytes that a file tells, where it does
abbrev pub told_in_two : Version → Option (List ℕ) → Option (List ℕ)
told_in_two version file = option_map (λ text. in_two version text) file

-- what may be left of a log that was to be made one of version 2 and then cut: as it was, or of version 2, cut or not
abbrev pub IsHalfRenewed : Version → (bytes : ℕ) → (text left : List ℕ) → Type 0
IsHalfRenewed version bytes text left = (left ≡ text) ⊎ (left ≡ in_two version text) ⊎ (left ≡ take bytes (in_two version text))

-- and of a file that tells its bytes
abbrev pub LeavesHalfRenewed : Version → (bytes : ℕ) → (file holds : Option (List ℕ)) → Type 0
LeavesHalfRenewed version bytes file holds = IfSome file (λ text. (left : List ℕ) × (holds ≡ Some left) × IsHalfRenewed version bytes text left)

-- Each log of version 1 is so made the log of the same content in version 2.
abbrev pub OnesAreTwos : Type 0
OnesAreTwos = (content : Content) → Fits One content → Fits Two content × (in_two One (lines_text (log_lines One content)) ≡ lines_text (log_lines Two content))

-- And so is one that was cut anywhere after its second line.
abbrev pub CutOnesAreTwos : Type 0
CutOnesAreTwos = (content : Content) (is_ended : Bool) (text : List ℕ) (bytes : ℕ) → Holds One content is_ended text bytes → Holds Two content is_ended (in_two One text) bytes

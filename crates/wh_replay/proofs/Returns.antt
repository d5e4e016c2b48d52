-- Lines of which only a front is kept.
use Rattle.std.proofs.Common.{◌≡◌, ℕ, List, length, sym, ap, ◌∙◌, Bool, cond, Some, None, Err, inl, inr}
use Rattle.std.proofs.lemmas.Bool.{lt-ltb}
use Rattle.std.proofs.lemmas.Bool.Decides.{leb_tells}
use Rattle.wh_text.specs.Lines.{without_cr}
use Rattle.wh_text.specs.Words.{words_of}
use Rattle.wh_lines.specs.Text.{short_line}
use Rattle.wh_event.specs.CommandLines.{command_of, command_by}
use Rattle.wh_event.specs.declared.fault.LineFault.TheVariants.{TooLong}
use Rattle.wh_session.specs.Machines.{fitting}
use Rattle.wh_replay.specs.Answers.{said}

-- What a line says is told by what is kept of it: the line, or that it is longer than 256 bytes.
pub said_fits : (line : List ℕ) → said (fitting line) ≡ command_of line
said_fits line = elim (leb_tells (length line) 256) [
  | inl short ↦ ap (λ b. said (cond b (Some line) None)) short.0
  | inr long ↦ ap (λ b. said (cond b (Some line) None)) long.0
      ∙ sym (ap (λ (b : Bool). cond b (Err TooLong) (command_by (words_of line))) (lt-ltb 256 (length line) long.1))
]

pub said_is : (raw : List ℕ) → said (short_line raw) ≡ command_of (without_cr raw)
said_is raw = said_fits (without_cr raw)

-- where a connection begins
use Rattle.std.specs.Prelude.{◌≡◌, ◌≢◌, ℕ, Bool, false, List, [], ◌∷◌, ◌++◌, Option, Some, None, cond}
use Rattle.std.specs.List.{All}
use Rattle.std.specs.Str.{bytes_eq}
use mathlib.Core.List.{IsPrefix}
use Rattle.wh_text.specs.Lines.{lines_of}
use Rattle.wh_lines.specs.Text.{EndsLine}
use Rattle.wh_serve.specs.Texts.{begin_text}
use Rattle.wh_serve.specs.declared.doors.Tag.{Tag}

-- of a connection's lines those that are served: the ones behind the first `begin TAG`, and none where it never comes
abbrev pub behind_begin : Tag → List (List ℕ) → List (List ℕ)
behind_begin tag [] = []
behind_begin tag (line ∷ lines) = cond (bytes_eq line (begin_text tag)) lines (behind_begin tag lines)

-- what a client sends over a connection: `begin TAG` and a line feed, and then bytes of its own
abbrev pub sent_with : Tag → List ℕ → List ℕ
sent_with tag own = begin_text tag ++ 10 ∷ own

-- what stands in front of it where the tag is new: whole lines, of which none is `begin TAG`
pub record StandsBefore (tag : Tag) (bytes : List ℕ) : Type 0 where
  pub whole : EndsLine bytes
  pub others : All (λ line. line ≢ begin_text tag) (lines_of bytes)

-- Of what came over a connection, whole lines were read. Those of them that are served are the first lines of the client's own bytes.
abbrev pub ServesOwn : Type 0
ServesOwn = (tag : Tag) (stale own read more : List ℕ) → StandsBefore tag stale → stale ++ sent_with tag own ≡ read ++ more → EndsLine read
    → IsPrefix (behind_begin tag (lines_of read)) (lines_of own)

-- whether a connection begins at a line, if that is short
abbrev pub is_begin : Tag → Option (List ℕ) → Bool
is_begin tag None = false
is_begin tag (Some line) = bytes_eq line (begin_text tag)

-- Bytes as lines, in the words of texts: a line's one carriage return at its end is dropped.
use Rattle.std.specs.Prelude.{◌≡◌, ◌==◌, ℕ, Bool, bytes_eq, codes, cond, nat_le, List, ◌++◌, length, Option, Some, None}
use Rattle.wh_text.specs.Lines.{lines_of, without_cr}

-- the bytes end with a line feed, or there are none: what follows them begins a line
abbrev pub EndsLine : List ℕ → Type 0
EndsLine bytes = (more : List ℕ) → lines_of (bytes ++ more) ≡ lines_of bytes ++ lines_of more

abbrev pub is_percent : ℕ → Bool
is_percent byte = byte == 37

-- a line that stands between two sections: two percent signs
unfoldable pub is_separator : List ℕ → Bool
is_separator line = bytes_eq line (codes "%%")

-- what a line says, where that is at most 256 bytes
abbrev pub short_line : List ℕ → Option (List ℕ)
short_line line = cond (nat_le (length (without_cr line)) 256) (Some (without_cr line)) None

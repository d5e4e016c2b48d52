-- Sections of the input.
use Rattle.std.specs.Prelude.{◌≡◌, ℕ, ◌<◌, Bool, true, false, ◌⊎◌, List, [], ◌∷◌, ◌++◌, length, take, drop}
use Rattle.std.specs.List.{AllByRecursion}
use Rattle.std.specs.Io.KnownBytes.{IsAtEnd}
use Rattle.wh_text.specs.Lines.{lines_of, without_cr, IsLine}
use Rattle.wh_lines.specs.Text.{EndsLine, is_separator}
use Rattle.wh_lines.specs.Input.{Input, left, Takes}

-- no line of the text stands between two sections
abbrev pub HasNoMark : List ℕ → Type 0
HasNoMark text = AllByRecursion (λ line. is_separator line ≡ false) (lines_of text)

-- a part of a section was taken: whole lines up to start, and the begun line
pub record Collects (old new : Input) (text : List ℕ) (start : ℕ) : Type 0 where
  pub takes : Takes old new text
  pub ends : EndsLine (take start text)
  pub plain : IsLine (drop start text)
  pub unmarked : HasNoMark (take start text)

-- What closes a section, and is taken too: nothing, at the end of the input, or a whole line `%%` behind whole lines.
-- At the end of the input that line needs no line feed.
abbrev pub Closes : Bool → Input → List ℕ → List ℕ → Type 0
Closes true new text mark = (mark ≡ []) × IsAtEnd (left new)
Closes false new text mark = EndsLine text × (line : List ℕ) × (is_separator (without_cr line) ≡ true) × ((mark ≡ line ++ 10 ∷ []) ⊎ ((mark ≡ line) × IsAtEnd (left new)))

-- a section was taken, and was closed by the end of the input or by a line `%%`
pub record Closed (by_end : Bool) (old new : Input) (text : List ℕ) : Type 0 where
  pub mark : List ℕ
  pub takes : Takes old new (text ++ mark)
  pub unmarked : HasNoMark text
  pub closes : Closes by_end new text mark

-- the section was taken, and the reader tells what closed it
abbrev pub Sectioned : Input → Input → List ℕ → Type 0
Sectioned old new text = Closed new.ended old new text

-- No byte that follows can make a line `%%` of the last line: the bytes are whole lines, or nothing follows, or the
-- begun line is longer than two percent signs and a carriage return.
abbrev pub IsSettled : Input → List ℕ → Type 0
IsSettled new bytes = EndsLine bytes ⊎ IsAtEnd (left new) ⊎ ((start : ℕ) × IsLine (drop start bytes) × (3 < length (drop start bytes)))

-- more bytes than the limit were taken, and all of them belong to the section
pub record Overflows (old new : Input) (limit : ℕ) : Type 0 where
  pub bytes : List ℕ
  pub takes : Takes old new bytes
  pub unmarked : HasNoMark bytes
  pub settled : IsSettled new bytes
  pub over : limit < length bytes

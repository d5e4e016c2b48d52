-- What a line reader has left, and what its calls take of it.
use Rattle.std.specs.Prelude.{◌≡◌, ℕ, ◌+◌, ◌<◌, ◌≤◌, ◌⊎◌, Bool, List, [], ◌∷◌, ◌++◌, length, take, Option}
use Rattle.std.specs.List.{position_or_len}
use Rattle.std.specs.Io.KnownBytes.{prepend_known, Consumes, IsAtEnd}
use Rattle.wh_text.specs.Lines.{is_line_feed, IsLine}
use Rattle.wh_lines.specs.Text.{short_line}
use Rattle.wh_lines.specs.declared.lines.Next.{Next}
use Rattle.wh_lines.specs.declared.lines.Next.TheVariants.{Whole, Last, End}

-- how contracts see a line reader
pub record Input : Type 0 where
  -- bytes that were read and not yet taken
  pub waiting : List ℕ
  -- what the reader gives from here on, where it tells
  pub source : Option (List ℕ)
  -- how often the reader was asked
  pub reads : ℕ
  -- after a fault there is nothing more
  pub failed : Bool
  -- a section was read, and the last one was closed by the end of the input
  pub ended : Bool

-- all that is left, where the reader tells its bytes
abbrev pub left : Input → Option (List ℕ)
left input = prepend_known input.waiting input.source

abbrev pub with_waiting : Input → List ℕ → Input
with_waiting input bytes = record { waiting = bytes; source = input.source; reads = input.reads; failed = input.failed; ended = input.ended }

abbrev pub with_failed : Input → Bool → Input
with_failed input failed = record { waiting = input.waiting; source = input.source; reads = input.reads; failed = failed; ended = input.ended }

abbrev pub with_ended : Input → Bool → Input
with_ended input ended = record { waiting = input.waiting; source = input.source; reads = input.reads; failed = input.failed; ended = ended }

-- these bytes were taken from the front of what was left
abbrev pub Takes : Input → Input → List ℕ → Type 0
Takes old new bytes = Consumes (left old) (left new) bytes

-- the reader was asked, and gave no more than the buffer holds
abbrev pub IsAsked : Input → Input → Type 0
IsAsked old new = (old.reads < new.reads) × (new.reads ≤ 100000000) × (length new.waiting ≤ 65536)

-- bytes wait that did so before, or the reader was asked
abbrev pub GoesOn : Input → Input → Type 0
GoesOn old new = ((new ≡ old) × (0 < length old.waiting)) ⊎ IsAsked old new

-- the bytes of a line and, if it is whole, the line feed behind it; at the end there are none
abbrev pub Ends : Next → Input → Input → List ℕ → Type 0
Ends Whole old new raw = Takes old new (raw ++ 10 ∷ [])
Ends Last old new raw = Takes old new raw × (0 < length raw) × IsAtEnd (left new)
Ends End old new raw = Takes old new raw × (raw ≡ []) × IsAtEnd (left new)

-- the next line was taken, and its first 258 bytes are kept, which say what the whole line says
pub record Gathered (next : Next) (old new : Input) (kept : List ℕ) : Type 0 where
  pub raw : List ℕ
  pub plain : IsLine raw
  pub kept_is : kept ≡ take 258 raw
  pub says : short_line kept ≡ short_line raw
  pub ends : Ends next old new raw

-- part of a line was taken
pub record Taken (old new : Input) : Type 0 where
  pub bytes : List ℕ
  pub plain : IsLine bytes
  pub takes : Takes old new bytes

-- the length of the first line with its line feed, and past the end where there is none
abbrev pub part_len : List ℕ → ℕ
part_len bytes = position_or_len is_line_feed bytes + 1

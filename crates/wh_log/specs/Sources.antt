-- Bytes that are read from their front, piece by piece.
use Rattle.std.specs.Prelude.{◌≡◌, ◌+◌, ℕ, Bool, true, List, [], ◌∷◌, ◌++◌, length, drop, Option, IfSome}
use Rattle.wh_text.specs.Lines.{IsLine}
use Rattle.wh_log.specs.Torn.{HasLines}
use Rattle.wh_log.specs.declared.window.Standing.{Standing}
use Rattle.wh_log.specs.declared.window.Standing.TheVariants as standing

-- these bytes come next after the first n, where they are told
abbrev pub IsNext : Option (List ℕ) → (place : ℕ) → List ℕ → Type 0
IsNext held place piece = IfSome held (λ bytes. (more : List ℕ) × (drop place bytes ≡ piece ++ more))

-- none stand there
abbrev pub IsAtEnd : Option (List ℕ) → (place : ℕ) → Type 0
IsAtEnd held place = IfSome held (λ bytes. drop place bytes ≡ [])

-- a piece of what stands there, and some of it where there is any
pub record IsPiece (held : Option (List ℕ)) (place : ℕ) (piece : List ℕ) : Type 0 where
  pub next : IsNext held place piece
  pub none : piece ≡ [] → IsAtEnd held place

-- such a piece was added to a buffer
pub record AddsPiece (held : Option (List ℕ)) (place : ℕ) (old new : List ℕ) : Type 0 where
  pub piece : List ℕ
  pub added : new ≡ old ++ piece
  pub is : IsPiece held place piece

-- ---- a window on them: what was read and not told yet, and how many were read in all

-- the bytes that stand next were added to it, and where it ended, no more stand there
pub record ReadsOn (held : Option (List ℕ)) (place : ℕ) (old : List ℕ) (new_place : ℕ) (new : List ℕ) (ended : Bool) : Type 0 where
  pub piece : List ℕ
  pub added : new ≡ old ++ piece
  pub place_is : new_place ≡ place + length piece
  pub next : IsNext held place piece
  pub at_end : ended ≡ true → IsAtEnd held new_place

-- how many lines stand whole at the front of a text, of two
abbrev pub Shows : List ℕ → Standing → Type 0
Shows text standing.None = IsLine text
Shows text standing.One = (line : List ℕ) × (rest : List ℕ) × IsLine line × IsLine rest × (text ≡ line ++ 10 ∷ rest)
Shows text standing.Two = HasLines text 2

-- two do, or no more come after the first n bytes
abbrev pub IsEnough : Option (List ℕ) → (place : ℕ) → Standing → Type 0
IsEnough held place standing.Two = Unit {0}
IsEnough held place standing.One = IsAtEnd held place
IsEnough held place standing.None = IsAtEnd held place

-- a window was read on until two lines stand whole, or to the end
pub record ReadsHead (held : Option (List ℕ)) (place : ℕ) (old : List ℕ) (new_place : ℕ) (new : List ℕ) (said : Standing) : Type 0 where
  pub ended : Bool
  pub reads : ReadsOn held place old new_place new ended
  pub shows : Shows new said
  pub enough : IsEnough held new_place said

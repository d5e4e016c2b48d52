-- the rule of the book, and the rule of the two copies that readers take.
use Rattle.std.specs.Prelude.{ℕ, ◌≡◌, ◌+◌, ◌==◌, true, List, [], ◌∷◌, ◌++◌, length, MatchBool, Option, Some, None}
use mathlib.Core.Option.{some}
use lib.ListN.{get_elem?}
use Rattle.logbook.specs.Pages.{Cell, Step, View, Book, Named}
use Rattle.wh_board.specs.Pasts.{Past, Known, IsChain}

-- The word counts the pasts behind the first. Each past extends the one before
pub record IsKept (cells : List Cell) (log : List Past) : Type 0 where
  pub count : ℕ
  pub long : length log ≡ count + 1
  pub words : cells ≡ (count, true) ∷ []
  pub chain : IsChain log

abbrev pub word_of : Book → Named
word_of b = record { tracked = true; key = 0; book = b }

-- where the word was the one expected, the past was added to all that had been seen
abbrev pub Adds : Step Past → View Past ℕ → ℕ → View Past ℕ → Type 0
Adds s v found w = MatchBool (found == s.old) (w.0 ≡ v.0 ++ s.ask ∷ []) (Unit {0})

-- nothing is known yet, or a page of this book
abbrev pub MayBeOf : Book → Option Known → Type 0
MayBeOf b None = Unit {0}
MayBeOf b (Some k) = k.book ≡ b

-- a page of this book is known
abbrev pub IsOf : Book → Option Known → Type 0
IsOf b None = ⊥
IsOf b (Some k) = k.book ≡ b

-- all that a thread knows is of the book of the page that readers take
abbrev pub AllOfOneBook : Known → List (Option Known) → Type 0
AllOfOneBook page views = (seat : ℕ) (v : Option Known) → get_elem? views seat ≡ some v → MayBeOf page.book v

-- what was known is of this book, and then the page y is known
abbrev pub Finds : Option Known → Known → Known → Option Known → Type 0
Finds v x y w = MayBeOf x.book v × (w ≡ Some y)

abbrev pub latter : Option Known → Option Known → Option Known
latter v w = w

-- what a screen is shown
use Rattle.std.specs.Prelude.{◌≡◌, ◌≢◌, ◌<◌, ℕ, List, [], ◌∷◌, ◌++◌, All, length, map, Option, Some, IfSome, OnOk}
use Rattle.wh_board.specs.Pasts.{Past, Extends, last_of}
use Rattle.wh_board.specs.Boards.{IsBoardOf}
use Rattle.wh_board.specs.declared.board.Board.{Board}
use Rattle.wh_display.specs.Texts.{board_text}
use Rattle.wh_display.specs.declared.watching.Watched.{Watched}

-- a screen that tells what it has shown shows these texts more
abbrev pub Shows : Option (List (List ℕ)) → Option (List (List ℕ)) → List (List ℕ) → Type 0
Shows had has texts = IfSome had (λ shown. has ≡ Some (shown ++ texts))

-- where the board has not as many entries as were seen before, its text was shown, and else nothing
pub record Renews (seen : Option ℕ) (board : Board) (had has : Option (List (List ℕ))) : Type 0 where
  pub same : seen ≡ Some board.entries → Shows had has []
  pub changed : seen ≢ Some board.entries → Shows had has (board_text board ∷ [])

-- One look: at a board of what is known. Where it has not as many entries as were seen before, its text was shown, and else
-- nothing.
pub record Refreshes (known : Past) (seen : Option ℕ) (entries : ℕ) (had has : Option (List (List ℕ))) : Type 0 where
  pub board : Board
  pub shows_board : IsBoardOf known board
  pub entries_are : entries ≡ board.entries
  pub renews : Renews seen board had has

-- what was seen in one look: a board, and the past that it shows
pub record Sight : Type 0 where
  pub past : Past
  pub board : Board

abbrev pub pasts_of : List Sight → List Past
pasts_of sights = map (λ sight. sight.past) sights

-- the texts of the boards that were seen
abbrev pub texts_of : List Sight → List (List ℕ)
texts_of sights = map (λ sight. board_text sight.board) sights

-- each past extends the one before, and is longer
abbrev pub Grows : Past → List Past → Type 0
Grows past [] = Unit {0}
Grows past (next ∷ pasts) = Extends past next × (length past.history < length next.history) × Grows next pasts

-- Boards that were seen one after another, behind that of a past that was seen before: each of a longer past than the one before,
-- which it extends, and all of beginnings of what is known by now.
pub record InTurn (before known : Past) (sights : List Sight) : Type 0 where
  pub boards : All (λ sight. IsBoardOf sight.past sight.board) sights
  pub grow : Grows before (pasts_of sights)
  pub begins : Extends (last_of before (pasts_of sights)) known

-- A watch, where the board of what was known before had been shown: boards were shown that were seen in turn. Where the last look
-- went well, the board shown last is of all that is known.
pub record Watches (before known : Past) (watched : Watched) (had has : Option (List (List ℕ))) : Type 0 where
  pub sights : List Sight
  pub in_turn : InTurn before known sights
  pub texts : Shows had has (texts_of sights)
  pub entries : watched.shown ≡ length (last_of before (pasts_of sights)).history
  pub last : OnOk watched.last (last_of before (pasts_of sights) ≡ known)

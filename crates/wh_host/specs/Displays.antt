-- What a screen is shown of a run.
use Rattle.std.specs.Prelude.{◌≡◌, ℕ, List, [], ◌∷◌, Option, None, Some, Ok, OnErr, OnOk, Result}
use Rattle.wh_event.specs.declared.entry.Entry.{Entry}
use Rattle.wh_board.specs.Pasts.{Origin, Past, last_of}
use Rattle.wh_board.specs.Boards.{IsBoardOf}
use Rattle.wh_board.specs.declared.board.Board.{Board}
use Rattle.wh_display.specs.Texts.{board_text}
use Rattle.wh_display.specs.Screens.{InTurn, Renews, Shows, pasts_of, texts_of, Sight}
use Rattle.wh_display.specs.declared.screen.ShowFault.{ShowFault}
use Rattle.wh_display.specs.declared.screen.ShowFault.TheVariants as show
use Rattle.wh_edge.specs.declared.trouble.Trouble.{Trouble}
use Rattle.wh_edge.specs.declared.trouble.Trouble.TheVariants as trouble
use Rattle.wh_crew.specs.Troubles.{IsWhyDead}

-- a board of this past was shown, whatever stood there
pub record FirstShown (past : Past) (had has : Option (List (List ℕ))) : Type 0 where
  pub board : Board
  pub is_board : IsBoardOf past board
  pub texts : Shows had has (board_text board ∷ [])

-- The board of all that was done was shown, unless it has as many entries as the one shown last. On a fault nothing was shown.
pub record ShowsLast (whole : Past) (shown : ℕ) (last : Result Unit ShowFault) (had has : Option (List (List ℕ))) : Type 0 where
  pub board : Board
  pub is_board : IsBoardOf whole board
  pub ok : OnOk last (Renews (Some shown) board had has)
  pub err : OnErr last (Shows had has [])

-- What a screen was shown beside a run that went on from an earlier history: the board of that, and then boards that were seen in turn,
-- each of a longer beginning of the history than the one before. Where the last one was shown, it is the board of the whole history.
pub record ShownFrom (origin : Origin) (earlier history : List Entry) (last : Result Unit ShowFault) (had has : Option (List (List ℕ))) : Type 0 where
  pub at_first : Board
  pub at_first_is : IsBoardOf (record { origin = origin; history = earlier }) at_first
  pub sights : List Sight
  pub in_turn : InTurn (record { origin = origin; history = earlier }) (record { origin = origin; history = history }) sights
  pub texts : Shows had has (board_text at_first ∷ texts_of sights)
  pub last_is : OnOk last (last_of (record { origin = origin; history = earlier }) (pasts_of sights) ≡ record { origin = origin; history = history })

-- Where there is a screen, boards were shown on it beside a run that went on from an earlier history. Had is what screens tell before,
-- if there is one, and has what they tell then.
abbrev pub BoardsFrom : Origin → List Entry → List Entry → Result Unit ShowFault → (had has : Option (Option (List (List ℕ)))) → Type 0
BoardsFrom origin earlier history last None has = (last ≡ Ok tt) × (has ≡ None)
BoardsFrom origin earlier history last (Some had) None = ⊥
BoardsFrom origin earlier history last (Some had) (Some has) = ShownFrom origin earlier history last had has

-- what is told of a board that is not shown
abbrev pub trouble_of_show : ShowFault → Trouble
trouble_of_show show.Unshown = trouble.Unshown
trouble_of_show show.NoMemory = trouble.NoMemory

-- why there is no log where boards were to be shown: the first could not be, and no work was begun; or one of these
abbrev pub IsWhyUnshown : Trouble → Type 0
IsWhyUnshown trouble.Unshown = Unit {0}
IsWhyUnshown told = IsWhyDead told

-- why there is no log of a run whose boards were to be shown, or not
abbrev pub IsWhyUnlived : {D : Type 0} → Option D → Trouble → Type 0
IsWhyUnlived None told = IsWhyDead told
IsWhyUnlived (Some display) told = IsWhyUnshown told

-- What a screen is shown of a run that goes on with a history.
use Rattle.std.specs.Prelude.{◌≡◌, ℕ, List, Option, None, Some, Ok, Result}
use Rattle.wh_board.specs.Pasts.{Past, Extends}
use Rattle.wh_display.specs.Screens.{Watches}
use Rattle.wh_display.specs.declared.screen.ShowFault.{ShowFault}
use Rattle.wh_display.specs.declared.watching.Watched.{Watched}
use Rattle.wh_host.specs.Displays.{FirstShown, ShowsLast}

-- Boards were shown that were seen in turn behind the one of this past, and then the board of the whole, where it could be.
pub record WatchedTo (before whole : Past) (last : Result Unit ShowFault) (had has : Option (List (List ℕ))) : Type 0 where
  pub known : Past
  pub begins : Extends known whole
  pub watched : Watched
  pub mid : Option (List (List ℕ))
  pub watches : Watches before known watched had mid
  pub ends : ShowsLast whole watched.shown last mid has

-- so on a screen, if there is one
abbrev pub WatchedOn : Past → Past → Result Unit ShowFault → (had has : Option (Option (List (List ℕ)))) → Type 0
WatchedOn before whole last None has = (last ≡ Ok tt) × (has ≡ None)
WatchedOn before whole last (Some had) None = ⊥
WatchedOn before whole last (Some had) (Some has) = WatchedTo before whole last had has

-- the board of this past was shown on the screen, if there is one
abbrev pub FirstOn : Past → (had has : Option (Option (List (List ℕ)))) → Type 0
FirstOn past None None = Unit {0}
FirstOn past (Some had) (Some has) = FirstShown past had has
FirstOn past None (Some has) = ⊥
FirstOn past (Some had) None = ⊥

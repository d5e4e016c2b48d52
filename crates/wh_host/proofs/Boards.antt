-- Boards of a run that goes on with a history.
use Rattle.std.proofs.Common.{◌≡◌, ℕ, List, Option, None, Some, Result, Ok, Err, IfOk, refl}
use Rattle.std.specs.Prelude.{IfSome}
use Rattle.wh_event.specs.declared.entry.Entry.{Entry}
use Rattle.wh_board.specs.Pasts.{Origin, Past}
use Rattle.wh_display.specs.declared.screen.ShowFault.{ShowFault}
use Rattle.wh_host.specs.Displays.{BoardsFrom}
use Rattle.wh_host.specs.Boards.{FirstOn, WatchedOn}
use Rattle.wh_host.proofs.Screens.{shown_of_run}

-- the first board, and those behind it
pub boards_from : (origin : Origin) (earlier history : List Entry) (before whole : Past) (last : Result Unit ShowFault) (had mid has : Option (Option (List (List ℕ))))
    → before ≡ record { origin = origin; history = earlier } → whole ≡ record { origin = origin; history = history } → FirstOn before had mid → WatchedOn before whole last mid has → BoardsFrom origin earlier history last had has
boards_from origin earlier history before whole last None None has begun done first watched = watched
boards_from origin earlier history before whole last None (Some mid) has begun done first watched = absurd first
boards_from origin earlier history before whole last (Some had) None has begun done first watched = absurd first
boards_from origin earlier history before whole last (Some had) (Some mid) None begun done first watched = absurd watched
boards_from origin earlier history before whole last (Some had) (Some mid) (Some has) begun done first watched =
    shown_of_run origin earlier history before whole before watched.known watched.watched had mid watched.mid has last begun done refl first watched.watches watched.begins watched.ends

-- ---- facts of a value that may not be there

-- what is told of a value by four facts of it, if there is one
pub if_four : {A E : Type 0} {P Q S T R : A → Type 0} (r : Result A E) → IfOk r P → IfOk r Q → IfOk r S → IfOk r T → ((a : A) → P a → Q a → S a → T a → R a) → IfOk r R
if_four (Ok a) p q s t f = f a p q s t
if_four (Err e) p q s t f = tt

-- by one
pub if_ok : {A E : Type 0} {P Q : A → Type 0} (r : Result A E) → IfOk r P → ((a : A) → P a → Q a) → IfOk r Q
if_ok (Ok a) p f = f a p
if_ok (Err e) p f = tt

pub if_some : {A : Type 0} {P Q : A → Type 0} (o : Option A) → IfSome o P → ((a : A) → P a → Q a) → IfSome o Q
if_some None p f = tt
if_some (Some a) p f = f a p

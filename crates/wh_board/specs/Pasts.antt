-- what was done in a warehouse by some time, and who knows of it
use Rattle.std.specs.Prelude.{◌≡◌, List, [], ◌∷◌, ◌++◌, false}
use mathlib.Core.List.{IsPrefix}
use Rattle.logbook.specs.Pages.{Book}
use Rattle.wh_points.specs.Points.{Site}
use Rattle.wh_core.specs.States.{State, opened}
use Rattle.wh_event.specs.declared.entry.Entry.{Entry}
use Rattle.wh_book.specs.Drafts.{Seen}

-- where a history begins: the site and the opening state
pub record Origin : Type 0 where
  pub site : Site
  pub opening : State

-- where a warehouse began, and what was done since
pub record Past : Type 0 where
  pub origin : Origin
  pub history : List Entry

abbrev pub origin_of : Seen → Origin
origin_of book = record { site = book.site; opening = book.opening }

abbrev pub past_of : Seen → Past
past_of book = record { origin = origin_of book; history = book.history }

-- the later past began as the earlier one, and its history begins with that one's history
abbrev pub Extends : Past → Past → Type 0
Extends earlier later = (later.origin ≡ earlier.origin) × IsPrefix earlier.history later.history

-- the past with one more entry
abbrev pub grown : Past → Entry → Past
grown past entry = record { origin = past.origin; history = past.history ++ entry ∷ [] }

-- each past extends the one before
abbrev pub Chains : Past → List Past → Type 0
Chains p [] = Unit {0}
Chains p (q ∷ qs) = Extends p q × Chains q qs

-- there is a past, and each extends the one before
abbrev pub IsChain : List Past → Type 0
IsChain [] = ⊥
IsChain (p ∷ ps) = Chains p ps

-- the site with no cell
abbrev pub nowhere : Site
nowhere = record {
  grid = record { width = 0; height = 0; walkable = [] };
  layout = record { points = []; agents = []; nofollow = false };
  homes = false;
}

abbrev pub last_of : Past → List Past → Past
last_of p [] = p
last_of p (q ∷ qs) = last_of q qs

-- the past that was added last; where there is none, a meaningless one
abbrev pub latest : List Past → Past
latest [] = record { origin = record { site = nowhere; opening = opened nowhere.layout 0 [] }; history = [] }
latest (p ∷ ps) = last_of p ps

-- a past that somebody knows, and the book in which it stands
pub record Known : Type 0 where
  pub book : Book
  pub past : Past

-- what a publisher stands for: the longest past in its book, and the one that viewers see
pub record Stand : Type 0 where
  pub book : Book
  pub added : Past
  pub shown : Past

-- what callers see of a warehouse, and what it keeps
use Rattle.std.specs.Prelude.{◌≡◌, ℕ, List, Bool, Option, length}
use Rattle.wh_grid.specs.Grids.{Floor}
use Rattle.wh_field.specs.Fields.{Seeking}
use Rattle.wh_book.specs.declared.draft.Draft.{Draft}
use Rattle.wh_book.specs.Drafts.{Seen}
use Rattle.wh_token.specs.Fleet.{IsTied}

-- what callers see of a warehouse: the book, and the agents' planners in the agents' order
pub record House (X : Type 0) : Type 0 where
  pub book : Seen
  pub planners : List X

-- What a warehouse keeps: each agent has a planner, tied to the map and to the state's slots. To look for tasks there is a
-- field over the grid, and the fields that it lends to the planners are over the grid too.
pub record IsFurnished {X : Type 0} (fits : X → Floor → Bool) (count : X → ℕ) (book : Seen) (planners : List X) (near : Seeking) (stored : Floor) : Type 0 where
  pub seats : length planners ≡ length book.state.paths
  pub tied : IsTied fits count book.site.grid planners book.state.slots
  pub over : near.grid ≡ book.site.grid
  pub lent : stored ≡ book.site.grid

-- a warehouse stands on the same site, and began in the same state
pub record StaysAt (old new : Seen) : Type 0 where
  pub site : new.site ≡ old.site
  pub opening : new.opening ≡ old.opening

-- what was prepared: the draft of the entry, and the planner that was handed in
pub record Prepared (X : Type 0) : Type 0 where
  pub draft : Draft
  pub spare : Option X

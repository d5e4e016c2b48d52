-- the stops of open tasks, listed by cell
use Rattle.std.specs.Prelude.{◌≡◌, ◌≢◌, ℕ, ◌+◌, ◌*◌, ◌<◌, ◌≤◌, ◌⊎◌, List, Some, cond, nat_lt, ◌&&◌, length, slice_get, slice_index_or}
use Prim.Native.Nat.{suc}
use Rattle.wh_grid.specs.declared.cell.Cell.{Cell}
use Rattle.wh_tasks.specs.declared.cell_lists.Stop.{Stop}
use Rattle.wh_tasks.specs.declared.cell_lists.Linked.{Linked}

-- what callers see of the lists: the stops as they came, each of its task or taken out, and for how many more there is room
pub record Listed : Type 0 where
  pub stops : List Stop
  pub room : ℕ

-- a stop of a task as it comes
abbrev pub listed : ℕ → Cell → Stop
listed task cell = record { task = suc task; cell = cell }

-- a stop as it is once it is taken out
abbrev pub taken_out : Stop → Stop
taken_out stop = record stop { task = 0 }

-- the stop of this number is one of the task at the cell, and was not taken out
abbrev pub StandsAt : List Stop → ℕ → ℕ → Cell → Type 0
StandsAt stops k task cell = slice_get stops k ≡ Some (listed task cell)

-- the stop of this number was not taken out
abbrev pub Stands : List Stop → ℕ → Type 0
Stands stops k = (task : ℕ) × (cell : Cell) × StandsAt stops k task cell

-- none with a number below the bound stands at the cell
abbrev pub NoneBelow : List Stop → Cell → ℕ → Type 0
NoneBelow stops cell bound = (k task : ℕ) → k < bound → ¬ StandsAt stops k task cell

-- of those with a number below the bound that stand at the cell it has the greatest number
pub record IsLastBelow (stops : List Stop) (cell : Cell) (bound k : ℕ) : Type 0 where
  pub below : k < bound
  pub task : ℕ
  pub stands : StandsAt stops k task cell
  pub last : (j other : ℕ) → k < j → j < bound → ¬ StandsAt stops j other cell

-- from old to new the stops in a range of numbers were taken out, and no other
pub record AreTakenOut (first count : ℕ) (old new : List Stop) : Type 0 where
  pub each : length new ≡ length old
  pub out : (k task : ℕ) (cell : Cell) → first ≤ k → k < first + count → ¬ StandsAt new k task cell
  pub others : (k : ℕ) → (k < first) ⊎ (first + count ≤ k) → slice_get new k ≡ slice_get old k

-- the place of a cell's list: cells outside the sides share the last
abbrev pub list_of : ℕ → ℕ → Cell → ℕ
list_of width height cell = cond (nat_lt cell.x width && nat_lt cell.y height) (cell.y * width + cell.x) (width * height)

-- the stop of a number with those beside it; past the end one that is taken out
abbrev pub linked_at : List Linked → ℕ → Linked
linked_at stops k = slice_index_or stops k (record { stop = record { task = 0; cell = record { x = 0; y = 0 } }; next = 0; before = 0 })

-- the stop of this number was not taken out, and belongs into the list at this place
pub record IsIn (width height : ℕ) (stops : List Linked) (place k : ℕ) : Type 0 where
  pub stands : 0 < (linked_at stops k).stop.task
  pub place_is : list_of width height (linked_at stops k).stop.cell ≡ place

-- of the numbers below the bound that are in, the greatest, told plus 1; 0 where there is none
pub record IsLatest (among : ℕ → Type 0) (bound link : ℕ) : Type 0 where
  pub within : link ≤ bound
  pub there : (k : ℕ) → link ≡ k + 1 → among k
  pub last : (k : ℕ) → link ≤ k → k < bound → ¬ among k

-- of the numbers above another that are in, the least, told plus 1; 0 where there is none
pub record IsEarliest (among : ℕ → Type 0) (from link : ℕ) : Type 0 where
  pub above : (k : ℕ) → link ≡ k + 1 → from < k
  pub there : (k : ℕ) → link ≡ k + 1 → among k
  pub first : (k : ℕ) → from < k → among k → (0 < link) × (link ≤ k + 1)

-- for each stop that stands its next is the latest of its list that came before it
abbrev pub AreNexts : ℕ → ℕ → List Linked → Type 0
AreNexts width height stops = (place k : ℕ) → IsIn width height stops place k → IsLatest (IsIn width height stops place) k (linked_at stops k).next

-- the stop that a link names, if it names one, stands in the list of the cell
abbrev pub Leads : ℕ → ℕ → List Linked → ℕ → Cell → Type 0
Leads width height stops link cell = (k : ℕ) → link ≡ k + 1 → IsIn width height stops (list_of width height cell) k

-- For each list its head is the latest that belongs there, and for each stop in it the next is the latest before it and the
-- one before is the earliest after it. A number is told plus 1, and 0 is told for none.
pub record AreLinked (width height : ℕ) (heads : List ℕ) (stops : List Linked) : Type 0 where
  pub places : length heads ≡ width * height + 1
  pub tops : (place : ℕ) → IsLatest (IsIn width height stops place) (length stops) (slice_index_or heads place 0)
  pub nexts : AreNexts width height stops
  pub befores : (place k : ℕ) → IsIn width height stops place k → IsEarliest (IsIn width height stops place) k (linked_at stops k).before

-- new is old but for one stop: that of the link, if it names one, has another before it
pub record IsBeforeSet (old new : List Linked) (link before : ℕ) : Type 0 where
  pub size : length new ≡ length old
  pub here : (k : ℕ) → link ≡ k + 1 → linked_at new k ≡ record (linked_at old k) { before = before }
  pub others : (k : ℕ) → link ≢ k + 1 → linked_at new k ≡ linked_at old k

-- new is old but for one stop: that of the link, if it names one, has another next
pub record IsNextSet (old new : List Linked) (link next : ℕ) : Type 0 where
  pub size : length new ≡ length old
  pub here : (k : ℕ) → link ≡ k + 1 → linked_at new k ≡ record (linked_at old k) { next = next }
  pub others : (k : ℕ) → link ≢ k + 1 → linked_at new k ≡ linked_at old k

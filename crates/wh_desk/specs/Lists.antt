-- histories, and what one caller has of them
use Rattle.std.specs.Prelude.{◌≡◌, ℕ, ◌+◌, ◌==◌, Bool, ◌&&◌, nat_le, List, [], ◌∷◌, length, cond, Some, slice_get, All}
use Rattle.wh_event.specs.declared.entry.Entry.{Entry}
use Rattle.wh_core.specs.States.{State}
use Rattle.wh_core.specs.Steps.{Run}
use Rattle.wh_board.specs.Pasts.{Origin}

-- P holds of each element, with its place
abbrev pub AllAt : {A : Type 0} → (ℕ → A → Type 0) → List A → Type 0
AllAt P xs = (k : ℕ) → (x : _) → slice_get xs k ≡ Some x → P k x

-- the caller's entries with their positions, where the list begins at position k
abbrev pub entries_from : ℕ → List Entry → ℕ → List (ℕ × Entry)
entries_from k [] caller = []
entries_from k (entry ∷ entries) caller =
    cond (entry.caller == caller) ((k, entry) ∷ entries_from (k + 1) entries caller) (entries_from (k + 1) entries caller)

-- the caller's entries in a history, with their positions, in order
abbrev pub entries_of : List Entry → ℕ → List (ℕ × Entry)
entries_of history caller = entries_from 0 history caller

abbrev pub last_from : ℕ → List (ℕ × Entry) → ℕ
last_from d [] = d
last_from d (x ∷ xs) = last_from x.0 xs

-- the last position, or 0 where there is none
abbrev pub last_position : List (ℕ × Entry) → ℕ
last_position xs = last_from 0 xs

-- each stands in the history, at its position
abbrev pub StandIn : List Entry → List (ℕ × Entry) → Type 0
StandIn history xs = All (λ x. slice_get history x.0 ≡ Some x.1) xs

-- the history is a run from there, to some state
abbrev pub IsRunFrom : Origin → List Entry → Type 0
IsRunFrom origin history = (state : State) × Run origin.site origin.opening history state

-- what contracts see of a pass: its caller, the entries that it received, with their positions, and the longest history
-- of which it knows
pub record Received : Type 0 where
  pub caller : ℕ
  pub list : List (ℕ × Entry)
  pub known : List Entry

-- the history has as many entries of the caller as the pass received, and the same last one; the pass knows of no longer one
abbrev pub is_current : List Entry → Received → Bool
is_current history pass =
    (length (entries_of history pass.caller) == length pass.list)
    && ((last_position (entries_of history pass.caller) == last_position pass.list)
    && nat_le (length pass.known) (length history))

-- what contracts see of a journal; shown is the history that was published last, and the planners are the agents', in order
pub record Ledger (X : Type 0) : Type 0 where
  pub history : List Entry
  pub state : State
  pub capacity : ℕ
  pub shown : List Entry
  pub planners : List X

-- nothing that was done is told otherwise
pub record TellsTheSame {X : Type 0} (old new : Ledger X) : Type 0 where
  pub history : new.history ≡ old.history
  pub state : new.state ≡ old.state
  pub capacity : new.capacity ≡ old.capacity
  pub shown : new.shown ≡ old.shown

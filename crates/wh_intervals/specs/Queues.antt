-- nodes that wait, each with a bound
use Rattle.std.specs.Prelude.{◌≡◌, ℕ, ◌-◌, ◌/◌, ◌%◌, ◌^◌, ◌≤◌, ◌⊎◌, List, All, Contains}
use Rattle.wh_intervals.specs.declared.entry.Entry.{Entry}

abbrev pub bound_of : Entry → ℕ
bound_of e = e.rank.0 / 2 ^ 32

abbrev pub number_of : Entry → ℕ
number_of e = 2 ^ 32 - 1 - e.turn.0 % 2 ^ 32

-- none of these has a lower bound
abbrev pub IsBefore : Entry → List Entry → Type 0
IsBefore x xs = All (λ y. bound_of x ≤ bound_of y) xs

-- a node waits with a bound
pub record Waiting (queue : List Entry) (bound node : ℕ) : Type 0 where
  pub entry : Entry
  pub among : Contains queue entry
  pub bound_is : bound_of entry ≡ bound
  pub node_is : number_of entry ≡ node

-- one more node waits
pub record Pushes (old new : List Entry) (bound node : ℕ) : Type 0 where
  pub added : Waiting new bound node
  pub kept : (b i : ℕ) → Waiting old b i → Waiting new b i
  pub only : (b i : ℕ) → Waiting new b i → Waiting old b i ⊎ ((b ≡ bound) × (i ≡ node))

-- one that waited is taken, and none waited with a lower bound
pub record Pops (old new : List Entry) (bound node : ℕ) : Type 0 where
  pub was : Waiting old bound node
  pub kept : (b i : ℕ) → Waiting old b i → ((b ≡ bound) × (i ≡ node)) ⊎ Waiting new b i
  pub only : (b i : ℕ) → Waiting new b i → Waiting old b i
  pub least : (b i : ℕ) → Waiting old b i → bound ≤ b

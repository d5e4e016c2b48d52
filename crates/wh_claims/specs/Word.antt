-- The rule of the bank's word, and what each step on it tells.
use Rattle.std.specs.Prelude.{◌≡◌, ◌≢◌, ℕ, ◌+◌, ◌-◌, ◌<◌, ◌≤◌, List, [], ◌∷◌, ◌++◌, length, slice_index}
use Rattle.atomic_table.specs.Table.{State, Me, Step}
use Rattle.wh_claims.specs.declared.rule.Holding.{Holding}

-- the view of a seat: the bank's total, its slots, and the numbers that its steps found
abbrev pub holding : ℕ → ℕ → List ℕ → Holding
holding total slots found = record { total = total; slots = slots; found = found }

-- the view of a seat that has no slots and has made no step
abbrev pub idle : ℕ → Holding
idle total = holding total 0 []

-- the slots of all seats, added up
abbrev pub claimed : List Holding → ℕ
claimed [] = 0
claimed (v ∷ vs) = v.slots + claimed vs

-- Conservation: the one word, which counts the free slots, and the slots of all seats add up to the total. The table
-- keeps this at every step, so no slot is ever lost, made or given out twice.
abbrev pub IsConserved : ℕ → State (Unit {0}) Holding → Type 0
IsConserved total s = (length s.words ≡ 1) × (slice_index s.words 0 + claimed s.views ≡ total) × (total < 4294967296)

abbrev Stepper : Type 0
Stepper = Me (Unit {0}) Holding

-- a step that found this number leaves the seat with these slots
abbrev Leaves : Stepper → ℕ → ℕ → Stepper → Type 0
Leaves before found slots after = after ≡ (holding before.0.total slots (before.0.found ++ found ∷ []), before.1)

-- A look changes nothing. What is free and what the seat has is no more than the total.
abbrev pub Looked : Step (Unit {0}) → Stepper → ℕ → Stepper → Type 0
Looked step before found after = Leaves before found before.0.slots after × (found < 4294967296) × (found + before.0.slots ≤ before.0.total)

-- An exchange: where the word was `first`, it becomes `second`, and the difference goes to the seat. Otherwise nothing
-- changes.
abbrev pub Taken : Step (Unit {0}) → Stepper → ℕ → Stepper → Type 0
Taken step before found after = (found ≡ step.first → Leaves before found (before.0.slots + (step.first - step.second)) after) × (found ≢ step.first → Leaves before found before.0.slots after) × (found < 4294967296)

-- An addition: all the seat's slots go to the word, and the seat has none.
abbrev pub GivenBack : Step (Unit {0}) → Stepper → ℕ → Stepper → Type 0
GivenBack step before found after = Leaves before found 0 after

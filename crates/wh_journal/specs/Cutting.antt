-- what a cut leaves of the bytes that a journal tells, and what a byte that is put makes of them
use Rattle.std.specs.Prelude.{◌≡◌, ◌⊎◌, ℕ, List, take, slice_set, Option}
use Rattle.std.specs.Option.{option_map}

-- the first bytes of what is told, where it is
abbrev pub front_of : ℕ → Option (List ℕ) → Option (List ℕ)
front_of bytes told = option_map (λ held. take bytes held) told

-- a cut that failed: all is as before, or cut
abbrev pub MayCut : ℕ → Option (List ℕ) → Option (List ℕ) → Type 0
MayCut bytes old new = (new ≡ old) ⊎ (new ≡ front_of bytes old)

-- what is told, with this byte at a place
abbrev pub with_byte : (place byte : ℕ) → Option (List ℕ) → Option (List ℕ)
with_byte place byte told = option_map (λ held. slice_set held place byte) told

-- a byte that was not put for certain: all is as before, or it stands there
abbrev pub MayPut : (place byte : ℕ) → Option (List ℕ) → Option (List ℕ) → Type 0
MayPut place byte old new = (new ≡ old) ⊎ (new ≡ with_byte place byte old)

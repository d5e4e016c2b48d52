-- What a writer takes.
use Rattle.std.specs.Prelude.{ℕ, List, take, Option}
use Rattle.std.specs.Io.KnownBytes.{Appends}

-- a front of the bytes was written
pub record WritesFront (had has : Option (List ℕ)) (bytes : List ℕ) : Type 0 where
  pub count : ℕ
  pub appends : Appends had has (take count bytes)

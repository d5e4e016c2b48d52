-- A line that is the word `stop`.
use Rattle.std.proofs.Common.{◌≡◌, ℕ, List, [], ◌∷◌, refl, false, codes}
use Rattle.std.specs.Str.{bytes_eq}
use Rattle.wh_serve.specs.Sayings.{are_stop}

-- another word in front
pub not_stop : (word : List ℕ) (rest : List (List ℕ)) → bytes_eq word (codes "stop") ≡ false → are_stop (word ∷ rest) ≡ false
not_stop word [] other = other
not_stop word (next ∷ rest) other = refl

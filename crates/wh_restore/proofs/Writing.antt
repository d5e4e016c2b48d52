-- How long reasons are.
use Rattle.std.proofs.Common.{◌≡◌, ℕ, ◌+◌, ◌≤◌, ◌<◌, ◌^◌, List, [], ◌∷◌, ◌++◌, decimal, length, ap, arith, subst, sym, ◌∙◌}
use Rattle.std.proofs.lemmas.Fmt.{length-decimal-le}
use Rattle.std.proofs.lemmas.List.{length-append}

-- a number of 32 bits has at most 10 digits, one of 16 bits 5
digits : (n : ℕ) → n < 4294967296 → length (decimal n) ≤ 10
digits n few = length-decimal-le 10 n (omega (arith)) (omega (arith, few)) (omega (arith, few))

few_digits : (n : ℕ) → n < 65536 → length (decimal n) ≤ 5
few_digits n few = length-decimal-le 5 n (omega (arith)) (omega (arith, few)) (omega (arith, few))

-- a text with a number
pub number_short : (line none text : List ℕ) (n : ℕ) → none ≡ [] → line ≡ none ++ text ++ decimal n → n < 4294967296 → length text ≤ 12 → length line ≤ 22
number_short line none text n empty is few short =
    omega (arith, ap length empty, ap length is, length-append (none ++ text) (decimal n), length-append none text, digits n few, short)

-- a text with a cell
pub cell_short : (line half none text : List ℕ) (x y : ℕ) → none ≡ [] → half ≡ none ++ text ++ decimal x → line ≡ half ++ 44 ∷ [] ++ decimal y → x < 65536 → y < 65536 → length text ≤ 11 → length line ≤ 22
cell_short line half none text x y empty begun is few_x few_y short =
    omega (arith, ap length empty, ap length begun, length-append (none ++ text) (decimal x), length-append none text, few_digits x few_x, ap length is, length-append (half ++ 44 ∷ []) (decimal y), length-append half (44 ∷ []), few_digits y few_y, short)

-- how long a text is with a number behind
use Rattle.std.proofs.Common.{◌≡◌, ℕ, ◌<◌, ◌≤◌, ◌+◌, ◌^◌, ◌∙◌, List, ◌++◌, length, decimal, ap, arith, lit≤, length-append}
use Rattle.std.proofs.lemmas.Fmt.{length-decimal-le}

pub five : (n : ℕ) → n < 2 ^ 16 → length (decimal n) ≤ 5
five n h = let limit : 2 ^ 16 ≤ 10 ^ 5 = lit≤ tt in length-decimal-le 5 n (omega arith) (omega arith) (omega arith)

pub behind : (line text number new : List ℕ) (k : ℕ) → new ≡ line ++ text ++ number → length number ≤ k → length new ≤ length line + length text + k
behind line text number new k is few =
    let all : length new ≡ length (line ++ text) + length number = ap (λ (bs : List ℕ). length bs) is ∙ length-append (line ++ text) number in
    let front = length-append line text in
    omega arith

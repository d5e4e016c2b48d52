-- How many digits a number has.
use Rattle.std.proofs.Common.{◌≡◌, ℕ, ◌<◌, ◌≤◌, ◌+◌, ◌^◌, List, ◌++◌, length, decimal, arith, lit≤, length-append}
use Rattle.std.proofs.lemmas.Fmt.{length-decimal-le}

pub twenty : (n : ℕ) → n < 2 ^ 64 → length (decimal n) ≤ 20
twenty n h = let limit : 2 ^ 64 ≤ 10 ^ 20 = lit≤ tt in length-decimal-le 20 n (omega arith) (omega arith) h

pub ten : (n : ℕ) → n < 2 ^ 32 → length (decimal n) ≤ 10
ten n h = let limit : 2 ^ 32 ≤ 10 ^ 10 = lit≤ tt in length-decimal-le 10 n (omega arith) (omega arith) (omega arith)

-- how long a text is that was written behind another
pub longer : (line text new : List ℕ) (k : ℕ) → new ≡ line ++ text → length text ≤ k → length new ≤ length line + k
longer line text new k e h = let count : length (line ++ text) ≡ length line + length text = length-append line text in rw e (omega (arith, count))

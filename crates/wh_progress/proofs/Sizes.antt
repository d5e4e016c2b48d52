-- numbers: a pass for each of what weighs, and what agents still move
use Rattle.std.proofs.Common.{◌≡◌, ℕ, ◌+◌, ◌*◌, ◌<◌, ◌≤◌, arith}
use Rattle.std.proofs.lemmas.Nat.{mul-le}

-- of two weights the smaller gives no more
pub less-weight : (w x y h k : ℕ) → x ≤ y → h ≤ k → w * x + h ≤ w * y + k
less-weight w x y h k less few = (let m = mul-le w x w y (omega arith) less in omega arith)

one-more : (w x : ℕ) → w * (x + 1) ≡ w * x + w
one-more w x = omega arith

-- one less of what weighs is worth more than so many steps more
pub falls : (most x y h k : ℕ) → x + 1 ≤ y → h ≤ k + most → (most + 1) * x + h < (most + 1) * y + k
falls most x y h k less few =
    let w = most + 1 in
    let m = mul-le w (x + 1) w y (omega arith) less in
    let e = one-more w x in
    omega arith

three-more : (w x : ℕ) → w * (x + 3) ≡ w * x + 3 * w
three-more w x = omega arith

-- three more of what weighs
pub rises : (w x y h k : ℕ) → x ≤ y + 3 → h ≤ k → w * x + h ≤ w * y + k + 3 * w
rises w x y h k more few =
    let m = mul-le w x w (y + 3) (omega arith) more in
    let e = three-more w y in
    omega arith

pub one-credit : (w n : ℕ) → 3 * w * (n + 1) ≡ 3 * w * n + 3 * w
one-credit w n = omega arith

pub credits : (w n m : ℕ) → 3 * w * (n + m) ≡ 3 * w * n + 3 * w * m
credits w n m = omega arith

-- nothing is left: no weight, and nothing that agents still move
pub some-left : (w x y h : ℕ) → 1 ≤ w → w * (x + 2 * y) + h ≡ 0 → (y ≡ 0) × (h ≡ 0)
some-left w x y h some none =
    let m = mul-le 1 (x + 2 * y) w (x + 2 * y) some (omega arith) in
    (omega arith, omega arith)

-- as many agents in the way, and so many steps for each agent, beyond some that there were
pub twice-span : (most x y agents h first : ℕ) → x ≤ agents → h ≤ agents * most + first → (most + 1) * (x + 2 * y) + h ≤ 2 * (most + 1) * (agents + y) + first
twice-span most x y agents h first few far =
    let w = most + 1 in
    let e = mul-le w (x + 2 * y) w (agents + 2 * y) (omega arith) (omega arith) in
    let f = mul-le agents most agents w (omega arith) (omega arith) in
    let g : w * (agents + 2 * y) + agents * w ≡ 2 * w * (agents + y) = omega arith in
    omega arith

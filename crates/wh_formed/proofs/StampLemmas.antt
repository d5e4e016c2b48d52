-- lists of rounds as lists of marks
use Rattle.std.proofs.Common.{◌≡◌, ℕ, ◌+◌, ◌-◌, ◌≤◌, ◌∙◌, List, [], ◌++◌, take, replicate, zero, suc, set, map, eqb, true, false, refl, ap, All, arith}
use Rattle.std.proofs.lemmas.Bool.{ne_eqb, eq-eqb}
use Rattle.std.proofs.lemmas.List.{map-set}
use Rattle.std.proofs.lemmas.List.Elements.{All-map, All-replicate, All-same, All-weaker}

-- where no number is above the last round, none is that of the next round
pub none_in_next : (rounds : List ℕ) (current : ℕ) → All (λ n. n ≤ current) rounds → All (λ b. b ≡ false) (map (λ n. eqb n (current + 1)) rounds)
none_in_next rounds current h =
    All-map (λ b. b ≡ false) (λ n. eqb n (current + 1)) rounds
    (All-weaker (λ n. n ≤ current) (λ n. eqb n (current + 1) ≡ false) (λ n k. ne_eqb n (current + 1) (omega arith)) rounds h)

-- the current round, written at a place, is a mark there
pub mark_is_set : (rounds : List ℕ) (current i : ℕ) → map (λ n. eqb n current) (set rounds i current) ≡ set (map (λ n. eqb n current) rounds) i true
mark_is_set rounds current i =
    map-set (λ n. eqb n current) rounds i current ∙ ap (set (map (λ n. eqb n current) rounds) i) (eq-eqb current current refl)

-- a list of zeros that was made from an empty one
pub zeros : (old numbers : List ℕ) (n k : ℕ) → old ≡ [] → k ≡ 0 → numbers ≡ take n old ++ replicate (n - k) 0 → All (λ i. i ≡ 0) numbers
zeros old numbers n k e z f =
    let g : numbers ≡ replicate (n - k) 0 = f ∙ (ap (λ xs. take n xs ++ replicate {A = ℕ} (n - k) 0) e ∙ front n (replicate (n - k) 0)) in
    All-same (λ i. i ≡ 0) numbers (replicate (n - k) 0) g (All-replicate (λ i. i ≡ 0) (n - k) 0 refl)
  where
    front : (n : ℕ) (xs : List ℕ) → take n [] ++ xs ≡ xs
    front zero xs = refl
    front (suc n) xs = refl

-- The callers' entries are all the entries.
use Rattle.std.proofs.Common.{◌≡◌, ◌≢◌, ℕ, zero, suc, ◌+◌, ◌<◌, ◌≤◌, ◌==◌, Bool, true, false, List, [], ◌∷◌, length, cond, refl, ap, ◌∙◌, arith, zero-add}
use Rattle.std.specs.List.{All, sum_by}
use Rattle.std.proofs.lemmas.List.Elements.{All-head, All-tail}
use Rattle.std.proofs.lemmas.List.Sums.{sum_by-cons}
use Rattle.std.proofs.lemmas.Bool.Decides.{nat_tests}
use Rattle.wh_event.specs.declared.entry.Entry.{Entry}
use Rattle.wh_desk.specs.Lists.{AllAt, entries_from, entries_of, Received}

-- how many entries are of caller c
abbrev pub tally : List Entry → ℕ → ℕ
tally [] c = 0
tally (e ∷ es) c = cond (e.caller == c) 1 0 + tally es c

-- how many are of the n callers from c on
abbrev pub tallies : List Entry → ℕ → ℕ → ℕ
tallies h c zero = 0
tallies h c (suc n) = tally h c + tallies h (c + 1) n

-- whether the entry's caller is one of them: 1 or 0
abbrev pub hits : Entry → ℕ → ℕ → ℕ
hits e c zero = 0
hits e c (suc n) = cond (e.caller == c) 1 0 + hits e (c + 1) n

pub tally_is : (k : ℕ) (h : List Entry) (c : ℕ) → length (entries_from k h c) ≡ tally h c
tally_is k [] c = refl
tally_is k (e ∷ es) c =
    let rest = tally_is (k + 1) es c in
    elim (e.caller == c) as (λ b. length (cond b ((k, e) ∷ entries_from (k + 1) es c) (entries_from (k + 1) es c)) ≡ cond b 1 0 + tally es c) [
      | true ↦ omega (arith, rest)
      | false ↦ omega (arith, rest)
    ]

pub tallies_nil : (c n : ℕ) → tallies [] c n ≡ 0
tallies_nil c zero = refl
tallies_nil c (suc n) = omega (arith, tallies_nil (c + 1) n)

pub tallies_cons : (e : Entry) (es : List Entry) (c n : ℕ) → tallies (e ∷ es) c n ≡ hits e c n + tallies es c n
tallies_cons e es c zero = refl
tallies_cons e es c (suc n) = omega (arith, tallies_cons e es (c + 1) n)

pub hits_none : (e : Entry) (c n : ℕ) → e.caller < c → hits e c n ≡ 0
hits_none e c zero h = refl
hits_none e c (suc n) h =
    let test : (e.caller == c) ≡ false = grind (arith, nat_tests) in
    rw test (zero-add (hits e (c + 1) n) ∙ hits_none e (c + 1) n (omega arith))

hit_step : (e : Entry) (c n : ℕ) (b : Bool) → (e.caller == c) ≡ b → c ≤ e.caller → e.caller < c + suc n → (c + 1 ≤ e.caller → e.caller < c + 1 + n → hits e (c + 1) n ≡ 1) → cond b 1 0 + hits e (c + 1) n ≡ 1
hit_step e c n true is low high later =
    let same : e.caller ≡ c = grind (arith, nat_tests) in
    omega (arith, hits_none e (c + 1) n (omega arith))
hit_step e c n false is low high later =
    let other : e.caller ≢ c = grind (arith, nat_tests) in
    zero-add (hits e (c + 1) n) ∙ later (omega arith) (omega arith)

pub hits_one : (e : Entry) (c n : ℕ) → c ≤ e.caller → e.caller < c + n → hits e c n ≡ 1
hits_one e c zero low high = absurd (omega arith)
hits_one e c (suc n) low high = hit_step e c n (e.caller == c) refl low high (λ le lt. hits_one e (c + 1) n le lt)

pub tallies_whole : (h : List Entry) (n : ℕ) → All (λ e. e.caller < n) h → tallies h 0 n ≡ length h
tallies_whole [] n all = tallies_nil 0 n
tallies_whole (e ∷ es) n all =
    let one = hits_one e 0 n (omega arith) (omega (arith, All-head (λ (x : Entry). x.caller < n) e es all)) in
    omega (arith, tallies_cons e es 0 n, one, tallies_whole es n (All-tail (λ (x : Entry). x.caller < n) e es all))

pub sums : (h : List Entry) (c : ℕ) (ps : List Received) → AllAt (λ k p. p.caller ≡ k + c) ps → All (λ p. p.list ≡ entries_of h p.caller) ps → sum_by (λ (p : Received). length p.list) ps ≡ tallies h c (length ps)
sums h c [] order lists = refl
sums h c (p ∷ ps) order lists =
    let F : Received → ℕ = λ p. length p.list in
    let caller : p.caller ≡ c = omega (arith, order 0 p refl) in
    let first : length p.list ≡ tally h c = ap length (All-head (λ (q : Received). q.list ≡ entries_of h q.caller) p ps lists) ∙ ap (λ k. length (entries_of h k)) caller ∙ tally_is 0 h c in
    let rest : sum_by F ps ≡ tallies h (c + 1) (length ps) = sums h (c + 1) ps (λ k x at. omega (arith, order (suc k) x at)) (All-tail (λ (q : Received). q.list ≡ entries_of h q.caller) p ps lists) in
    sum_by-cons F p ps ∙ omega (arith, first, rest)

-- the passes' lists have as many receipts as the history has entries
pub lengths_add : (h : List Entry) (n : ℕ) (ps : List Received) → length ps ≡ n → AllAt (λ k p. p.caller ≡ k) ps → All (λ p. p.list ≡ entries_of h p.caller) ps → All (λ e. e.caller < n) h → sum_by (λ (p : Received). length p.list) ps ≡ length h
lengths_add h n ps count order lists within =
    sums h 0 ps (λ k x at. omega (arith, order k x at)) lists ∙ ap (tallies h 0) count ∙ tallies_whole h n within

-- Pasts that extend one another.
use Rattle.std.proofs.Common.{◌≡◌, ℕ, ◌+◌, ◌<◌, ◌≤◌, Bool, true, false, nat_lt, MatchBool, List, [], ◌∷◌, ◌++◌, length, refl, ap, sym, ◌∙◌, subst, arith, length-append}
use Rattle.std.proofs.lemmas.Bool.Decides.{nat_tests}
use mathlib.Core.List.{IsPrefix}
use Rattle.wh_event.specs.declared.entry.Entry.{Entry}
use Rattle.wh_board.specs.Pasts.{Past}
use Rattle.wh_board.specs.Pasts.{Extends, grown, Chains, IsChain, last_of, latest}
use Rattle.wh_board.proofs.Fronts.{prefix_self, prefix_trans, prefix_shorter}

pub extends_self : (p : Past) → Extends p p
extends_self p = (refl, prefix_self p.history)

pub extends_same : (p q : Past) → p ≡ q → Extends p q
extends_same p q is = subst (λ (x : Past). Extends p x) is (extends_self p)

-- what extends a past, told in other words
pub extends_as : (p q r s : Past) → p ≡ q → r ≡ s → Extends p r → Extends q s
extends_as p q r s one two e = subst (λ (x : Past). Extends x s) one (subst (λ (x : Past). Extends p x) two e)

-- one more entry extends a past
pub extends_grown : (p q : Past) (e : Entry) → p ≡ q → Extends p (grown q e)
extends_grown p q e is = subst (λ (x : Past). Extends x (grown q e)) (sym is) (refl, (e ∷ [], refl))

pub extends_trans : (p q r : Past) → Extends p q → Extends q r → Extends p r
extends_trans p q r a b = (b.0 ∙ a.0, prefix_trans p.history q.history r.history a.1 b.1)

-- a chain ends in what extends its start
pub chain_last : (p : Past) (qs : List Past) → Chains p qs → Extends p (last_of p qs)
chain_last p [] c = extends_self p
chain_last p (q ∷ qs) c = extends_trans p q (last_of q qs) c.0 (chain_last q qs c.1)

pub chain_extends : (p : Past) (ps rest : List Past) → Chains p (ps ++ rest) → Extends (last_of p ps) (last_of p (ps ++ rest))
chain_extends p [] rest c = chain_last p rest c
chain_extends p (q ∷ qs) rest c = chain_extends q qs rest c.1

-- the end of a chain extends the end of each beginning
pub prefix_latest : (xs ys : List Past) → IsChain xs → IsChain ys → IsPrefix xs ys → Extends (latest xs) (latest ys)
prefix_latest [] ys a b p = absurd a
prefix_latest (x ∷ xs) ys a b p =
    let P : List Past → Type 0 = λ zs. IsChain zs → Extends (last_of x xs) (latest zs) in
    subst P p.1 (λ c. chain_extends x xs p.0 c) b

pub chains_snoc : (p : Past) (ps : List Past) (w : Past) → Chains p ps → Extends (last_of p ps) w → Chains p (ps ++ w ∷ [])
chains_snoc p [] w c e = (e, tt)
chains_snoc p (q ∷ qs) w c e = (c.0, chains_snoc q qs w c.1 e)

pub chain_snoc : (xs : List Past) (w : Past) → IsChain xs → Extends (latest xs) w → IsChain (xs ++ w ∷ [])
chain_snoc [] w c e = absurd c
chain_snoc (x ∷ xs) w c e = chains_snoc x xs w c e

-- what a front keeps, with one past more
pub chain_more : (xs ys : List Past) (n : ℕ) (w : Past) → ys ≡ xs ++ w ∷ [] → length xs ≡ n + 1 → IsChain xs → Extends (latest xs) w → (length ys ≡ n + 1 + 1) × IsChain ys
chain_more xs ys n w is long chain more = (
  omega (arith, ap length is, length-append xs (w ∷ []), long),
  subst IsChain (sym is) (chain_snoc xs w chain more),
)

pub last_snoc : (p : Past) (ps : List Past) (w : Past) → last_of p (ps ++ w ∷ []) ≡ w
last_snoc p [] w = refl
last_snoc p (q ∷ qs) w = last_snoc q qs w

pub latest_snoc : (xs : List Past) (w : Past) → latest (xs ++ w ∷ []) ≡ w
latest_snoc [] w = refl
latest_snoc (x ∷ xs) w = last_snoc x xs w

-- of two beginnings of one log, the later one extends the earlier
pub later_extends : (xs ys zs : List Past) (m n : ℕ) → length xs ≡ m + 1 → length ys ≡ n + 1 → IsChain xs → IsChain ys → IsPrefix xs zs → IsPrefix ys zs → (b : Bool) → nat_lt m n ≡ b
    → MatchBool b (Extends (latest xs) (latest ys)) (Extends (latest ys) (latest xs))
later_extends xs ys zs m n lx ly a b p q true is = let less : m < n = grind (arith, nat_tests) in prefix_latest xs ys a b (prefix_shorter xs ys zs p q (omega arith))
later_extends xs ys zs m n lx ly a b p q false is = let less : n ≤ m = grind (arith, nat_tests) in prefix_latest ys xs b a (prefix_shorter ys xs zs q p (omega arith))

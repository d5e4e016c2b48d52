-- Steps of reading: what one that found something says, and that what was written is found.
use Rattle.std.proofs.Common.{◌≡◌, ℕ, ◌<◌, ◌^◌, Bool, true, false, cond, List, [], ◌∷◌, Option, Some, None, decimal, refl, sym, ap, ◌∙◌, subst, arith, lit<, lit≤}
use Rattle.std.proofs.Math.Dec.{leb as nat_le}
use Rattle.std.proofs.lemmas.Bool.{leb-true, le-leb}
use Rattle.std.specs.Str.{bytes_eq}
use Rattle.std.proofs.lemmas.Slice.Eq.{bytes_eq-Decides}
use Rattle.wh_text.specs.Names.{is_name, name_of}
use Rattle.wh_words.specs.Numerals.{numeral_of, wide_numeral_of}
use Rattle.wh_words.proofs.NumeralLemmas.{numeral_found, numeral_again, wide_found}
use Rattle.wh_log.specs.Reading.{◌>>=◌, literal_at, at_end, first_at, small_at, long_at, clock_at, wide_at, name_at}
use Rattle.wh_log.specs.Ranges.{IsSmall, IsClock}
use Rattle.wh_event.specs.Grammar.{IsName}

pub bind_some : {A B : Type 0} (r : Option A) (f : A → Option B) (y : B) → (r >>= f) ≡ Some y → (x : A) × (r ≡ Some x) × (f x ≡ Some y)
bind_some (Some x) f y e = (x, refl, e)
bind_some None f y e = absurd cc

abbrev some : {A : Type 0} → A → Option A
some x = Some x

pub some_is : {A : Type 0} (x y : A) → some x ≡ some y → x ≡ y
some_is x y e = cc

pub guard_some : {A : Type 0} (b : Bool) (x y : A) → cond b (Some x) None ≡ Some y → (b ≡ true) × (x ≡ y)
guard_some true x y e = (refl, cc)
guard_some false x y e = absurd cc

pub bytes_are : (xs ys : List ℕ) → bytes_eq xs ys ≡ true → xs ≡ ys
bytes_are xs ys = (bytes_eq-Decides xs ys).0

-- a choice by a name: it is the name that was asked for, or the choice went on
pub by_name : {A : Type 0} (P : List ℕ → Type 0) (name text : List ℕ) (x other : Option A) (y : A) → cond (bytes_eq name text) x other ≡ Some y → (x ≡ Some y → P text) → (other ≡ Some y → P name) → P name
by_name {A} P name text x other y e this on = go (bytes_eq name text) refl e
  where
    go : (v : Bool) → bytes_eq name text ≡ v → cond v x other ≡ Some y → P name
    go true is e = subst P (sym (bytes_are name text is)) (this e)
    go false is e = on e

pub literal_found : (text : List ℕ) (words rest : List (List ℕ)) → literal_at text words ≡ Some rest → words ≡ text ∷ rest
literal_found text [] rest e = absurd cc
literal_found text (word ∷ words) rest e =
    let g = guard_some (bytes_eq word text) words rest e in
    rw (bytes_are word text g.0, g.1) refl

pub end_found : {A : Type 0} (words : List (List ℕ)) (x y : A) → at_end words x ≡ Some y → (words ≡ []) × (x ≡ y)
end_found [] x y e = (refl, cc)
end_found (word ∷ words) x y e = absurd cc

first_found : {A : Type 0} (read : List ℕ → Option A) (words : List (List ℕ)) (y : A × List (List ℕ)) → first_at read words ≡ Some y → (word : List ℕ) × (words ≡ word ∷ y.1) × (read word ≡ Some y.0)
first_found read [] y e = absurd cc
first_found read (word ∷ words) y e =
    let b = bind_some (read word) (λ x. Some (x, words)) y e in
    let same = some_is (b.0, words) y b.2 in
    (word, ap (λ p. word ∷ p.1) same, b.1 ∙ ap (λ p. Some p.0) same)

pub small_found : (words : List (List ℕ)) (y : ℕ × List (List ℕ)) → small_at words ≡ Some y → (words ≡ decimal y.0 ∷ y.1) × IsSmall y.0
small_found words y e =
    let f = first_found (numeral_of 9) words y e in
    let n = numeral_found 9 f.0 y.0 (lit≤ tt) f.2 in
    (f.1 ∙ ap (λ w. w ∷ y.1) n.0, n.1)

long_found : (words : List (List ℕ)) (y : ℕ × List (List ℕ)) → long_at words ≡ Some y → (words ≡ decimal y.0 ∷ y.1) × (y.0 < 10 ^ 10)
long_found words y e =
    let f = first_found (numeral_of 10) words y e in
    let n = numeral_found 10 f.0 y.0 (lit≤ tt) f.2 in
    (f.1 ∙ ap (λ w. w ∷ y.1) n.0, n.1)

pub clock_at_found : (words : List (List ℕ)) (y : ℕ × List (List ℕ)) → clock_at words ≡ Some y → (words ≡ decimal y.0 ∷ y.1) × IsClock y.0
clock_at_found words y e =
    let a = bind_some (long_at words) (λ n. cond (nat_le n.0 1000000000) (Some n) None) y e in
    let g = guard_some (nat_le a.0.0 1000000000) a.0 y a.2 in
    subst (λ (z : ℕ × List (List ℕ)). (words ≡ decimal z.0 ∷ z.1) × IsClock z.0) g.1 ((long_found words a.0 a.1).0, leb-true _ _ g.0)

pub wide_at_found : (words : List (List ℕ)) (y : ℕ × List (List ℕ)) → wide_at words ≡ Some y → (words ≡ decimal y.0 ∷ y.1) × (y.0 < 2 ^ 64)
wide_at_found words y e =
    let f = first_found wide_numeral_of words y e in
    let n = wide_found f.0 y.0 f.2 in
    (f.1 ∙ ap (λ w. w ∷ y.1) n.0, n.1)

pub name_is : (word name : List ℕ) → name_of word ≡ Some name → (word ≡ name) × IsName name
name_is word name e =
    let g = guard_some (is_name word) word name e in
    (g.1, subst (λ (w : List ℕ). is_name w ≡ true) g.1 g.0)

pub name_found : (words : List (List ℕ)) (y : List ℕ × List (List ℕ)) → name_at words ≡ Some y → (words ≡ y.0 ∷ y.1) × IsName y.0
name_found words y e =
    let f = first_found name_of words y e in
    let n = name_is f.0 y.0 f.2 in
    (f.1 ∙ ap (λ w. w ∷ y.1) n.0, n.1)

pub small_again : (n : ℕ) → IsSmall n → numeral_of 9 (decimal n) ≡ Some n
small_again n h = numeral_again 9 n (lit< tt) (lit≤ tt) h

pub clock_at_again : (n : ℕ) (words : List (List ℕ)) → IsClock n → clock_at (decimal n ∷ words) ≡ Some (n, words)
clock_at_again n words h =
    let limit : 1000000000 < 10 ^ 10 = lit< tt in
    let small : nat_le n 1000000000 ≡ true = le-leb _ _ h in
    rw (numeral_again 10 n (lit< tt) (lit≤ tt) (omega arith), small) refl

pub name_again : (name : List ℕ) → IsName name → name_of name ≡ Some name
name_again name h = rw h refl

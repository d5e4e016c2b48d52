-- the intervals that are noted as expanded
use Rattle.std.proofs.Common.{◌≡◌, ℕ, inl, inr, ◌∙◌, Bool, true, false, cond, eq-eqb, Option, Some, None, IfSome, IfNone, unwrap_or, refl, sym, ap, subst, arith}
use Rattle.std.specs.Cmp.{IsEquivalence, decided}
use Rattle.std.proofs.lemmas.Bool.{cases_Bool}
use Rattle.std.proofs.lemmas.Bool.Decides.{nat_tests}
use Rattle.wh_intervals.specs.declared.interval.Interval.{Interval}
use Rattle.wh_intervals.specs.declared.known.Known.{Known}
use Rattle.wh_intervals.specs.Closings.{interval_eq, since_of, closed_by, Notes}

pub interval_same : (a b : Interval) → interval_eq a b ≡ true → a ≡ b
interval_same a b e =
    let leg : a.leg ≡ b.leg = grind (arith, nat_tests) in
    let x : a.cell.x ≡ b.cell.x = grind (arith, nat_tests) in
    let y : a.cell.y ≡ b.cell.y = grind (arith, nat_tests) in
    let until : a.until ≡ b.until = grind (arith, nat_tests) in
    λ i. record { leg = leg i; cell = record { x = x i; y = y i }; until = until i }

pub interval_one : (a : Interval) → interval_eq a a ≡ true
interval_one a = let l = eq-eqb a.leg a.leg refl in let x = eq-eqb a.cell.x a.cell.x refl in let y = eq-eqb a.cell.y a.cell.y refl in let u = eq-eqb a.until a.until refl in cc

pub interval_equiv : IsEquivalence interval_eq
interval_equiv = decided interval_eq (λ a b. (interval_same a b, λ e. subst (λ (j : Interval). interval_eq a j ≡ true) e (interval_one a)))

abbrev value_of : Option ℕ → ℕ
value_of None = 0
value_of (Some n) = n

pub some_same : (a b : ℕ) → Some a ≡ Some b → a ≡ b
some_same a b e = ap value_of e

abbrev key_of : Interval → Option (Interval × Known) → Interval
key_of d None = d
key_of d (Some p) = p.0

-- an entry of the map
abbrev pub entry_of : Known → Interval → Option (Interval × Known)
entry_of v j = Some (j, v)

pub pair_left : (a b : Interval) (v w : Known) → entry_of v a ≡ entry_of w b → a ≡ b
pair_left a b v w e = ap (key_of a) e

-- what an insertion makes of a map
pub notes_from : (old new : Interval → Option ℕ) (i : Interval) (time : ℕ) → ((q : Interval) → new q ≡ cond (interval_eq i q) (Some time) (old q)) → Notes old new i time
notes_from old new i time is =
    let at : (q : Interval) (b : Bool) → interval_eq i q ≡ b → new q ≡ cond b (Some time) (old q) = λ q b e. is q ∙ ap (λ (c : Bool). cond c (Some time) (old q)) e in
    record {
      here = at i true (interval_one i);
      only = λ q t h. elim (cases_Bool (interval_eq i q)) [
        | inl was ↦ inl (sym (interval_same i q was), some_same t time (sym h ∙ at q true was))
        | inr other ↦ inr (sym (at q false other) ∙ h)
      ];
      kept = λ q t h. elim (cases_Bool (interval_eq i q)) [
        | inl was ↦ inl (sym (interval_same i q was))
        | inr other ↦ inr (at q false other ∙ h)
      ];
    }

-- what is known of an interval, or what is new, says from when on it is expanded
pub known_since : (was : Option Known) (fresh : Known) → fresh.since ≡ None → (unwrap_or was fresh).since ≡ since_of was
known_since None fresh e = e
known_since (Some k) fresh e = refl

since_put : (b : Bool) (w : Known) (was : Option Known) (time : ℕ) → w.since ≡ Some time → since_of (cond b (Some w) was) ≡ cond b (Some time) (since_of was)
since_put true w was time e = e
since_put false w was time e = refl

-- who writes no other time leaves each as it was
pub closed_stays : (old new : Interval → Option Known) (i : Interval) (w : Known) → ((q : Interval) → new q ≡ cond (interval_eq i q) (Some w) (old q)) → w.since ≡ since_of (old i) → closed_by new ≡ closed_by old
closed_stays old new i w is same =
    let at : (q : Interval) (b : Bool) → interval_eq i q ≡ b → closed_by new q ≡ since_of (cond b (Some w) (old q)) = λ q b e. ap since_of (is q) ∙ ap (λ (c : Bool). since_of (cond c (Some w) (old q))) e in
    let each : (q : Interval) → closed_by new q ≡ closed_by old q = λ q. elim (cases_Bool (interval_eq i q)) [
      | inl was ↦ at q true was ∙ same ∙ ap (λ (j : Interval). since_of (old j)) (interval_same i q was)
      | inr other ↦ at q false other
    ] in
    λ j q. each q j

-- and a time that is written is noted
pub closed_notes : (old new : Interval → Option Known) (i : Interval) (w : Known) (time : ℕ) → ((q : Interval) → new q ≡ cond (interval_eq i q) (Some w) (old q)) → w.since ≡ Some time → Notes (closed_by old) (closed_by new) i time
closed_notes old new i w time is e =
    notes_from (closed_by old) (closed_by new) i time (λ q. ap since_of (is q) ∙ since_put (interval_eq i q) w (old q) time e)

-- what is known of an interval by an entry of the map
pub known_is : (was : Option Known) (known fresh : Known) (old : Interval → Option Known) (i : Interval) → known ≡ unwrap_or was fresh → was ≡ old i → fresh.since ≡ None → closed_by old i ≡ known.since
known_is was known fresh old i is value none = sym (ap (λ (k : Known). k.since) is ∙ known_since was fresh none ∙ ap since_of value)

pub some_weaker : (P Q : ℕ → Type 0) (o : Option ℕ) → ((n : ℕ) → P n → Q n) → IfSome o P → IfSome o Q
some_weaker P Q None f h = tt
some_weaker P Q (Some n) f h = f n h

pub none_weaker : (P Q : Type 0) (o : Option ℕ) → (P → Q) → IfNone o P → IfNone o Q
none_weaker P Q None f h = f h
none_weaker P Q (Some n) f h = tt

pub if_some : (o : Option ℕ) (n : ℕ) (P : ℕ → Type 0) → o ≡ Some n → IfSome o P → P n
if_some o n P e h = subst (λ (x : Option ℕ). IfSome x P) e h

pub if_none : (o : Option ℕ) (P : Type 0) → o ≡ None → IfNone o P → P
if_none o P e h = subst (λ (x : Option ℕ). IfNone x P) e h

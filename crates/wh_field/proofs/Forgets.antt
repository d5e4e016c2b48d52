-- which places are listed, and how they are put back to not met
use Rattle.std.proofs.Common.{◌≡◌, ◌≢◌, ℕ, ◌+◌, ◌<◌, ◌≤◌, inl, inr, ◌∙◌, List, [], ◌∷◌, ◌++◌, length, set, Bool, true, false, cond, nat_eq, refl, sym, ap, subst, suc, zero, length-set, get_or-set_same, get_or-set_other, All, Contains, arith}
use Rattle.std.proofs.lemmas.Bool.{cases_lt, cases_eq}
use Rattle.std.proofs.lemmas.List.Elements.{All-nil, All-append, All-push, All-weaker, All-contains, Contains-append_left, Contains-append_right}
use Rattle.std.proofs.lemmas.List.{length_push, get_or_past}
use Rattle.wh_grid.specs.declared.cell.Cell.{Cell}
use Rattle.wh_grid.specs.Grids.{Floor}
use Rattle.wh_field.specs.Tables.{unseen, blocked, value, unseen_count, IsListed, IsForgotten, IsMarking}
use Rattle.wh_field.specs.Places.{IsOpen, IsStarted, IsSurveying}
use Rattle.wh_field.proofs.Tables.{marking_keeps}

-- what has a number lies within
pub numbered_inside : (t : List ℕ) (i : ℕ) → value t i < blocked → i < length t
numbered_inside t i low = elim (cases_lt i (length t)) [
  | inl h ↦ h
  | inr h ↦ absurd (let e = get_or_past t i 4294967294 h in omega arith)
]

pub listed_started : (g : Floor) (avoid sources : List Cell) (t starts : List ℕ) → IsStarted g avoid sources t starts → IsListed t starts
listed_started g avoid sources t starts s = record {
  numbered = All-weaker (λ i. value t i ≡ 0) (λ i. value t i < blocked) (λ i e. omega arith) starts s.at_start;
  all_numbered = λ i low. elim (s.each i) [
    | inl a ↦ absurd (let z = a.0 in omega arith)
    | inr a ↦ elim a.0 [ inl u ↦ absurd (omega arith) | inr z ↦ s.all_starts i z ]
  ];
}

-- what a marking adds is listed
pub listed_marking : (s i d : ℕ) (t q t' q' : List ℕ) → d < blocked → IsMarking s i d t q t' q' → IsListed t q → IsListed t' q'
listed_marking s i d t q t' q' f m h =
    let P : ℕ → Type 0 = λ k. value t' k < blocked in
    let old : All P q = All-weaker (λ k. value t k < blocked) P (λ k low. let e = marking_keeps s i d k t q t' q' m (λ z. absurd (omega arith)) in omega arith) q h.numbered in
    let new : All P m.added = All-weaker (λ k. value t' k ≡ d) P (λ k e. omega arith) m.added m.at_added in
    record {
      numbered = subst (All P) (sym m.listed) (All-append P q m.added old new);
      all_numbered = λ k low. subst (λ xs. Contains xs k) (sym m.listed) (elim (m.each k) [
        | inl same ↦ Contains-append_left q m.added k (h.all_numbered k (omega arith))
        | inr c ↦ Contains-append_right q m.added k c.3
      ]);
    }

back_here : (b : Bool) (r : ℕ) → 1 + r ≤ cond b (1 + r) r + 1
back_here true r = omega arith
back_here false r = omega arith

back_later : (b : Bool) (m n : ℕ) → m ≤ n + 1 → cond b (1 + m) m ≤ cond b (1 + n) n + 1
back_later true m n h = omega arith
back_later false m n h = h

-- a place that is put back is at most one more that is not met
unseen_count-back : (t : List ℕ) (i : ℕ) → unseen_count (set t i unseen) ≤ unseen_count t + 1
unseen_count-back [] i = omega arith
unseen_count-back (x ∷ xs) zero = back_here (nat_eq x 4294967295) (unseen_count xs)
unseen_count-back (x ∷ xs) (suc i) = back_later (nat_eq x 4294967295) (unseen_count (set xs i unseen)) (unseen_count xs) (unseen_count-back xs i)

pub forgotten_none : (t : List ℕ) → IsForgotten t [] t
forgotten_none t = record {
  size = refl;
  each = λ i. inl refl;
  at_done = All-nil (λ i. value t i ≡ unseen);
  count = omega arith;
}

-- one more place is put back
pub forgotten_one : (old done t : List ℕ) (p : ℕ) → value old p < blocked → IsForgotten old done t → IsForgotten old (done ++ p ∷ []) (set t p unseen)
forgotten_one old done t p low f =
    let now = set t p unseen in
    let size = f.size in
    let within = numbered_inside old p low in
    let here : value now p ≡ unseen = get_or-set_same t p unseen 4294967294 (omega arith) in
    let there : (i : ℕ) → i ≢ p → value now i ≡ value t i = λ i ne. get_or-set_other t p i unseen 4294967294 ne in
    let P : ℕ → Type 0 = λ i. value now i ≡ unseen in
    let still : (i : ℕ) → value t i ≡ unseen → P i = λ i e. elim (cases_eq i p) [
      | inl same ↦ ap (λ x. value now x) same ∙ here
      | inr ne ↦ there i ne ∙ e
    ] in
    record {
      size = length-set t p unseen ∙ f.size;
      each = λ i. elim (cases_eq i p) [
        | inl same ↦ inr (ap (λ x. value now x) same ∙ here, subst (λ x. value old x < blocked) (sym same) low)
        | inr ne ↦ elim (f.each i) [ inl e ↦ inl (there i ne ∙ e) | inr c ↦ inr (there i ne ∙ c.0, c.1) ]
      ];
      at_done = All-push P done p (All-weaker (λ i. value t i ≡ unseen) P still done f.at_done) here;
      count = omega (arith, f.count, unseen_count-back t p, length_push done p);
    }

-- a table of which all numbers are forgotten is open
pub forgotten_open : (g : Floor) (sources : List Cell) (d : ℕ) (t layer queue now : List ℕ) → d < blocked → IsSurveying g [] sources d t layer → IsListed t queue → IsForgotten t queue now →
    IsOpen g [] now
forgotten_open g sources d t layer queue now f s h z = record {
  size = z.size ∙ s.ground.size;
  each = λ i lt. elim (s.spreading.known i) [
    | inl a ↦ inl (
      elim (z.each i) [ inl same ↦ same ∙ a | inr c ↦ absurd (let low = c.1 in omega arith) ],
      λ there. s.ground.not_blocked there.cell there.allowed (ap (λ k. value t k) there.here ∙ a),
    )
    | inr (inl a) ↦ inr (elim (z.each i) [ inl same ↦ same ∙ a | inr c ↦ c.0 ], s.ground.allowed i (λ e. absurd (omega arith)))
    | inr (inr a) ↦ inr (All-contains (λ k. value now k ≡ unseen) queue i z.at_done (h.all_numbered i (omega arith)), s.ground.allowed i (λ e. absurd (omega arith)))
  ];
}

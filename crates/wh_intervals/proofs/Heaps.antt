-- what goes into a heap of entries, and what comes out of it
use Rattle.std.proofs.Common.{◌≡◌, ℕ, ◌≤◌, ◌⊎◌, inl, inr, ◌∙◌, List, [], ◌∷◌, refl, sym, ap, subst, Contains, Option, Some, None, IfSome, false, nat_cmp, is_lt, Less, Equal, Greater, arith}
use Rattle.std.specs.BinaryHeap.{IsUpperBound, IsHeap}
use Rattle.std.specs.List.{cons_option}
use Rattle.std.specs.List.Sorted.{IsPermutation}
use Rattle.std.specs.Ordering.{ordering_then}
use Rattle.std.specs.declared.cmp.Ordering.{Ordering}
use Rattle.std.proofs.lemmas.List.Elements.{All-nil, All-cons, All-head, All-contains, Contains-push, Contains-push_cases, Contains-append_left, Contains-append_right, Contains-append_cases}
use Rattle.std.proofs.lemmas.List.Sorted.{All-permutation, Contains-permutation, IsPermutation-refl, IsPermutation-sym, IsPermutation-trans, IsPermutation-cons, IsPermutation-middle, le_from_greatest}
use Rattle.wh_intervals.specs.declared.entry.Entry.{Entry}
use Rattle.wh_intervals.specs.Queues.{bound_of, number_of, IsBefore, Waiting, Pushes, Pops}

-- what comes first decides unless it is `Equal`
first_not_lt : (a b : Ordering) → is_lt (ordering_then a b) ≡ false → is_lt a ≡ false
first_not_lt Less b e = e
first_not_lt Equal b e = refl
first_not_lt Greater b e = e

not_less : (x y : ℕ) → is_lt (nat_cmp y x) ≡ false → x ≤ y
not_less x y e = All-head (λ z. z ≤ y) x [] (le_from_greatest y (x ∷ []) (e, tt))

-- the least rank first, then the least turn
abbrev pub entry_cmp : Entry → Entry → Ordering
entry_cmp x y = ordering_then (nat_cmp y.rank.0 x.rank.0) (nat_cmp y.turn.0 x.turn.0)

pub least_bounds : (x : Entry) (xs : List Entry) → IsUpperBound entry_cmp x xs → IsBefore x xs
least_bounds x [] h = All-nil (λ y. bound_of x ≤ bound_of y)
least_bounds x (y ∷ ys) h =
    let ranks = not_less x.rank.0 y.rank.0 (first_not_lt (nat_cmp y.rank.0 x.rank.0) (nat_cmp y.turn.0 x.turn.0) h.0) in
    All-cons (λ z. bound_of x ≤ bound_of z) y ys (omega arith) (least_bounds x ys h.1)

first_there : (x : Entry) (xs : List Entry) → Contains (x ∷ xs) x
first_there x xs = Contains-append_left (x ∷ []) xs x (Contains-push [] x)

rest_there : (x : Entry) (xs : List Entry) (e : Entry) → Contains xs e → Contains (x ∷ xs) e
rest_there x xs e c = Contains-append_right (x ∷ []) xs e c

-- it is the first one, or one of the rest
which : (x : Entry) (xs : List Entry) (e : Entry) → Contains (x ∷ xs) e → (x ≡ e) ⊎ Contains xs e
which x xs e c = elim (Contains-append_cases (x ∷ []) xs e c) [
  | inl one ↦ elim (Contains-push_cases [] x e one) [ inl none ↦ absurd (omega (arith, none.1)) | inr same ↦ inl same ]
  | inr more ↦ inr more
]

same_entry : (queue : List Entry) (x : Entry) (b i : ℕ) (w : Waiting queue b i) → x ≡ w.entry → (b ≡ bound_of x) × (i ≡ number_of x)
same_entry queue x b i w e = (sym w.bound_is ∙ ap (λ (y : Entry). bound_of y) (sym e), sym w.node_is ∙ ap (λ (y : Entry). number_of y) (sym e))

moved : (old new : List Entry) (b i : ℕ) (w : Waiting old b i) → Contains new w.entry → Waiting new b i
moved old new b i w c = record { entry = w.entry; among = c; bound_is = w.bound_is; node_is = w.node_is }

pub pushes_from : (old new : List Entry) (x : Entry) → IsPermutation (x ∷ old) new → Pushes old new (bound_of x) (number_of x)
pushes_from old new x same =
    let back = IsPermutation-sym (x ∷ old) new same in
    record {
      added = record { entry = x; among = Contains-permutation (x ∷ old) new x same (first_there x old); bound_is = refl; node_is = refl };
      kept = λ b i w. moved old new b i w (Contains-permutation (x ∷ old) new w.entry same (rest_there x old w.entry w.among));
      only = λ b i w. elim (which x old w.entry (Contains-permutation new (x ∷ old) w.entry back w.among)) [
        | inl e ↦ inr (same_entry new x b i w e)
        | inr c ↦ inl (moved new old b i w c)
      ];
    }

pub pops_from : (old new : List Entry) (x : Entry) → IsPermutation old (x ∷ new) → IsBefore x old → Pops old new (bound_of x) (number_of x)
pops_from old new x same top =
    let back = IsPermutation-sym old (x ∷ new) same in
    record {
      was = record { entry = x; among = Contains-permutation (x ∷ new) old x back (first_there x new); bound_is = refl; node_is = refl };
      kept = λ b i w. elim (which x new w.entry (Contains-permutation old (x ∷ new) w.entry same w.among)) [
        | inl e ↦ inl (same_entry old x b i w e)
        | inr c ↦ inr (moved old new b i w c)
      ];
      only = λ b i w. moved new old b i w (Contains-permutation (x ∷ new) old w.entry back (rest_there x new w.entry w.among));
      least = λ b i w. subst (λ (n : ℕ). bound_of x ≤ n) w.bound_is (All-contains (λ y. bound_of x ≤ bound_of y) old w.entry top w.among);
    }

-- an entry goes into the heap, behind the one that is kept apart
pub pushed_behind : (first : Option Entry) (old new : List Entry) (x : Entry) → IsPermutation (x ∷ old) new → Pushes (cons_option first old) (cons_option first new) (bound_of x) (number_of x)
pushed_behind None old new x same = pushes_from old new x same
pushed_behind (Some f) old new x same =
    let swapped = IsPermutation-sym (f ∷ x ∷ old) (x ∷ f ∷ old) (IsPermutation-middle (f ∷ []) x old) in
    pushes_from (f ∷ old) (f ∷ new) x (IsPermutation-trans (x ∷ f ∷ old) (f ∷ x ∷ old) (f ∷ new) swapped (IsPermutation-cons f (x ∷ old) new same))

pub before_more : (first : Option Entry) (old new : List Entry) (x : Entry) → IsPermutation (x ∷ old) new → IfSome first (λ e. IsBefore e old) → IfSome first (λ e. bound_of e ≤ bound_of x) → IfSome first (λ e. IsBefore e new)
before_more None old new x same all one = tt
before_more (Some f) old new x same all one = All-permutation (λ y. bound_of f ≤ bound_of y) (x ∷ old) new same (All-cons (λ y. bound_of f ≤ bound_of y) x old one all)

-- an entry is kept apart, and the one that was goes into the heap
pub pushed_first : (first : Option Entry) (old new : List Entry) (x : Entry) → IsPermutation (cons_option first old) new → Pushes (cons_option first old) (x ∷ new) (bound_of x) (number_of x)
pushed_first first old new x same = pushes_from (cons_option first old) (x ∷ new) x (IsPermutation-cons x (cons_option first old) new same)

-- the same of equal lists
pub first_of : (R : Entry → Entry → Ordering) (x : Entry) (xs ys : List Entry) → ys ≡ xs → IsHeap R xs → IsBefore x xs → IsHeap R ys × IsBefore x ys
first_of R x xs ys e heap before = subst (λ (zs : List Entry). IsHeap R zs × IsBefore x zs) (sym e) (heap, before)

-- the one that is kept apart is taken
pub popped_first : (first : Option Entry) (x : Entry) (xs : List Entry) → first ≡ Some x → IfSome first (λ e. IsBefore e xs) → Pops (cons_option first xs) xs (bound_of x) (number_of x)
popped_first first x xs e all =
    let before : IsBefore x xs = subst (λ (o : Option Entry). IfSome o (λ y. IsBefore y xs)) e all in
    subst (λ (o : Option Entry). Pops (cons_option o xs) xs (bound_of x) (number_of x)) (sym e)
    (pops_from (x ∷ xs) xs x (IsPermutation-refl (x ∷ xs)) (All-cons (λ y. bound_of x ≤ bound_of y) x xs (omega arith) before))

pub none_waits : (b i : ℕ) → Waiting [] b i → ⊥
none_waits b i w = omega (arith, w.among.1)

-- What one caller has of a history.
use Rattle.std.proofs.Common.{◌≡◌, ℕ, zero, suc, ◌+◌, ◌<◌, ◌==◌, true, false, List, [], ◌∷◌, ◌++◌, length, cond, Some, slice_get, refl, ap, sym, ◌∙◌, subst, arith, append_assoc, add-zero, zero-add}
use Rattle.std.specs.List.{All}
use Rattle.std.proofs.lemmas.List.{append-nil, length_push}
use Rattle.std.proofs.lemmas.List.Elements.{All-cons, All-nil}
use Rattle.std.proofs.lemmas.Option.{slice_get_within}
use Rattle.std.proofs.lemmas.Bool.Decides.{nat_tests}
use Rattle.wh_event.specs.declared.entry.Entry.{Entry}
use Rattle.wh_desk.specs.Lists.{AllAt, entries_from, entries_of, last_from, StandIn}

-- what stands in a list stands in a longer one
pub get_left : {A : Type 0} (xs ys : List A) (k : ℕ) (x : A) → slice_get xs k ≡ Some x → slice_get (xs ++ ys) k ≡ Some x
get_left [] ys k x h = absurd (cc)
get_left (y ∷ xs) ys zero x h = h
get_left (y ∷ xs) ys (suc k) x h = get_left xs ys k x h

pub get_push : {A : Type 0} (xs : List A) (y : A) → slice_get (xs ++ y ∷ []) (length xs) ≡ Some y
get_push [] y = refl
get_push (x ∷ xs) y = get_push xs y

-- an element of a longer list is the new one, or stood before
pub AllAt_push : {A : Type 0} (P : ℕ → A → Type 0) (xs : List A) (y : A) → AllAt P xs → P (length xs) y → AllAt P (xs ++ y ∷ [])
AllAt_push P [] y all new zero x h = (let same : y ≡ x = cc in subst (λ z. P zero z) same new)
AllAt_push P [] y all new (suc k) x h = absurd (cc)
AllAt_push P (z ∷ xs) y all new zero x h = all zero x h
AllAt_push P (z ∷ xs) y all new (suc k) x h = AllAt_push (λ j. P (suc j)) xs y (λ j w e. all (suc j) w e) new k x h

pub AllAt_map : {A : Type 0} (P Q : ℕ → A → Type 0) (xs : List A) → ((k : ℕ) (x : A) → k < length xs → P k x → Q k x) → AllAt P xs → AllAt Q xs
AllAt_map P Q xs f all k x h = f k x (slice_get_within xs k x h) (all k x h)

-- the entries of a longer history
pub entries_append : (k : ℕ) (xs ys : List Entry) (c : ℕ) → entries_from k (xs ++ ys) c ≡ entries_from k xs c ++ entries_from (k + length xs) ys c
entries_append k [] ys c = ap (λ n. entries_from n ys c) (sym (add-zero k))
entries_append k (x ∷ xs) ys c =
    let rest : entries_from (k + 1) (xs ++ ys) c ≡ entries_from (k + 1) xs c ++ entries_from (k + suc (length xs)) ys c = entries_append (k + 1) xs ys c ∙ ap (λ n. entries_from (k + 1) xs c ++ entries_from n ys c) (omega arith) in
    elim (x.caller == c) as (λ b. cond b ((k, x) ∷ entries_from (k + 1) (xs ++ ys) c) (entries_from (k + 1) (xs ++ ys) c) ≡ cond b ((k, x) ∷ entries_from (k + 1) xs c) (entries_from (k + 1) xs c) ++ entries_from (k + suc (length xs)) ys c) [
      | true ↦ ap (λ l. (k, x) ∷ l) rest
      | false ↦ rest
    ]

pub last_push : (d : ℕ) (xs : List (ℕ × Entry)) (x : ℕ × Entry) → last_from d (xs ++ x ∷ []) ≡ x.0
last_push d [] x = refl
last_push d (y ∷ xs) x = last_push y.0 xs x

-- one more entry, of the caller or of another
pub entries_push : (h : List Entry) (e : Entry) (c : ℕ) → entries_of (h ++ e ∷ []) c ≡ entries_of h c ++ cond (e.caller == c) ((length h, e) ∷ []) []
entries_push h e c = entries_append 0 h (e ∷ []) c ∙ ap (λ n. entries_of h c ++ cond (e.caller == c) ((n, e) ∷ []) []) (zero-add (length h))

pub entries_push_same : (h : List Entry) (e : Entry) (c : ℕ) → e.caller ≡ c → entries_of (h ++ e ∷ []) c ≡ entries_of h c ++ (length h, e) ∷ []
entries_push_same h e c is =
    let test : (e.caller == c) ≡ true = grind (arith, nat_tests) in
    entries_push h e c ∙ ap (λ b. entries_of h c ++ cond b ((length h, e) ∷ []) []) test

pub entries_push_other : (h : List Entry) (e : Entry) (c : ℕ) → (e.caller ≡ c → ⊥) → entries_of (h ++ e ∷ []) c ≡ entries_of h c
entries_push_other h e c other =
    let test : (e.caller == c) ≡ false = grind (arith, nat_tests) in
    entries_push h e c ∙ ap (λ b. entries_of h c ++ cond b ((length h, e) ∷ []) []) test ∙ append-nil (entries_of h c)

-- each entry of the caller stands in the history, at its position
pub entries_stands : (before xs : List Entry) (c : ℕ) → StandIn (before ++ xs) (entries_from (length before) xs c)
entries_stands before [] c = All-nil _
entries_stands before (x ∷ xs) c =
    let whole = before ++ x ∷ xs in
    let P : ℕ × Entry → Type 0 = λ y. slice_get whole y.0 ≡ Some y.1 in
    let regroup : (before ++ x ∷ []) ++ xs ≡ whole = append_assoc before (x ∷ []) xs in
    let longer : length (before ++ x ∷ []) ≡ length before + 1 = length_push before x in
    let rest : All P (entries_from (length before + 1) xs c) = subst (λ n. All P (entries_from n xs c)) longer (subst (λ w. All (λ (y : ℕ × Entry). slice_get w y.0 ≡ Some y.1) (entries_from (length (before ++ x ∷ [])) xs c)) regroup (entries_stands (before ++ x ∷ []) xs c)) in
    let here : P (length before, x) = subst (λ w. slice_get w (length before) ≡ Some x) regroup (get_left (before ++ x ∷ []) xs (length before) x (get_push before x)) in
    elim (x.caller == c) as (λ b. All P (cond b ((length before, x) ∷ entries_from (length before + 1) xs c) (entries_from (length before + 1) xs c))) [
      | true ↦ All-cons P (length before, x) (entries_from (length before + 1) xs c) here rest
      | false ↦ rest
    ]

pub entries_before : (k : ℕ) (xs : List Entry) (c : ℕ) → All (λ (y : ℕ × Entry). y.0 < k + length xs) (entries_from k xs c)
entries_before k [] c = All-nil _
entries_before k (x ∷ xs) c =
    let P : ℕ × Entry → Type 0 = λ y. y.0 < k + suc (length xs) in
    let rest : All P (entries_from (k + 1) xs c) = subst (λ n. All (λ (y : ℕ × Entry). y.0 < n) (entries_from (k + 1) xs c)) (omega arith) (entries_before (k + 1) xs c) in
    elim (x.caller == c) as (λ b. All P (cond b ((k, x) ∷ entries_from (k + 1) xs c) (entries_from (k + 1) xs c))) [
      | true ↦ All-cons P (k, x) (entries_from (k + 1) xs c) (omega arith) rest
      | false ↦ rest
    ]

-- lists without one of their elements
use Rattle.std.proofs.Common.{◌≡◌, ◌≢◌, ℕ, ◌+◌, ◌-◌, ◌<◌, ◌↔◌, Bool, false, IsTrue, subst, add-one, length-drop, suc, zero, List, [], ◌∷◌, ◌++◌, length, get_or, take, drop, refl, sym, ap, All, remove, arith}
use Rattle.std.proofs.lemmas.List.Elements.{All-append, All-nil, All-cons, All-head, All-tail}
use Rattle.std.proofs.lemmas.List.{take_all}

-- what holds of all but one holds at each other place
pub all_removed-at : {X : Type 0} (P : X → Type 0) (xs : List X) (i j : ℕ) (d : X) → All P (remove xs i) → j < length xs → j ≢ i → P (get_or xs j d)
all_removed-at P [] i j d all h ne = absurd (omega arith)
all_removed-at P (x ∷ xs) zero zero d all h ne = absurd (ne refl)
all_removed-at P (x ∷ xs) zero (suc j) d all h ne = all j d (omega arith)
all_removed-at P (x ∷ xs) (suc i) zero d all h ne = all 0 d (omega arith)
all_removed-at P (x ∷ xs) (suc i) (suc j) d all h ne =
    all_removed-at P xs i j d (λ k e l. all (suc k) e (omega arith)) (omega arith) (λ e. ne (ap suc e))

-- and the other way round
pub all_removed-from : {X : Type 0} (P : X → Type 0) (xs : List X) (i : ℕ) → ((j : ℕ) (d : X) → j < length xs → j ≢ i → P (get_or xs j d)) → All P (remove xs i)
all_removed-from P [] zero each k d h = absurd (omega arith)
all_removed-from P [] (suc i) each k d h = absurd (omega arith)
all_removed-from P (x ∷ xs) zero each k d h = each (suc k) d (omega arith) (λ e. omega arith)
all_removed-from P (x ∷ xs) (suc i) each zero d h = each 0 d (omega arith) (λ e. omega arith)
all_removed-from P (x ∷ xs) (suc i) each (suc k) d h =
    all_removed-from P xs i (λ j e l ne. each (suc j) e (omega arith) (λ s. ne (omega arith))) k d (omega arith)

pub All-left : {X : Type 0} (P : X → Type 0) (xs ys : List X) → All P (xs ++ ys) → All P xs
All-left P [] ys h = All-nil P
All-left P (x ∷ xs) ys h = All-cons P x xs (All-head P x (xs ++ ys) h) (All-left P xs ys (All-tail P x (xs ++ ys) h))

pub All-right : {X : Type 0} (P : X → Type 0) (xs ys : List X) → All P (xs ++ ys) → All P ys
All-right P [] ys h = h
All-right P (x ∷ xs) ys h = All-right P xs ys (All-tail P x (xs ++ ys) h)

-- a list without its i-th element, as two slices have it
pub remove-slices : {X : Type 0} (xs : List X) (i : ℕ) → i < length xs → remove xs i ≡ take i xs ++ take (length xs - (i + 1)) (drop (i + 1) xs)
remove-slices xs i h =
    let rest = drop (suc i) xs in
    let e : i + 1 ≡ suc i = add-one i in
    rw e (ap (λ ys. take i xs ++ ys) (sym (take_all (length xs - suc i) rest (omega (arith, length-drop (suc i) xs)))))

-- each of them where the test on the first part, and then on the second, holds
pub All-remove : {X : Type 0} (P : X → Type 0) (xs : List X) (i : ℕ) (b : Bool) → i < length xs → IsTrue b ↔ All P (take (length xs - (i + 1)) (drop (i + 1) xs)) → All P (take i xs) → IsTrue b ↔ All P (remove xs i)
All-remove P xs i b h t f = (
  λ e. subst (All P) (sym (remove-slices xs i h)) (All-append P (take i xs) _ f (t.0 e)),
  λ a. t.1 (All-right P (take i xs) _ (subst (All P) (remove-slices xs i h) a)),
)

pub Not-remove : {X : Type 0} (P : X → Type 0) (xs : List X) (i : ℕ) (b : Bool) → i < length xs → b ≡ false → IsTrue b ↔ All P (take i xs) → IsTrue b ↔ All P (remove xs i)
Not-remove P xs i b h e t =
    (λ f. cc, λ a. t.1 (All-left P (take i xs) _ (subst (All P) (remove-slices xs i h) a)))

-- items, each as the other of its place has it
use Rattle.std.proofs.Common.{◌≡◌, ◌<◌, ◌≤◌, ◌+◌, ℕ, Bor, List, [], ◌∷◌, ◌++◌, take, length, get_or, zero, suc, refl, sym, ap, ◌∙◌, subst, Option, None, Some, arith}
use Rattle.std.specs.List.{AllByRecursion, slice_get, HoldsAt}
use Rattle.std.specs.Prelude.{IfSome, MatchOption}
use Rattle.std.specs.Option.{option_map}
use Rattle.std.proofs.lemmas.Option.{slice_get_read, slice_get_past}
use Rattle.wh_handover.specs.Chains.{match_with, matched}

some_same : {X : Type 0} (x y : X) → Some x ≡ Some y → x ≡ y
some_same x y e = cc

matched_none : {X : Type 0} (f : X → X → X) (xs : List X) → matched f xs [] ≡ xs
matched_none f [] = refl
matched_none f (x ∷ xs) = refl

next_matched : {X : Type 0} (f : X → X → X) (xs others : List X) (k : ℕ) (x : X) → slice_get xs k ≡ Some x
    → matched f (take (suc k) xs) others ≡ matched f (take k xs) others ++ match_with f x (slice_get others k) ∷ []
next_matched f [] others k x e = cc
next_matched f (y ∷ xs) [] zero x e = ap (λ z. z ∷ []) (some_same y x e)
next_matched f (y ∷ xs) (other ∷ others) zero x e = ap (λ z. f z other ∷ []) (some_same y x e)
next_matched f (y ∷ xs) [] (suc k) x e = ap (λ zs. y ∷ zs) (sym (matched_none f (take (suc k) xs)) ∙ next_matched f xs [] k x e ∙ ap (λ zs. zs ++ x ∷ []) (matched_none f (take k xs)))
next_matched f (y ∷ xs) (other ∷ others) (suc k) x e = ap (λ zs. f y other ∷ zs) (next_matched f xs others k x e)

-- one item more
pub matched_more : {X : Type 0} (f : X → X → X) (xs others : List X) (k : ℕ) (x : X) → k < length xs → x ≡ get_or xs k x
    → matched f (take (k + 1) xs) others ≡ matched f (take k xs) others ++ match_with f x (slice_get others k) ∷ []
matched_more f xs others k x within is =
    let e : suc k ≡ k + 1 = omega arith in
    subst (λ n. matched f (take n xs) others ≡ matched f (take k xs) others ++ match_with f x (slice_get others k) ∷ []) e
    (next_matched f xs others k x (slice_get_read xs (length xs) k x refl within is))

-- what was looked up
pub looked_up : {X : Type 0} (xs : List X) (k : ℕ) (found : Option (Bor X)) → IfSome found (λ x. x.now ≡ get_or xs k x.now)
    → MatchOption found (length xs ≤ k) (λ x. (k < length xs) × HoldsAt (λ y. x.now ≡ y) xs k) → option_map (λ (x : Bor X). x.now) found ≡ slice_get xs k
looked_up xs k None is there = sym (slice_get_past xs k there)
looked_up xs k (Some x) is there = sym (slice_get_read xs (length xs) k x.now refl there.0 is)

pub length_matched : {X : Type 0} (f : X → X → X) (xs others : List X) → length (matched f xs others) ≡ length xs
length_matched f [] others = refl
length_matched f (x ∷ xs) [] = refl
length_matched f (x ∷ xs) (other ∷ others) = ap suc (length_matched f xs others)

pub all_matched : {X : Type 0} (P : X → Type 0) (f : X → X → X) (xs others : List X) → ((x y : X) → P x → P y → P (f x y)) → AllByRecursion P xs → AllByRecursion P others
    → AllByRecursion P (matched f xs others)
all_matched P f [] others kept all alls = tt
all_matched P f (x ∷ xs) [] kept all alls = all
all_matched P f (x ∷ xs) (other ∷ others) kept all alls = (kept x other all.0 alls.0, all_matched P f xs others kept all.1 alls.1)

-- the item of a place
pub matched_at : {X : Type 0} (f : X → X → X) (xs others : List X) (k : ℕ) (x : X) → slice_get xs k ≡ Some x → slice_get (matched f xs others) k ≡ Some (match_with f x (slice_get others k))
matched_at f [] others k x e = cc
matched_at f (y ∷ xs) [] zero x e = e
matched_at f (y ∷ xs) [] (suc k) x e = e
matched_at f (y ∷ xs) (other ∷ others) zero x e = ap (λ z. Some (f z other)) (some_same y x e)
matched_at f (y ∷ xs) (other ∷ others) (suc k) x e = matched_at f xs others k x e

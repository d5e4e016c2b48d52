-- Reading slots one after the other, as the loop does.
use Rattle.std.proofs.Common.{◌≡◌, ℕ, List, [], ◌∷◌, ◌++◌, Option, Some, None, refl, sym, ap, ◌∙◌, append_assoc}
use Rattle.std.proofs.lemmas.List.{append-nil}
use Rattle.wh_log.specs.Reading.{◌>>=◌}
use Rattle.wh_log.specs.Heads.{slot_of, slots_of}

abbrev pub with_slots : List ℕ → Option (List ℕ) → Option (List ℕ)
with_slots front read = read >>= λ slots. Some (front ++ slots)

regroup : (front : List ℕ) (slot : ℕ) (read : Option (List ℕ)) → with_slots front (read >>= λ slots. Some (slot ∷ slots)) ≡ with_slots (front ++ slot ∷ []) read
regroup front slot (Some slots) = ap (λ (all : List ℕ). Some all) (simp append_assoc)
regroup front slot None = refl

pub slots_go : (front : List ℕ) (word : List ℕ) (words : List (List ℕ)) (slot : ℕ) (total : Option (List ℕ))
    → slot_of word ≡ Some slot → with_slots front (slots_of (word ∷ words)) ≡ total → with_slots (front ++ slot ∷ []) (slots_of words) ≡ total
unfolding slots_of
slots_go front word words slot total is so_far =
    let one : with_slots front (slots_of (word ∷ words)) ≡ with_slots (front ++ slot ∷ []) (slots_of words) = rw is (regroup front slot (slots_of words)) in
    sym one ∙ so_far

pub slots_fault : (front : List ℕ) (word : List ℕ) (words : List (List ℕ)) (total : Option (List ℕ)) → slot_of word ≡ None → with_slots front (slots_of (word ∷ words)) ≡ total → total ≡ None
unfolding slots_of
slots_fault front word words total is so_far =
    let one : with_slots front (slots_of (word ∷ words)) ≡ None = rw is refl in
    sym so_far ∙ one

pub slots_done : (front : List ℕ) (total : Option (List ℕ)) → with_slots front (slots_of []) ≡ total → total ≡ Some front
unfolding slots_of
slots_done front total so_far = sym so_far ∙ ap (λ (all : List ℕ). Some all) (append-nil front)

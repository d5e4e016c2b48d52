use Rattle.std.proofs.Common.{◌≡◌, ◌⊎◌, inl, inr, ℕ, List, Vec, Global, Contains, refl, sym, ap, ◌∙◌, subst, arith}
use Rattle.std.proofs.Math.ListN.{replicate}
use Rattle.std.proofs.lemmas.List.Elements.{All-replicate, All-contains, Contains-append_cases}
use Rattle.std.proofs.lemmas.List.{get_or_default}
use Rattle.wh_search.proofs.Kept.{take_front}
use Rattle.wh_search.proofs.noted.Noted.grow.Goals as goal
use Rattle.wh_search.proofs.noted.Noted.grow.Goals.{then-number-ne0, else-number-ne0}

pub returns-then-is_empty-clause-numbers : goal.returns-then-is_empty-clause-numbers
returns-then-is_empty-clause-numbers c = λ n h.
    elim (Contains-append_cases c.reserve.new.self.items (replicate 256 0) n (subst (λ (xs : List ℕ). Contains xs n) c.in_ok-extend_from_slice.ensures.items h)) [
      | inl x ↦ inr (subst (λ (xs : List ℕ). Contains xs n) c.in_ok-reserve.ensures.items x)
      | inr x ↦ inl (All-contains (λ m. m ≡ 0) (replicate 256 0) n (All-replicate (λ m. m ≡ 0) 256 0 refl) x)
    ]

pub loop-number-init : goal.loop-number-init
loop-number-init c = λ n h. inl (c.in_ok-larger.ensures n h)

pub loop-number-preserved : goal.loop-number-preserved
loop-number-preserved c = elim c.if-number-ne0.branch [
  | then-number-ne0 w ↦ λ n h.
      let xs = c.deref-number-items.result.now in
      elim (w.put.ensures.numbers n (subst (λ (ys : List ℕ). Contains ys n) (ap (λ (v : Vec ℕ Global). v.items) w.larger-is ∙ take_front _ w.put.new.slots _ (w.put.ensures.size ∙ w.deref_mut.ensures.len)) h)) [
        | inl x ↦ inr (c.loop-number.number-index, omega arith, get_or_default xs c.loop-number.number-index n 0 (omega arith) ∙ sym x)
        | inr x ↦ c.loop-number.invariant n (subst (λ (ys : List ℕ). Contains ys n) w.deref_mut.ensures.value x)
      ]
  | else-number-ne0 w ↦ subst (λ (v : Vec ℕ Global). (n : ℕ) → Contains v.items n → (n ≡ 0) ⊎ Contains c.deref-number-items.result.now n) (sym w.larger-is) c.loop-number.invariant
]

pub returns-clause-numbers : goal.returns-clause-numbers
returns-clause-numbers c = λ n h. elim (c.loop-number.invariant n h) [
  | inl x ↦ inl x
  | inr x ↦ inr (subst (λ (xs : List ℕ). Contains xs n) c.deref-number-items.ensures.value x)
]

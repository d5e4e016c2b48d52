use Rattle.std.proofs.Common.{inl, inr, ℕ, List, Contains, ◌∙◌, subst}
use Rattle.wh_search.specs.declared.noted.Noted.{Noted}
use Rattle.wh_search.proofs.Kept.{take_front}
use Rattle.wh_search.proofs.noted.Noted.note.Goals as goal
use Rattle.wh_search.proofs.noted.Noted.note.Goals.{then-self-len+in_ok-grow, else-self-len}

pub returns-clause-numbers : goal.returns-clause-numbers
returns-clause-numbers c = λ n h. elim (c.put.ensures.numbers n (subst (λ (xs : List ℕ). Contains xs n) (take_front _ c.put.new.slots _ (c.put.ensures.size ∙ c.deref_mut.ensures.len)) h)) [
  | inl x ↦ inr (inl x)
  | inr x ↦ (let old : Contains c.if-self-len.self.slots.items n = subst (λ (xs : List ℕ). Contains xs n) c.deref_mut.ensures.value x in
      elim c.if-self-len.branch [
        | then-self-len+in_ok-grow w ↦ (elim (w.in_ok-grow.ensures.numbers n (subst (λ (v : Noted). Contains v.slots.items n) w.self-is old)) [ inl y ↦ inl y | inr y ↦ inr (inr y) ])
        | else-self-len w ↦ inr (inr (subst (λ (v : Noted). Contains v.slots.items n) w.self-is old))
      ])
]

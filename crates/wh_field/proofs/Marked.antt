-- the least number at the marked places
use Rattle.std.proofs.Common.{◌≡◌, ℕ, ◌<◌, ◌≤◌, inl, inr, List, [], ◌∷◌, ◌++◌, length, take, drop, sym, subst, Contains, arith}
use Rattle.std.proofs.lemmas.List.Elements.{All-push, All-weaker, All-contains, Contains-append_cases}
use Rattle.std.proofs.lemmas.List.{take-append-drop}
use Rattle.wh_field.specs.Tables.{blocked, value, HasMark, IsLeastAmong, IsLeastMet, IsListed}

-- one more place, which has no mark or no less number
pub least_stays : (marks : List ℕ) (mark : ℕ) (t places : List ℕ) (i n : ℕ) → (HasMark marks mark i → n ≤ value t i) → IsLeastAmong marks mark t places n → IsLeastAmong marks mark t (places ++ i ∷ []) n
least_stays marks mark t places i n more l = record {
  most = l.most;
  found = l.found;
  least = All-push (λ i. HasMark marks mark i → n ≤ value t i) places i l.least more;
}

-- one more place, which has the mark and a less number
pub least_falls : (marks : List ℕ) (mark : ℕ) (t places : List ℕ) (i n m : ℕ) → HasMark marks mark i → value t i ≡ m → m < n → IsLeastAmong marks mark t places n → IsLeastAmong marks mark t (places ++ i ∷ []) m
least_falls marks mark t places i n m has is less l =
    let most = l.most in
    record {
      most = omega arith;
      found = λ low. (i, has, is);
      least = All-push (λ i. HasMark marks mark i → m ≤ value t i) places i
          (All-weaker (λ i. HasMark marks mark i → n ≤ value t i) (λ i. HasMark marks mark i → m ≤ value t i) (λ k low h. let z = low h in omega arith) places l.least)
          (λ h. omega arith);
    }

-- where no marked place was met before, those of the new layer decide
pub least_on : (marks : List ℕ) (mark : ℕ) (t queue t' queue' : List ℕ) (old n : ℕ) → IsListed t queue → IsListed t' queue' → take (length queue) queue' ≡ queue → old ≡ blocked →
    IsLeastMet marks mark t old → IsLeastAmong marks mark t' (drop (length queue) queue') n → IsLeastMet marks mark t' n
least_on marks mark t queue t' queue' old n before now behind is met l = record {
  most = l.most;
  found = l.found;
  least = λ i has low.
      let whole : Contains (queue ++ drop (length queue) queue') i = subst (λ xs. Contains (xs ++ drop (length queue) queue') i) behind
      (subst (λ xs. Contains xs i) (sym (take-append-drop (length queue) queue')) (now.all_numbered i low)) in
      elim (Contains-append_cases queue (drop (length queue) queue') i whole) [
        | inl earlier ↦ absurd (
            let few = All-contains (λ k. value t k < blocked) queue i before.numbered earlier in
            let far = met.least i has few in
            omega arith
            )
        | inr later ↦ All-contains (λ i. HasMark marks mark i → n ≤ value t' i) (drop (length queue) queue') i l.least later has
      ];
}

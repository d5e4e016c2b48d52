-- the numbers of a set, after one is put in or taken out
use Rattle.std.proofs.Common.{◌≡◌, ◌≢◌, ℕ, ◌+◌, ◌-◌, ◌<◌, ◌≤◌, ◌⊎◌, ◌↔◌, inl, inr, List, ◌++◌, length, get_or, take, drop, ap, sym, ◌∙◌, arith}
use Rattle.std.specs.Prelude.{Contains}
use Rattle.std.proofs.Math.Seq.{take-append_seam}
use Rattle.std.proofs.lemmas.Bool.{cases_eq, cases_lt}
use Rattle.std.proofs.lemmas.List.{get_or-take, get_or_default, length-take, length-take-le}
use Rattle.wh_tasks.specs.NumberSets.{IsPlaced, AreSwapped}

-- what was written over a list of the same length is the list
pub written-whole : {X : Type 0} (new old : List X) (n : ℕ) → length new ≡ n → take n (new ++ drop (length new) old) ≡ new
written-whole new old n each = ap (λ k. take k (new ++ drop (length new) old)) (sym each) ∙ take-append_seam new (drop (length new) old)

-- a beginning of the numbers may be longer or shorter
pub placed-count : (numbers places : List ℕ) (count other : ℕ) → IsPlaced numbers places count → other ≤ length numbers → IsPlaced numbers places other
placed-count numbers places count other is within = record {
  within = within;
  each = is.each;
  below = is.below;
  place = is.place;
  placed = is.placed;
  number = is.number;
}

-- a number of the set is one whose place is among the first
pub member-place : (numbers places : List ℕ) (count n : ℕ) → IsPlaced numbers places count → Contains (take count numbers) n → (n < length numbers) × (get_or places n 0 < count)
member-place numbers places count n is has =
    let i = has.0 in
    let lt : i < count = rw (length-take-le count numbers is.within) at has.1 in
    let lt' : i < length numbers = let w = is.within in omega arith in
    let at : get_or numbers i 0 ≡ n = get_or_default numbers i 0 n lt' ∙ sym (get_or-take count numbers i n lt) ∙ has.2 in
    (rw at at (is.below i lt'), let e : get_or places n 0 ≡ i = rw at at (is.place i lt') in omega arith)

pub place-member : (numbers places : List ℕ) (count n : ℕ) → IsPlaced numbers places count → n < length numbers → get_or places n 0 < count → Contains (take count numbers) n
place-member numbers places count n is lt before =
    let k = get_or places n 0 in
    let lt' : k < length numbers = let w = is.within in omega arith in (
      k,
      rw (length-take-le count numbers is.within) before,
      get_or-take count numbers k n before ∙ get_or_default numbers k n 0 lt' ∙ is.number n (rw is.each lt),
    )

-- a number that is not in the set leaves one place more
pub more-fit : (numbers places : List ℕ) (count n : ℕ) → IsPlaced numbers places count → n < length numbers → ¬ Contains (take count numbers) n → count < length numbers
more-fit numbers places count n is lt none =
    let placed = is.placed n (rw is.each lt) in
    elim (cases_lt (get_or places n 0) count) [
      | inl before ↦ absurd (none (place-member numbers places count n is lt before))
      | inr after ↦ omega arith
    ]

-- numbers with one place are one number
one-number : (numbers places : List ℕ) (count m n : ℕ) → IsPlaced numbers places count → m < length numbers → n < length numbers → get_or places m 0 ≡ get_or places n 0 → m ≡ n
one-number numbers places count m n is m_lt n_lt same =
    sym (is.number m (rw is.each m_lt)) ∙ ap (λ k. get_or numbers k 0) same ∙ is.number n (rw is.each n_lt)

-- where a number stands after two have changed places
swapped-place : (numbers old : List ℕ) (number to : ℕ) (new : List ℕ) (n : ℕ) → AreSwapped numbers old number to new →
    ((n ≡ number) × (get_or new n 0 ≡ to)) ⊎ (((n ≢ number) × (n ≡ get_or numbers to 0) × (get_or new n 0 ≡ get_or old number 0)) ⊎ ((n ≢ number) × (n ≢ get_or numbers to 0) × (get_or new n 0 ≡ get_or old n 0)))
swapped-place numbers old number to new n s = elim (cases_eq n number) [
  | inl one ↦ inl (one, rw one s.there)
  | inr apart ↦ elim (cases_eq n (get_or numbers to 0)) [
    | inl other ↦ inr (inl (apart, other, rw other s.other))
    | inr free ↦ inr (inr (apart, free, s.others n apart free))
  ]
]

-- A number that was not in the set comes to the place after those of the set: then it and those of before are the set.
pub inserted : (numbers places numbers' places' : List ℕ) (count number : ℕ) → IsPlaced numbers places count → IsPlaced numbers' places' 0 → AreSwapped numbers places number count places' →
    number < length numbers → ¬ Contains (take count numbers) number → (n : ℕ) → Contains (take (count + 1) numbers') n ↔ (Contains (take count numbers) n ⊎ (n ≡ number))
inserted numbers places numbers' places' count number is is' s lt none =
    let fits = more-fit numbers places count number is lt none in
    let each : length numbers' ≡ length numbers = sym is'.each ∙ s.each ∙ is.each in
    let now = placed-count numbers' places' 0 (count + 1) is' (let h : count + 1 ≤ length numbers' = omega arith in h) in
    let other = get_or numbers count 0 in
    let other_lt = is.below count fits in
    let other_at : get_or places other 0 ≡ count = is.place count fits in
    let far : count ≤ get_or places number 0 = elim (cases_lt (get_or places number 0) count) [
      | inl before ↦ absurd (none (place-member numbers places count number is lt before))
      | inr after ↦ after
    ] in
    λ n. (
      λ has.
          let at = member-place numbers' places' (count + 1) n now has in
          let n_lt : n < length numbers = let h = at.0 in omega arith in
          elim (swapped-place numbers places number count places' n s) [
            | inl one ↦ inr one.0
            | inr rest ↦ elim rest [
              | inl moved ↦
                  let same : get_or places number 0 ≡ get_or places other 0 = let h = moved.2 in let k = at.1 in omega arith in
                  absurd (moved.0 (moved.1 ∙ sym (one-number numbers places count number other is lt other_lt same)))
              | inr stays ↦
                  let before : get_or places n 0 < count = elim (cases_eq (get_or places n 0) count) [
                    | inl same ↦ absurd (stays.1 (one-number numbers places count n other is n_lt other_lt (same ∙ sym other_at)))
                    | inr apart ↦ let h = stays.2 in let k = at.1 in omega arith
                  ] in
                  inl (place-member numbers places count n is n_lt before)
            ]
          ],
      λ was. elim was [
        | inl has ↦
            let at = member-place numbers places count n is has in
            let n_lt : n < length numbers' = let h = at.0 in omega arith in
            let before : get_or places' n 0 < count + 1 = elim (swapped-place numbers places number count places' n s) [
              | inl one ↦ let h = one.1 in omega arith
              | inr rest ↦ elim rest [
                | inl moved ↦
                    let h : get_or places n 0 ≡ count = ap (λ k. get_or places k 0) moved.1 ∙ other_at in
                    let k = at.1 in absurd (omega arith)
                | inr stays ↦ let h = stays.2 in let k = at.1 in omega arith
              ]
            ] in
            place-member numbers' places' (count + 1) n now n_lt before
        | inr one ↦
            let n_lt : n < length numbers' = rw (one, each) lt in
            let before : get_or places' n 0 < count + 1 = let h : get_or places' n 0 ≡ count = rw one s.there in omega arith in
            place-member numbers' places' (count + 1) n now n_lt before
      ],
    )

-- A number of the set comes to the last place of the set: then those before that place are the set without it.
taken : (numbers places numbers' places' : List ℕ) (count number : ℕ) → IsPlaced numbers places (count + 1) → IsPlaced numbers' places' 0 → AreSwapped numbers places number count places' →
    Contains (take (count + 1) numbers) number → (n : ℕ) → Contains (take count numbers') n ↔ (Contains (take (count + 1) numbers) n × (n ≢ number))
taken numbers places numbers' places' count number is is' s has_number =
    let own = member-place numbers places (count + 1) number is has_number in
    let fits : count < length numbers = let w = is.within in omega arith in
    let each : length numbers' ≡ length numbers = sym is'.each ∙ s.each ∙ is.each in
    let now = placed-count numbers' places' 0 count is' (let h : count ≤ length numbers' = omega arith in h) in
    let other = get_or numbers count 0 in
    let other_lt = is.below count fits in
    let other_at : get_or places other 0 ≡ count = is.place count fits in
    λ n. (
      λ has.
          let at = member-place numbers' places' count n now has in
          let n_lt : n < length numbers = let h = at.0 in omega arith in
          elim (swapped-place numbers places number count places' n s) [
            | inl one ↦ let h = one.1 in let k = at.1 in absurd (omega arith)
            | inr rest ↦ elim rest [
              | inl moved ↦
                  let before : get_or places n 0 < count + 1 = let h : get_or places n 0 ≡ count = ap (λ k. get_or places k 0) moved.1 ∙ other_at in omega arith in
                  (place-member numbers places (count + 1) n is n_lt before, moved.0)
              | inr stays ↦
                  let before : get_or places n 0 < count + 1 = let h = stays.2 in let k = at.1 in omega arith in
                  (place-member numbers places (count + 1) n is n_lt before, stays.0)
            ]
          ],
      λ was.
          let at = member-place numbers places (count + 1) n is was.0 in
          let n_lt : n < length numbers' = let h = at.0 in omega arith in
          let before : get_or places' n 0 < count = elim (swapped-place numbers places number count places' n s) [
            | inl one ↦ absurd (was.1 one.0)
            | inr rest ↦ elim rest [
              | inl moved ↦
                  let apart : get_or places number 0 ≢ count = λ same. moved.0 (moved.1 ∙ sym (one-number numbers places (count + 1) number other is own.0 other_lt (same ∙ sym other_at))) in
                  let h = moved.2 in let k = own.1 in omega arith
              | inr stays ↦
                  let apart : get_or places n 0 ≢ count = λ same. stays.1 (one-number numbers places (count + 1) n other is at.0 other_lt (same ∙ sym other_at)) in
                  let h = stays.2 in let k = at.1 in omega arith
            ]
          ] in
          place-member numbers' places' count n now n_lt before,
    )

pub removed : (numbers places numbers' places' : List ℕ) (count last number : ℕ) → last + 1 ≡ count → IsPlaced numbers places count → IsPlaced numbers' places' 0 → AreSwapped numbers places number last places' →
    Contains (take count numbers) number → (n : ℕ) → Contains (take last numbers') n ↔ (Contains (take count numbers) n × (n ≢ number))
removed numbers places numbers' places' count last number e is is' s has =
    rw (← e) (taken numbers places numbers' places' last number (rw (← e) at is) is' s (rw (← e) at has))

-- a set that has a number is not empty
pub some-member : (numbers : List ℕ) (count n : ℕ) → Contains (take count numbers) n → count - 1 + 1 ≡ count
some-member numbers count n has =
    let e = length-take count numbers in
    let lt = has.1 in
    omega arith

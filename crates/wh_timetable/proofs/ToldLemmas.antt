-- what stays tell of paths stays true
use Rattle.std.proofs.Common.{◌≡◌, ◌≢◌, refl, ℕ, ◌+◌, ◌-◌, ◌<◌, ◌≤◌, inl, inr, ◌∙◌, List, [], ◌∷◌, ◌++◌, length, map, min, set, get_or, sym, ap, subst, arith, get_or-set_same, get_or-set_other}
use Rattle.std.proofs.lemmas.Bool.{cases_lt, cases_eq}
use Rattle.std.proofs.lemmas.List.{get_or-map, length-map, length-set, length_push, get_or_push, get_or_append_left}
use Rattle.wh_grid.specs.declared.cell.Cell.{Cell}
use Rattle.wh_path.specs.Paths.{at, cell_at, last_index, path_of, advanced}
use Rattle.wh_path.proofs.AtLemmas.{at-advanced}
use Rattle.wh_timetable.specs.declared.stay.Stay.{Stay}
use Rattle.wh_timetable.specs.Stays.{endless, IsThere}
use Rattle.wh_timetable.specs.Places.{place, stays_for, AreSame, IsLeft, IsNoted}
use Rattle.wh_timetable.specs.Timetables.{IsAt, IsTold}

-- where a path is at a time it is at one of its cells
pub at_cell : (p : List Cell) (k : ℕ) → 1 ≤ length p → (j : ℕ) × (j < length p) × (cell_at p j ≡ at p k)
unfolding at
at_cell p k some = (min k (last_index p), omega arith, refl)

pub told_same : (clock : ℕ) (places new : List (List Stay)) → AreSame clock places new → (paths : List (List Cell)) → IsTold (record { clock = clock; places = places }) paths → IsTold (record { clock = clock; places = new }) paths
told_same clock places new same paths told = record {
  early = told.early;
  short = told.short;
  exact = λ i c t late soon. (
    λ there. (told.exact i c t late soon).0 ((same i c t late).0 there),
    λ is. (same i c t late).1 ((told.exact i c t late soon).1 is),
  );
}

pub told_nothing : (clock : ℕ) (places : List (List Stay)) → clock < endless → ((p : ℕ) → get_or places p [] ≡ []) → IsTold (record { clock = clock; places = places }) []
told_nothing clock places early none = record {
  early = early;
  short = λ i h. absurd (omega arith);
  exact = λ i c t late soon. (
    λ there. absurd (let b : IsThere [] i c t = subst (λ (stays : List Stay). IsThere stays i c t) (none (place (length places) c)) there in let w = b.within in omega arith),
    λ is. absurd (let h = is.known in omega arith),
  );
}

pub last_advanced : (p : List Cell) → last_index (advanced p) ≡ last_index p - 1
last_advanced [] = refl
last_advanced (only ∷ []) = refl
last_advanced (first ∷ next ∷ rest) = omega arith

-- one step of time
pub told_later : (clock : ℕ) (places : List (List Stay)) (paths : List (List Cell)) → clock + 1 < endless → IsTold (record { clock = clock; places = places }) paths → IsTold (record { clock = clock + 1; places = places }) (map advanced paths)
told_later clock places paths early told =
    let all = map advanced paths in
    let known : (i : ℕ) → i < length all → i < length paths = λ i h. rw length-map at h in
    let each : (i : ℕ) → i < length paths → path_of all i ≡ advanced (path_of paths i) = λ i h. get_or-map advanced paths i [] [] h in
    record {
      early = early;
      short = λ i h. let b = known i h in
          subst (λ (p : List Cell). clock + 1 + last_index p < endless) (sym (each i b)) (omega (arith, told.short i b, last_advanced (path_of paths i)));
      exact = λ i c t late soon.
          let k = t - (clock + 1) in
          let x = told.exact i c t (omega arith) soon in
          let next : k + 1 ≡ t - clock = omega arith in
          let same : (b : i < length paths) → at (path_of all i) k ≡ at (path_of paths i) (t - clock) =
          λ b. ap (λ (p : List Cell). at p k) (each i b) ∙ at-advanced (path_of paths i) k ∙ ap (at (path_of paths i)) next in (
            λ there. (let is = x.0 there in let b = is.known in record { known = rw length-map b; there = same b ∙ is.there }),
            λ is. (let b = known i is.known in x.1 (record { known = b; there = sym (same b) ∙ is.there })),
          );
    }

module _ (clock : ℕ) (paths : List (List Cell)) (places : List (List Stay)) (told : IsTold (record { clock = clock; places = places }) paths)
    (agent : ℕ) (path : List Cell) (short : clock + last_index path < endless) where
  pub told_added : agent ≡ length paths → (new : List (List Stay)) → IsNoted path agent clock endless places new → IsTold (record { clock = clock; places = new }) (paths ++ path ∷ [])
  told_added e new noted =
      let all = paths ++ path ∷ [] in
      let count : length all ≡ length paths + 1 = length_push paths path in
      let old : (i : ℕ) → i < length paths → path_of all i ≡ path_of paths i = λ i h. get_or_append_left paths (path ∷ []) [] i h in
      let own : (i : ℕ) → i ≡ agent → path_of all i ≡ path = λ i s. get_or_push paths path [] i (sym e ∙ sym s) in
      record {
        early = told.early;
        short = λ i h. elim (cases_lt i (length paths)) [
          | inl b ↦ subst (λ (p : List Cell). clock + last_index p < endless) (sym (old i b)) (told.short i b)
          | inr b ↦ subst (λ (p : List Cell). clock + last_index p < endless) (sym (own i (omega arith))) short
        ];
        exact = λ i c t late soon.
            let n = noted i c t late in
            let x = told.exact i c t late soon in
            let k = t - clock in (
              λ there. elim (n.0 there) [
                | inl was ↦ (let is = x.0 was in let h = is.known in record { known = omega arith; there = ap (λ (p : List Cell). at p k) (old i h) ∙ is.there })
                | inr p ↦ (let who = p.who in record { known = omega arith; there = ap (λ (p : List Cell). at p k) (own i who) ∙ p.there })
              ],
              λ is. (let h = is.known in elim (cases_lt i (length paths)) [
                | inl b ↦ n.1 (inl (x.1 (record { known = b; there = sym (ap (λ (p : List Cell). at p k) (old i b)) ∙ is.there })))
                | inr b ↦ (let who : i ≡ agent = omega arith in
                    n.1 (inr (record { who = who; soon = soon; there = sym (ap (λ (p : List Cell). at p k) (own i who)) ∙ is.there })))
              ]),
            );
      }

  module _ (known : agent < length paths) (some : 1 ≤ length (path_of paths agent)) (left : List (List Stay)) (parts : IsLeft agent clock places left)
      (gone : (k t : ℕ) → k < length (path_of paths agent) → clock ≤ t → IsThere (stays_for left (cell_at (path_of paths agent) k)) agent (cell_at (path_of paths agent) k) t → ⊥) where
    -- only others are left
    left_is : (i : ℕ) (c : Cell) (t : ℕ) → clock ≤ t → t < endless → IsThere (stays_for left c) i c t → (i ≢ agent) × IsAt paths i c (t - clock)
    left_is i c t late soon there = elim (cases_eq i agent) [
      | inl e ↦ absurd (
          let own : IsThere (stays_for left c) agent c t = subst (λ j. IsThere (stays_for left c) j c t) e there in
          let is = (told.exact agent c t late soon).0 (parts.fewer c t late own) in
          let cell = at_cell (path_of paths agent) (t - clock) some in
          gone cell.0 t cell.1 late (subst (λ (d : Cell). IsThere (stays_for left d) agent d t) (sym (cell.2 ∙ is.there)) own))
      | inr ne ↦ (ne, (told.exact i c t late soon).0 ((parts.others i c t late ne).0 there))
    ]

    is_left : (i : ℕ) (c : Cell) (t : ℕ) → clock ≤ t → t < endless → i ≢ agent → IsAt paths i c (t - clock) → IsThere (stays_for left c) i c t
    is_left i c t late soon ne is = (parts.others i c t late ne).1 ((told.exact i c t late soon).1 is)

    pub told_changed : (new : List (List Stay)) → IsNoted path agent clock endless left new → IsTold (record { clock = clock; places = new }) (set paths agent path)
    told_changed new noted =
        let all = set paths agent path in
        let count : length all ≡ length paths = length-set paths agent path in
        let old : (i : ℕ) → i ≢ agent → path_of all i ≡ path_of paths i = λ i ne. get_or-set_other paths agent i path [] ne in
        let own : (i : ℕ) → i ≡ agent → path_of all i ≡ path = λ i e. ap (path_of all) e ∙ get_or-set_same paths agent path [] known in
        record {
          early = told.early;
          short = λ i h. elim (cases_eq i agent) [
            | inl e ↦ subst (λ (p : List Cell). clock + last_index p < endless) (sym (own i e)) short
            | inr ne ↦ subst (λ (p : List Cell). clock + last_index p < endless) (sym (old i ne)) (told.short i (omega arith))
          ];
          exact = λ i c t late soon.
              let n = noted i c t late in
              let k = t - clock in (
                λ there. elim (n.0 there) [
                  | inl was ↦ (let is = left_is i c t late soon was in let h = is.1.known in
                      record { known = omega arith; there = ap (λ (p : List Cell). at p k) (old i is.0) ∙ is.1.there })
                  | inr p ↦ (let who = p.who in record { known = omega arith; there = ap (λ (p : List Cell). at p k) (own i who) ∙ p.there })
                ],
                λ is. (let h = is.known in elim (cases_eq i agent) [
                  | inl who ↦ n.1 (inr (record { who = who; soon = soon; there = sym (ap (λ (p : List Cell). at p k) (own i who)) ∙ is.there }))
                  | inr ne ↦ n.1 (inl (is_left i c t late soon ne (record { known = omega arith; there = sym (ap (λ (p : List Cell). at p k) (old i ne)) ∙ is.there })))
                ]),
              );
        }

-- what the stays at a place tell of the others' paths
use Rattle.std.proofs.Common.{◌≡◌, ◌≢◌, refl, ℕ, ◌+◌, ◌-◌, ◌<◌, ◌≤◌, ◌↔◌, inl, inr, ◌∙◌, List, [], length, All, remove, sym, ap, subst, arith}
use Rattle.std.proofs.lemmas.Bool.{cases_lt}
use Rattle.std.proofs.lemmas.List.{get_or_default}
use Rattle.wh_grid.specs.declared.cell.Cell.{Cell}
use Rattle.wh_grid.proofs.Removed.{all_removed-from, all_removed-at}
use Rattle.wh_path.specs.Paths.{at, path_of}
use Rattle.wh_path.proofs.AtLemmas.{at-rests}
use Rattle.wh_timetable.specs.declared.stay.Stay.{Stay}
use Rattle.wh_timetable.specs.Stays.{endless, stay_at, IsThere}
use Rattle.wh_timetable.specs.Places.{stays_for}
use Rattle.wh_timetable.specs.Timetables.{Noted, IsAt, IsTold, time}
use Rattle.wh_resv.specs.Calls.{IsVacant, NoneExchanges}
use Rattle.wh_resv.specs.Others.{StaysAway}
use Rattle.wh_resv.specs.Questions.{IsLastFree, IsTakenUntil, IsNeverFree}
use Rattle.wh_resv.specs.Looks.{IsOthers, IsDuring, IsFreeFor, IsEndAt, IsNextStart, IsLastEnd, Bars}

-- none of the others is there
pub vacant_from : (paths : List (List Cell)) (except : ℕ) (c : Cell) (k : ℕ) → ((i : ℕ) → i ≢ except → IsAt paths i c k → ⊥) → IsVacant (remove paths except) c k
vacant_from paths except c k none =
    all_removed-from (λ q. at q k ≢ c) paths except
    (λ i d b ne here. none i ne (record { known = b; there = ap (λ (q : List Cell). at q k) (sym (get_or_default paths i d [] b)) ∙ here }))

pub vacant_at : (paths : List (List Cell)) (except : ℕ) (c : Cell) (k : ℕ) → IsVacant (remove paths except) c k → (i : ℕ) → i ≢ except → IsAt paths i c k → ⊥
vacant_at paths except c k v i ne is = all_removed-at (λ q. at q k ≢ c) paths except i [] v is.known ne is.there

-- none of the others goes from the second cell to the first
pub open_from : (paths : List (List Cell)) (except : ℕ) (from to : Cell) (k : ℕ) → ((i : ℕ) → i ≢ except → IsAt paths i to k → at (path_of paths i) (k + 1) ≡ from → ⊥) → NoneExchanges (remove paths except) from to k
open_from paths except from to k none =
    all_removed-from (λ q. at q k ≡ to → at q (k + 1) ≢ from) paths except
    (λ i d b ne here then. let same = sym (get_or_default paths i d [] b) in
    none i ne (record { known = b; there = ap (λ (q : List Cell). at q k) same ∙ here }) (ap (λ (q : List Cell). at q (k + 1)) same ∙ then))

pub open_at : (paths : List (List Cell)) (except : ℕ) (from to : Cell) (k : ℕ) → NoneExchanges (remove paths except) from to k → (i : ℕ) → i ≢ except → IsAt paths i to k → at (path_of paths i) (k + 1) ≡ from → ⊥
open_at paths except from to k v i ne here then = all_removed-at (λ q. at q k ≡ to → at q (k + 1) ≢ from) paths except i [] v here.known ne here.there then

-- times grow
pub time_grows : (clock j k : ℕ) → j ≤ k → time clock j ≤ time clock k
time_grows clock j k h = omega arith

module _ (noted : Noted) (paths : List (List Cell)) (told : IsTold noted paths) (except : ℕ) (c : Cell) where
  abbrev stays : List Stay
  stays = stays_for noted.places c

  abbrev clock : ℕ
  clock = noted.clock

  -- a path is at one cell at time k and at the stays' time
  same_time : (i k : ℕ) → i < length paths → at (path_of paths i) (time clock k - clock) ≡ at (path_of paths i) k
  same_time i k h = elim (cases_lt (clock + k) endless) [
    | inl b ↦ ap (at (path_of paths i)) (omega arith)
    | inr b ↦ (let early = told.early in let short = told.short i h in at-rests (path_of paths i) (time clock k - clock) k (omega arith) (omega arith))
  ]

  pub there_at : (i k : ℕ) → IsThere stays i c (time clock k) → IsAt paths i c k
  there_at i k there =
      let early = told.early in
      let is = (told.exact i c (time clock k) (omega arith) (omega arith)).0 there in
      record { known = is.known; there = sym (same_time i k is.known) ∙ is.there }

  pub at_there : (i k : ℕ) → IsAt paths i c k → IsThere stays i c (time clock k)
  at_there i k is =
      let early = told.early in
      (told.exact i c (time clock k) (omega arith) (omega arith)).1 (record { known = is.known; there = same_time i k is.known ∙ is.there })

  -- by a stay of another somebody is there
  pub others_at : (j k : ℕ) → j < length stays → IsOthers (stay_at stays j) except c → IsDuring (stay_at stays j) (time clock k) → IsAt paths (stay_at stays j).agent c k
  others_at j k h others during =
      there_at (stay_at stays j).agent k (record { place = j; within = h; by = record { who = refl; here = others.here; since = during.since; still = during.still } })

  -- who is there is there by a stay of another
  pub by_stay : (R : Type 0) (i k : ℕ) → i ≢ except → IsAt paths i c k → ((j : ℕ) → j < length stays → (stay_at stays j).agent ≡ i → IsOthers (stay_at stays j) except c → IsDuring (stay_at stays j) (time clock k) → R) → R
  by_stay R i k ne is go =
      let there = at_there i k is in
      let by = there.by in
      let since = by.since in
      let still = by.still in
      go there.place there.within by.who (record { other = λ e. ne (sym by.who ∙ e); here = by.here; lasting = omega arith }) (record { since = since; still = still })

  pub free_vacant : (k : ℕ) → IsFreeFor stays except c (time clock k) → IsVacant (remove paths except) c k
  free_vacant k free = vacant_from paths except c k (λ i ne is. by_stay ⊥ i k ne is (λ j h who others during. free j h others during))

  pub vacant_free : (k : ℕ) → IsVacant (remove paths except) c k → IsFreeFor stays except c (time clock k)
  vacant_free k v j h others during = vacant_at paths except c k v (stay_at stays j).agent others.other (others_at j k h others during)

  -- up to a stay's end somebody is there
  pub taken_to : (k end : ℕ) → IsEndAt stays except c (time clock k) end → end < endless → IsTakenUntil (remove paths except) c k (end - clock)
  taken_to k end at finite =
      let since = at.during.since in
      let still = at.during.still in
      let over = at.over in
      let early = told.early in
      record {
        from = omega arith;
        taken = λ j late soon v. vacant_free j v at.place at.within at.others (record { since = (let grows = time_grows clock k j late in omega arith); still = omega arith });
        vacant = λ e. absurd (omega arith);
      }

  pub taken_always : (k : ℕ) → IsEndAt stays except c (time clock k) endless → IsNeverFree (remove paths except) c k
  taken_always k at j late v = vacant_free j v at.place at.within at.others (record {
    since = (let since = at.during.since in let grows = time_grows clock k j late in omega arith);
    still = subst (λ n. time clock j < n) (sym at.over) (omega arith);
  })

  pub taken_not : (k : ℕ) → IsFreeFor stays except c (time clock k) → IsTakenUntil (remove paths except) c k k
  taken_not k free = record { from = omega arith; taken = λ j late soon v. absurd (omega arith); vacant = λ e. free_vacant k free }

  -- none of the others is there from time k on
  all_away : (k : ℕ) → ((j : ℕ) → k ≤ j → IsVacant (remove paths except) c j) → All (λ q. StaysAway q c k) (remove paths except)
  all_away k v = λ n d h. record { away = λ j le. v j le n d h }

  pub away_all : (k : ℕ) → All (λ q. StaysAway q c k) (remove paths except) → (j : ℕ) → k ≤ j → IsVacant (remove paths except) c j
  away_all k a j le = λ n d h. (a n d h).away j le

  -- where nobody is at time k, nobody is before the next stay begins
  free_before : (k start : ℕ) → IsVacant (remove paths except) c k → IsNextStart stays except c (time clock k) start → (j : ℕ) → k ≤ j → time clock j < start → IsVacant (remove paths except) c j
  free_before k start v next j late soon =
      let grows = time_grows clock k j late in
      free_vacant j (λ n h others during. elim (cases_lt (time clock k) (stay_at stays n).from) [
        | inl later ↦ (let least = next.least n h others later in let since = during.since in omega arith)
        | inr before ↦ (let still = during.still in vacant_free k v n h others (record { since = before; still = omega arith }))
      ])

  pub until_start : (k start : ℕ) → IsVacant (remove paths except) c k → IsNextStart stays except c (time clock k) start → start ≢ endless → IsLastFree (remove paths except) c k (start - 1 - clock)
  until_start k start v next finite = elim next.one [
    | inl e ↦ absurd (finite e)
    | inr one ↦ (
        let j = one.0 in
        let h = one.1 in
        let others = one.2 in
        let later = one.3 in
        let begins = one.4 in
        let bound = next.bound in
        let lasting = others.lasting in
        let early = told.early in
        let last = start - 1 - clock in
        record {
          from = omega arith;
          clear = record { vacant = λ i from to. free_before k start v next i from (omega arith) };
          taken = λ free. vacant_free (last + 1) free j h others (record { since = omega arith; still = (let l : start < (stay_at stays j).until = subst (λ n. n < (stay_at stays j).until) begins lasting in omega arith) });
        })
  ]

  pub ever_free : (k start : ℕ) → IsVacant (remove paths except) c k → IsNextStart stays except c (time clock k) start → start ≡ endless → All (λ q. StaysAway q c k) (remove paths except)
  ever_free k start v next e = all_away k (λ j late. free_before k start v next j late (subst (λ n. time clock j < n) (sym e) (omega arith)))

  pub since_end : (end : ℕ) → IsLastEnd stays except c end → end < endless → (k : ℕ) → All (λ q. StaysAway q c k) (remove paths except) ↔ end - clock ≤ k
  since_end end last finite k = (
    λ away. elim (cases_lt k (end - clock)) [
      | inl b ↦ elim last.one [
        | inl z ↦ absurd (omega arith)
        | inr one ↦ absurd (
            let j = one.0 in
            let others = one.2 in
            let ends = one.3 in
            let lasting = others.lasting in
            let m = end - clock - 1 in
            vacant_free m (away_all k away m (omega arith)) j one.1 others (record { since = omega arith; still = omega arith }))
      ]
      | inr b ↦ b
    ],
    λ late. all_away k (λ j from. free_vacant j (λ n h others during. let most = last.most n h others in let still = during.still in omega arith)),
  )

  pub never_ends : IsLastEnd stays except c endless → (k : ℕ) → All (λ q. StaysAway q c k) (remove paths except) → ⊥
  never_ends last k away = elim last.one [
    | inl z ↦ absurd (omega arith)
    | inr one ↦ (
        let j = one.0 in
        let others = one.2 in
        let ends = one.3 in
        let lasting = others.lasting in
        let m = k + endless in
        vacant_free m (away_all k away m (omega arith)) j one.1 others (record { since = omega arith; still = omega arith }))
  ]

-- what the stays at the place of a cell tell of who bars the way there
module _ (noted : Noted) (paths : List (List Cell)) (told : IsTold noted paths) (except : ℕ) (from to : Cell) (k : ℕ)
    (list : List Stay) (same : list ≡ stays_for noted.places to) (now next : ℕ) (now_is : now ≡ time noted.clock k) (next_is : next ≡ time noted.clock (k + 1)) where
  abbrev IsOpen : Type 0
  IsOpen = IsVacant (remove paths except) to (k + 1) × NoneExchanges (remove paths except) from to k

  -- at whichever list and times, if at those that are told
  moved : (P : List Stay → ℕ → ℕ → Type 0) → P (stays_for noted.places to) (time noted.clock k) (time noted.clock (k + 1)) → P list now next
  moved P x = subst (λ l. P l now next) (sym same) (subst (λ n. P (stays_for noted.places to) n next) (sym now_is) (subst (P (stays_for noted.places to) (time noted.clock k)) (sym next_is) x))

  pub agent_known : (j : ℕ) → j < length list → IsOthers (stay_at list j) except to → IsDuring (stay_at list j) now → (stay_at list j).agent < length paths
  agent_known = moved (λ l n m. (j : ℕ) → j < length l → IsOthers (stay_at l j) except to → IsDuring (stay_at l j) n → (stay_at l j).agent < length paths)
      (λ j h others during. (others_at noted paths told except to j k h others during).known)

  pub bars_not : (j : ℕ) → j < length list → Bars paths (stay_at list j) except from to k now next → IsOpen → ⊥
  bars_not = moved (λ l n m. (j : ℕ) → j < length l → Bars paths (stay_at l j) except from to k n m → IsOpen → ⊥)
      (λ j h bars free.
      let others = bars.0 in
      elim bars.1 [
        | inl during ↦ vacant_free noted paths told except to (k + 1) free.0 j h others during
        | inr leaves ↦ open_at paths except from to k free.1 (stay_at (stays_for noted.places to) j).agent others.other (others_at noted paths told except to j k h others leaves.0) leaves.1
      ])

  pub none_bars : ((j : ℕ) → j < length list → Bars paths (stay_at list j) except from to k now next → ⊥) → IsOpen
  none_bars = moved (λ l n m. ((j : ℕ) → j < length l → Bars paths (stay_at l j) except from to k n m → ⊥) → IsOpen)
      (λ none. (
        vacant_from paths except to (k + 1) (λ i ne is. by_stay noted paths told except to ⊥ i (k + 1) ne is (λ j h who others during. none j h (others, inl during))),
        open_from paths except from to k (λ i ne is then. by_stay noted paths told except to ⊥ i k ne is (λ j h who others during.
            none j h (others, inr (during, ap (λ n. at (path_of paths n) (k + 1)) who ∙ then)))),
      ))

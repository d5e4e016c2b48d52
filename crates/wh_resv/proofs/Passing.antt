-- which of the stays at a place bar the way there, and when the next of them begins
use Rattle.std.proofs.Common.{◌≡◌, ◌≢◌, ℕ, ◌+◌, ◌-◌, ◌<◌, ◌≤◌, ◌⊎◌, ◌∙◌, inl, inr, List, length, min, sym, subst, remove, arith}
use Rattle.std.proofs.lemmas.Bool.{cases_lt}
use Rattle.wh_grid.specs.declared.cell.Cell.{Cell}
use Rattle.wh_timetable.specs.declared.stay.Stay.{Stay}
use Rattle.wh_timetable.specs.Stays.{endless, stay_at}
use Rattle.wh_timetable.specs.Places.{stays_for}
use Rattle.wh_timetable.specs.Timetables.{Noted, IsTold, time}
use Rattle.wh_resv.specs.Calls.{IsVacant}
use Rattle.wh_resv.specs.Looks.{IsOthers, IsNextStart, Bars}
use Rattle.wh_resv.specs.Questions.{IsFreeWithin}
use Rattle.wh_resv.proofs.Telling.{until_start, ever_free, away_all}

-- none of the first n stays bars the way, and the start is the first time after the second one at which one of them, of another at the cell, begins
pub record IsPassed (paths : List (List Cell)) (stays : List Stay) (except : ℕ) (from to : Cell) (k now next n start : ℕ) : Type 0 where
  pub passes : (j : ℕ) → j < n → Bars paths (stay_at stays j) except from to k now next → ⊥
  pub least : (j : ℕ) → j < n → IsOthers (stay_at stays j) except to → next < (stay_at stays j).from → start ≤ (stay_at stays j).from
  pub bound : start ≤ endless
  pub one : (start ≡ endless) ⊎ ((j : ℕ) × (j < n) × IsOthers (stay_at stays j) except to × (next < start) × ((stay_at stays j).from ≡ start))

module _ (paths : List (List Cell)) (stays : List Stay) (except : ℕ) (from to : Cell) (k now next n start then : ℕ) (before : IsPassed paths stays except from to k now next n start) where
  -- one more that does not bar the way, and begins no sooner than then if it begins later
  passed_next : (Bars paths (stay_at stays n) except from to k now next → ⊥) → (IsOthers (stay_at stays n) except to → next < (stay_at stays n).from → then ≤ (stay_at stays n).from) → then ≤ start
      → ((then ≡ start) ⊎ (IsOthers (stay_at stays n) except to × (next < then) × ((stay_at stays n).from ≡ then))) → IsPassed paths stays except from to k now next (n + 1) then
  passed_next passes least lower one =
      let bound = before.bound in
      let At : ℕ → Stay = stay_at stays in
      record {
        passes = λ j h bars. elim (cases_lt j n) [ inl b ↦ before.passes j b bars | inr b ↦ (let e : j ≡ n = omega arith in passes (subst (λ (i : ℕ). Bars paths (At i) except from to k now next) e bars)) ];
        least = λ j h others late. elim (cases_lt j n) [
          | inl b ↦ (let l = before.least j b others late in omega arith)
          | inr b ↦ (let e : j ≡ n = omega arith in subst (λ (i : ℕ). then ≤ (At i).from) (sym e) (least (subst (λ (i : ℕ). IsOthers (At i) except to) e others) (subst (λ (i : ℕ). next < (At i).from) e late)))
        ];
        bound = omega arith;
        one = elim one [
          | inl same ↦ elim before.one [
            | inl e ↦ inl (same ∙ e)
            | inr o ↦ inr (o.0, omega (arith, o.1), o.2, omega (arith, o.3), o.4 ∙ sym same)
          ]
          | inr o ↦ inr (n, omega arith, o.0, o.1, o.2)
        ];
      }

  -- it is another's at another cell, or over
  pub passed_over : (IsOthers (stay_at stays n) except to → now < (stay_at stays n).until → ⊥) → now ≤ next → then ≡ start → IsPassed paths stays except from to k now next (n + 1) then
  passed_over over grows same =
      passed_next (λ bars. over bars.0 (elim bars.1 [ inl d ↦ (let still = d.still in omega arith) | inr d ↦ (let still = d.0.still in omega arith) ]))
      (λ others late. absurd (over others (let lasting = others.lasting in omega arith))) (omega arith) (inl same)

  -- it begins later
  pub passed_later : IsOthers (stay_at stays n) except to → next < (stay_at stays n).from → now ≤ next → then ≡ min start (stay_at stays n).from → IsPassed paths stays except from to k now next (n + 1) then
  passed_later others late grows least =
      passed_next (λ bars. elim bars.1 [ inl d ↦ (let since = d.since in omega arith) | inr d ↦ (let since = d.0.since in omega arith) ]) (λ o l. omega arith) (omega arith)
      (elim (cases_lt (stay_at stays n).from start) [ inl b ↦ inr (others, omega arith, omega arith) | inr b ↦ inl (omega arith) ])

  -- it has begun, and does not bar the way
  pub passed_by : (stay_at stays n).from ≤ next → (Bars paths (stay_at stays n) except from to k now next → ⊥) → then ≡ start → IsPassed paths stays except from to k now next (n + 1) then
  passed_by begun passes same = passed_next passes (λ o l. absurd (omega arith)) (omega arith) (inl same)

-- all of them are passed
pub next_start_of : (paths : List (List Cell)) (stays : List Stay) (except : ℕ) (from to : Cell) (k now next n start : ℕ) → n ≡ length stays → IsPassed paths stays except from to k now next n start → IsNextStart stays except to next start
next_start_of paths stays except from to k now next n start all p =
    record {
      least = λ j h others late. p.least j (omega arith) others late;
      bound = p.bound;
      one = elim p.one [ inl e ↦ inl e | inr o ↦ inr (o.0, omega (arith, o.1), o.2, o.3, o.4) ];
    }

module _ (noted : Noted) (paths : List (List Cell)) (told : IsTold noted paths) (except : ℕ) (c : Cell) (k limit : ℕ) where
  -- up to the next start the cell is free, as far as the limit
  pub within_start : (start : ℕ) → k ≤ limit → IsVacant (remove paths except) c k → IsNextStart (stays_for noted.places c) except c (time noted.clock k) start → start ≢ endless → IsFreeWithin (remove paths except) c k limit (min (start - 1 - noted.clock) limit)
  within_start start small v next finite =
      let free = until_start noted paths told except c k start v next finite in
      let from = free.from in
      record {
        from = omega arith;
        in_time = omega arith;
        clear = record { vacant = λ j late soon. free.clear.vacant j late (omega arith) };
        taken = λ short. (let e : min (start - 1 - noted.clock) limit ≡ start - 1 - noted.clock = omega arith in subst (λ (n : ℕ). IsVacant (remove paths except) c (n + 1) → ⊥) (sym e) free.taken);
      }

  pub within_ever : (start : ℕ) → k ≤ limit → IsVacant (remove paths except) c k → IsNextStart (stays_for noted.places c) except c (time noted.clock k) start → start ≡ endless → IsFreeWithin (remove paths except) c k limit limit
  within_ever start small v next ever =
      let away = ever_free noted paths told except c k start v next ever in
      record {
        from = small;
        in_time = omega arith;
        clear = record { vacant = λ j late soon. away_all noted paths told except c k away j late };
        taken = λ short. absurd (omega arith);
      }

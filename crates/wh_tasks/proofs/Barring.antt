-- which ends bar which tasks, after each change
use Rattle.std.proofs.Common.{◌≡◌, ◌≢◌, ℕ, ◌<◌, ◌≤◌, ◌⊎◌, inl, inr, List, Option, Some, None, length, get_or, ap, sym, ◌∙◌, refl, subst, arith}
use Prim.Native.Nat.{suc}
use Rattle.std.specs.Prelude.{Contains, IfSome, IfNone, ◌↔◌}
use Rattle.std.proofs.Math.ListN.{set}
use Rattle.std.proofs.lemmas.Bool.{cases_eq, cases_lt}
use Rattle.std.proofs.lemmas.Option.{same_Some, slice_get_within, slice_get-get_or}
use Rattle.std.proofs.lemmas.List.{get_or_default, get_or-set_same, get_or-set_other, length-set}
use Rattle.std.proofs.lemmas.List.Elements.{Contains-get_or}
use Rattle.wh_grid.specs.declared.cell.Cell.{Cell}
use Rattle.wh_grid.proofs.Pigeons.{cell_cases}
use Rattle.wh_tasks.specs.declared.task.Task.{Task}
use Rattle.wh_tasks.specs.declared.cell_lists.Stop.{Stop}
use Rattle.wh_tasks.specs.Tasks.{IsTask, IsOpen}
use Rattle.wh_tasks.specs.CellLists.{StandsAt, listed, IsLastBelow, NoneBelow}
use Rattle.wh_tasks.specs.Sets.{AreListed}
use Rattle.wh_tasks.specs.Bars.{bar_of, AreClear, AreBars, AreOpenStops, AreBarredAt, AreBarsBut}
use Rattle.wh_tasks.proofs.Choosing.{same-task}
use Rattle.wh_tasks.proofs.Barred.{some-holds}
use Rattle.wh_tasks.proofs.Walking.{stands-one, bound_of, none-between}
use Rattle.wh_tasks.proofs.Listing.{stop-listed, stands-stop}
use Rattle.wh_tasks.proofs.Visiting.{option_cases}

-- the bar of a number after a write: the one written, or that of before
bar-set : (bars : List (Option Cell)) (n m : ℕ) (v : Option Cell) → n < length bars →
    ((m ≡ n) × (bar_of (set bars n v) m ≡ v)) ⊎ ((m ≢ n) × (bar_of (set bars n v) m ≡ bar_of bars m))
bar-set bars n m v lt = elim (cases_eq m n) [
  | inl same ↦ inl (same, rw same (get_or-set_same bars n v None lt))
  | inr apart ↦ inr (apart, get_or-set_other bars n m v None apart)
]

-- an end that is not the one which changes stays
pub end-stays : (cells : List Cell) (agent : ℕ) (own new bar : Cell) → agent < length cells → get_or cells agent own ≡ own → Contains cells bar → bar ≢ own →
    Contains (set cells agent new) bar
end-stays cells agent own new bar lt at has not_own = elim (cases_eq has.0 agent) [
  | inl same ↦ absurd (not_own (sym (rw same at has.2) ∙ get_or_default cells agent bar own lt ∙ at))
  | inr apart ↦ (has.0, rw length-set has.1, get_or-set_other cells agent has.0 new bar apart ∙ has.2)
]

-- the same while the stops from this number on were looked at: only their tasks need have a bar
pub record AreBarredSince (stops : List Stop) (cell : Cell) (from : ℕ) (old new : List (Option Cell)) (was clear : List ℕ) : Type 0 where
  pub each : length new ≡ length old
  pub kept : (n : ℕ) (bar : Cell) → bar_of old n ≡ Some bar → bar_of new n ≡ Some bar
  pub barred : (n : ℕ) → bar_of old n ≡ None → (bar_of new n ≡ None) ⊎ ((bar_of new n ≡ Some cell) × ((k : ℕ) × StandsAt stops k n cell))
  pub done : (k n : ℕ) → from ≤ k → StandsAt stops k n cell → bar_of new n ≢ None
  pub clear_are : (n : ℕ) → Contains clear n ↔ (Contains was n × (bar_of new n ≡ None))

-- at the start of a walk no bar has changed
pub barred-start : (stops : List Stop) (cell : Cell) (at : Option ℕ) (bars : List (Option Cell)) (clear : List ℕ) → IfSome at (λ k. IsLastBelow stops cell (length stops) k) → IfNone at (NoneBelow stops cell (length stops)) →
    ((n : ℕ) → Contains clear n → bar_of bars n ≡ None) → AreBarredSince stops cell (bound_of at) bars bars clear clear
barred-start stops cell at bars clear some none only = record {
  each = refl;
  kept = λ n bar is. is;
  barred = λ n is. inl is;
  done = λ k n after stands _. none-between stops cell (length stops) at some none k n after (slice_get_within stops k (listed n cell) stands) stands;
  clear_are = λ n. (λ has. (has, only n has), λ h. h.0);
}

-- and one step on, where the task of the stop has no bar
pub barred-step : (stops : List Stop) (cell : Cell) (k n : ℕ) (old bars : List (Option Cell)) (was clear clear' : List ℕ) → StandsAt stops k n cell → n < length bars → bar_of bars n ≡ None →
    ((m : ℕ) → Contains clear' m ↔ (Contains clear m × (m ≢ n))) → AreBarredSince stops cell (suc k) old bars was clear → AreBarredSince stops cell k old (set bars n (Some cell)) was clear'
barred-step stops cell k n old bars was clear clear' stands lt free less s = record {
  each = length-set bars n (Some cell) ∙ s.each;
  kept = λ m bar is. elim (bar-set bars n m (Some cell) lt) [
    | inl new ↦ (let clash : None ≡ Some bar = sym free ∙ ap (λ j. bar_of bars j) (sym new.0) ∙ s.kept m bar is in cc)
    | inr old ↦ old.1 ∙ s.kept m bar is
  ];
  barred = λ m is. elim (bar-set bars n m (Some cell) lt) [
    | inl new ↦ inr (new.1, (k, rw new.0 stands))
    | inr old ↦ elim (s.barred m is) [
      | inl none ↦ inl (old.1 ∙ none)
      | inr some ↦ inr (old.1 ∙ some.0, some.1)
    ]
  ];
  done = λ j m after at none. elim (bar-set bars n m (Some cell) lt) [
    | inl new ↦ (let clash : Some cell ≡ None = sym new.1 ∙ none in cc)
    | inr old ↦ elim (cases_eq j k) [
      | inl same ↦ old.0 (stands-one stops k m n cell cell (subst (λ i. StandsAt stops i m cell) same at) stands).0
      | inr apart ↦ s.done j m (omega arith) at (sym old.1 ∙ none)
    ]
  ];
  clear_are = λ m. (
    λ has. (
      ((s.clear_are m).0 ((less m).0 has).0).0,
      elim (bar-set bars n m (Some cell) lt) [
        | inl new ↦ absurd (((less m).0 has).1 new.0)
        | inr old ↦ old.1 ∙ ((s.clear_are m).0 ((less m).0 has).0).1
      ],
    ),
    λ h. elim (bar-set bars n m (Some cell) lt) [
      | inl new ↦ (let clash : Some cell ≡ None = sym new.1 ∙ h.1 in cc)
      | inr old ↦ (less m).1 ((s.clear_are m).1 (h.0, sym old.1 ∙ h.1), old.0)
    ],
  );
}

-- where it has one
pub barred-keep : (stops : List Stop) (cell : Cell) (k n : ℕ) (old bars : List (Option Cell)) (was clear : List ℕ) → StandsAt stops k n cell → bar_of bars n ≢ None →
    AreBarredSince stops cell (suc k) old bars was clear → AreBarredSince stops cell k old bars was clear
barred-keep stops cell k n old bars was clear stands some s = record {
  each = s.each;
  kept = s.kept;
  barred = s.barred;
  done = λ j m after at none. elim (cases_eq j k) [
    | inl same ↦ some (ap (λ i. bar_of bars i) (stands-one stops k n m cell cell stands (subst (λ i. StandsAt stops i m cell) same at)).0 ∙ none)
    | inr apart ↦ s.done j m (omega arith) at none
  ];
  clear_are = s.clear_are;
}

-- and where the walk goes on
pub barred-next : (stops : List Stop) (cell : Cell) (k : ℕ) (at : Option ℕ) (old bars : List (Option Cell)) (was clear : List ℕ) → IfSome at (λ j. IsLastBelow stops cell k j) → IfNone at (NoneBelow stops cell k) →
    AreBarredSince stops cell k old bars was clear → AreBarredSince stops cell (bound_of at) old bars was clear
barred-next stops cell k at old bars was clear some none s = record {
  each = s.each;
  kept = s.kept;
  barred = s.barred;
  done = λ j m after there. elim (cases_lt j k) [
    | inl before ↦ absurd (none-between stops cell k at some none j m after before there)
    | inr from ↦ s.done j m from there
  ];
  clear_are = s.clear_are;
}

-- a whole step of a walk
pub barred-on : (stops : List Stop) (cell : Cell) (at at' : Option ℕ) (k n : ℕ) (old bars : List (Option Cell)) (was clear clear' : List ℕ) → at ≡ Some k → StandsAt stops k n cell → n < length bars → bar_of bars n ≡ None →
    ((m : ℕ) → Contains clear' m ↔ (Contains clear m × (m ≢ n))) → IfSome at' (λ j. IsLastBelow stops cell k j) → IfNone at' (NoneBelow stops cell k) →
    AreBarredSince stops cell (bound_of at) old bars was clear → AreBarredSince stops cell (bound_of at') old (set bars n (Some cell)) was clear'
barred-on stops cell at at' k n old bars was clear clear' is stands lt free less some none s =
    let here = subst (λ (v : Option ℕ). AreBarredSince stops cell (bound_of v) old bars was clear) is s in
    barred-next stops cell k at' old (set bars n (Some cell)) was clear' some none (barred-step stops cell k n old bars was clear clear' stands lt free less here)

pub barred-past : (stops : List Stop) (cell : Cell) (at at' : Option ℕ) (k n : ℕ) (old bars : List (Option Cell)) (was clear : List ℕ) → at ≡ Some k → StandsAt stops k n cell → bar_of bars n ≢ None →
    IfSome at' (λ j. IsLastBelow stops cell k j) → IfNone at' (NoneBelow stops cell k) →
    AreBarredSince stops cell (bound_of at) old bars was clear → AreBarredSince stops cell (bound_of at') old bars was clear
barred-past stops cell at at' k n old bars was clear is stands barred some none s =
    let here = subst (λ (v : Option ℕ). AreBarredSince stops cell (bound_of v) old bars was clear) is s in
    barred-next stops cell k at' old bars was clear some none (barred-keep stops cell k n old bars was clear stands barred here)

-- the bars, where those of the tasks with a stop from this number on at the cell were looked at again
pub record AreBarredFrom (before : Cell) (tasks : List Task) (ends : List Cell) (stops : List Stop) (from : ℕ) (bars : List (Option Cell)) (clear : List ℕ) : Type 0 where
  pub kept : AreBarsBut before tasks ends bars clear
  pub done : (k n : ℕ) → from ≤ k → StandsAt stops k n before → bar_of bars n ≢ Some before

-- one step on, where the walk stands at a stop of a task whose bar is elsewhere
again-keep : (stops : List Stop) (before : Cell) (k n : ℕ) (tasks : List Task) (ends : List Cell) (bars : List (Option Cell)) (clear : List ℕ) → StandsAt stops k n before → bar_of bars n ≢ Some before →
    AreBarredFrom before tasks ends stops (suc k) bars clear → AreBarredFrom before tasks ends stops k bars clear
again-keep stops before k n tasks ends bars clear stands apart s = record {
  kept = s.kept;
  done = λ j m after at is. elim (cases_eq j k) [
    | inl same ↦ apart (ap (λ i. bar_of bars i) (stands-one stops k n m before before stands (subst (λ i. StandsAt stops i m before) same at)).0 ∙ is)
    | inr other ↦ s.done j m (omega arith) at is
  ];
}

-- where the bar was there, and now is at another end, or there is none: then the task is clear
again-step : (stops : List Stop) (before : Cell) (k n : ℕ) (tasks : List Task) (ends : List Cell) (bars : List (Option Cell)) (clear clear' : List ℕ) (task : Task) (v : Option Cell) → StandsAt stops k n before → IsTask tasks n task → IsOpen task →
    bar_of bars n ≡ Some before → (before_ends : ¬ Contains ends before) → IfSome v (λ cell. Contains task.stops cell × Contains ends cell) → IfNone v (AreClear ends task.stops) →
    ((m : ℕ) → Contains clear' m ↔ (Contains clear m ⊎ ((m ≡ n) × (v ≡ None)))) →
    AreBarredFrom before tasks ends stops (suc k) bars clear → AreBarredFrom before tasks ends stops k (set bars n v) clear'
again-step stops before k n tasks ends bars clear clear' task v stands there is_open was ended some none more s =
    let within : n < length bars = rw s.kept.each (slice_get_within tasks n task there) in
    let P : Cell → Type 0 = λ cell. Contains task.stops cell × Contains ends cell in
    let one : (m : ℕ) (t : Task) → m ≡ n → IsTask tasks m t → task ≡ t = λ m t same at. same-task tasks n task t there (rw same at at) in
    record {
      kept = record {
        each = length-set bars n v ∙ s.kept.each;
        stop = λ m t bar at opens is. elim (bar-set bars n m v within) [
          | inl new ↦ subst (λ (u : Task). Contains u.stops bar) (one m t new.0 at) (some-holds v P bar some (sym new.1 ∙ is)).0
          | inr old ↦ s.kept.stop m t bar at opens (sym old.1 ∙ is)
        ];
        is_end = λ m t bar at opens is apart. elim (bar-set bars n m v within) [
          | inl new ↦ (some-holds v P bar some (sym new.1 ∙ is)).1
          | inr old ↦ s.kept.is_end m t bar at opens (sym old.1 ∙ is) apart
        ];
        clear_stops = λ m t at opens is. elim (bar-set bars n m v within) [
          | inl new ↦ subst (λ (u : Task). AreClear ends u.stops) (one m t new.0 at) (subst (λ (w : Option Cell). IfNone w (AreClear ends task.stops)) (sym new.1 ∙ is) none)
          | inr old ↦ s.kept.clear_stops m t at opens (sym old.1 ∙ is)
        ];
        clear_listed = λ m t at opens is. elim (bar-set bars n m v within) [
          | inl new ↦ (more m).1 (inr (new.0, sym new.1 ∙ is))
          | inr old ↦ (more m).1 (inl (s.kept.clear_listed m t at opens (sym old.1 ∙ is)))
        ];
        clear_only = λ m has. elim ((more m).0 has) [
          | inl before_has ↦
              let h = s.kept.clear_only m before_has in
              elim (bar-set bars n m v within) [
                | inl new ↦ (let clash : Some before ≡ None = sym was ∙ ap (λ j. bar_of bars j) (sym new.0) ∙ h.3 in cc)
                | inr old ↦ (h.0, h.1, h.2, old.1 ∙ h.3)
              ]
          | inr new ↦ (task, rw new.0 there, is_open, ap (λ j. bar_of (set bars n v) j) new.0 ∙ get_or-set_same bars n v None within ∙ new.1)
        ];
      };
      done = λ j m after at is. elim (bar-set bars n m v within) [
        | inl new ↦ ended (some-holds v P before some (sym new.1 ∙ is)).1
        | inr old ↦ elim (cases_eq j k) [
          | inl same ↦ old.0 (stands-one stops k m n before before (subst (λ i. StandsAt stops i m before) same at) stands).0
          | inr apart ↦ s.done j m (omega arith) at (sym old.1 ∙ is)
        ]
      ];
    }

-- where the walk goes on
again-next : (stops : List Stop) (before : Cell) (k : ℕ) (at : Option ℕ) (tasks : List Task) (ends : List Cell) (bars : List (Option Cell)) (clear : List ℕ) →
    IfSome at (λ j. IsLastBelow stops before k j) → IfNone at (NoneBelow stops before k) →
    AreBarredFrom before tasks ends stops k bars clear → AreBarredFrom before tasks ends stops (bound_of at) bars clear
again-next stops before k at tasks ends bars clear some none s = record {
  kept = s.kept;
  done = λ j m after there. elim (cases_lt j k) [
    | inl lower ↦ absurd (none-between stops before k at some none j m after lower there)
    | inr from ↦ s.done j m from there
  ];
}

pub again-past : (stops : List Stop) (before : Cell) (at at' : Option ℕ) (k n : ℕ) (tasks : List Task) (ends : List Cell) (bars : List (Option Cell)) (clear : List ℕ) → at ≡ Some k → StandsAt stops k n before → bar_of bars n ≢ Some before →
    IfSome at' (λ j. IsLastBelow stops before k j) → IfNone at' (NoneBelow stops before k) →
    AreBarredFrom before tasks ends stops (bound_of at) bars clear → AreBarredFrom before tasks ends stops (bound_of at') bars clear
again-past stops before at at' k n tasks ends bars clear is stands apart some none s =
    let here = subst (λ (v : Option ℕ). AreBarredFrom before tasks ends stops (bound_of v) bars clear) is s in
    again-next stops before k at' tasks ends bars clear some none (again-keep stops before k n tasks ends bars clear stands apart here)

pub again-on : (stops : List Stop) (before : Cell) (at at' : Option ℕ) (k n : ℕ) (tasks : List Task) (ends : List Cell) (bars : List (Option Cell)) (clear clear' : List ℕ) (task : Task) (v : Option Cell) → at ≡ Some k → StandsAt stops k n before →
    IsTask tasks n task → IsOpen task → bar_of bars n ≡ Some before → ¬ Contains ends before → IfSome v (λ cell. Contains task.stops cell × Contains ends cell) → IfNone v (AreClear ends task.stops) →
    ((m : ℕ) → Contains clear' m ↔ (Contains clear m ⊎ ((m ≡ n) × (v ≡ None)))) →
    IfSome at' (λ j. IsLastBelow stops before k j) → IfNone at' (NoneBelow stops before k) →
    AreBarredFrom before tasks ends stops (bound_of at) bars clear → AreBarredFrom before tasks ends stops (bound_of at') (set bars n v) clear'
again-on stops before at at' k n tasks ends bars clear clear' task v is stands there is_open was ended has free more some none s =
    let here = subst (λ (o : Option ℕ). AreBarredFrom before tasks ends stops (bound_of o) bars clear) is s in
    again-next stops before k at' tasks ends (set bars n v) clear' some none (again-step stops before k n tasks ends bars clear clear' task v stands there is_open was ended has free more here)

-- at the end of a walk each bar is an end
pub again-all : (stops : List Stop) (before : Cell) (at : Option ℕ) (tasks : List Task) (ends : List Cell) (bars : List (Option Cell)) (clear : List ℕ) → at ≡ None → AreOpenStops tasks stops →
    AreBarredFrom before tasks ends stops (bound_of at) bars clear → AreBars tasks ends bars clear
again-all stops before at tasks ends bars clear is found s =
    let all = subst (λ (o : Option ℕ). AreBarredFrom before tasks ends stops (bound_of o) bars clear) is s in
    record {
      each = s.kept.each;
      barred = λ n task bar there is_open has.
          let stop = s.kept.stop n task bar there is_open has in
          record {
            stop = stop;
            is_end = elim (cell_cases bar before) [
              | inl same ↦
                  let stands = found.there n task before there is_open (subst (λ c. Contains task.stops c) same stop) in
                  absurd (all.done stands.0 n (omega arith) stands.1 (has ∙ ap (λ c. Some c) same))
              | inr apart ↦ s.kept.is_end n task bar there is_open has apart
            ];
          };
      clear_stops = s.kept.clear_stops;
      clear_listed = s.kept.clear_listed;
      clear_only = s.kept.clear_only;
    }

-- a number comes to the clear ones just where its task has no bar
pub more-clear : (clear clear' : List ℕ) (n : ℕ) (v : Option Cell) → v ≡ None → ((m : ℕ) → Contains clear' m ↔ (Contains clear m ⊎ (m ≡ n))) → (m : ℕ) → Contains clear' m ↔ (Contains clear m ⊎ ((m ≡ n) × (v ≡ None)))
more-clear clear clear' n v free more = λ m. (
  λ has. elim ((more m).0 has) [
    | inl was ↦ inl was
    | inr new ↦ inr (new, free)
  ],
  λ h. elim h [
    | inl was ↦ (more m).1 (inl was)
    | inr new ↦ (more m).1 (inr new.0)
  ],
)

pub no-more-clear : (clear : List ℕ) (n : ℕ) (v : Option Cell) → v ≢ None → (m : ℕ) → Contains clear m ↔ (Contains clear m ⊎ ((m ≡ n) × (v ≡ None)))
no-more-clear clear n v barred = λ m. (
  λ has. inl has,
  λ h. elim h [
    | inl was ↦ was
    | inr new ↦ absurd (barred new.1)
  ],
)

-- the task that is read at the number of a stop is open
pub stop-read : (tasks : List Task) (stops : List Stop) (k n : ℕ) (cell : Cell) (d : Task) → AreOpenStops tasks stops → StandsAt stops k n cell → IsTask tasks n (get_or tasks n d) × IsOpen (get_or tasks n d)
stop-read tasks stops k n cell d found stands =
    let own = found.only k n cell stands in
    let there = slice_get-get_or tasks n d (slice_get_within tasks n own.0 own.1) in
    (there, subst IsOpen (same-task tasks n own.0 (get_or tasks n d) own.1 there) own.2)

-- where the stops of open tasks are listed they are found
pub are-found : (tasks : List Task) (firsts : List ℕ) (stops : List Stop) → AreListed tasks firsts stops → AreOpenStops tasks stops
are-found tasks firsts stops are = record {
  there = λ n task cell. stop-listed tasks firsts stops n task cell are;
  only = λ k n cell. stands-stop tasks firsts stops k n cell are;
}

-- an end beside the one that changes was there before
end-before : (cells : List Cell) (agent : ℕ) (new stop : Cell) → agent < length cells → Contains (set cells agent new) stop → stop ≢ new → Contains cells stop
end-before cells agent new stop lt has apart = elim (cases_eq has.0 agent) [
  | inl same ↦ absurd (apart (sym (rw (same, get_or-set_same cells agent new stop lt) at has.2)))
  | inr other ↦ (has.0, rw length-set at has.1, sym (get_or-set_other cells agent has.0 new stop other) ∙ has.2)
]

-- the new end is one
end-new : (cells : List Cell) (agent : ℕ) (new : Cell) → agent < length cells → Contains (set cells agent new) new
end-new cells agent new lt = (agent, rw length-set lt, get_or-set_same cells agent new new lt)

-- a path ends at the cell now, and not any more where it ended before
pub bars-moved : (tasks : List Task) (stops : List Stop) (ends : List Cell) (old new : List (Option Cell)) (was clear : List ℕ) (agent : ℕ) (before cell : Cell) → agent < length ends → get_or ends agent before ≡ before →
    AreOpenStops tasks stops → AreBars tasks ends old was → AreBarredAt stops cell old new was clear → AreBarsBut before tasks (set ends agent cell) new clear
bars-moved tasks stops ends old new was clear agent before cell lt at found are s =
    let free : (n : ℕ) → bar_of new n ≡ None → bar_of old n ≡ None = λ n none. elim (option_cases (bar_of old n)) [
      | inl e ↦ e
      | inr some ↦ (let clash : Some some.0 ≡ None = sym (s.kept n some.0 some.1) ∙ none in cc)
    ] in
    record {
      each = s.each ∙ are.each;
      stop = λ n task bar there is_open is. elim (option_cases (bar_of old n)) [
        | inl none ↦ elim (s.barred n none) [
          | inl still ↦ (let clash : None ≡ Some bar = sym still ∙ is in cc)
          | inr now ↦
              let own = found.only now.1.0 n cell now.1.1 in
              let one : own.0 ≡ task = same-task tasks n own.0 task own.1 there in
              let here : cell ≡ bar = same_Some cell bar (sym now.0 ∙ is) in
              subst (λ (c : Cell). Contains task.stops c) here (subst (λ (u : Task). Contains u.stops cell) one own.3)
        ]
        | inr some ↦
            let here : some.0 ≡ bar = same_Some some.0 bar (sym (s.kept n some.0 some.1) ∙ is) in
            subst (λ (c : Cell). Contains task.stops c) here (are.barred n task some.0 there is_open some.1).stop
      ];
      is_end = λ n task bar there is_open is apart. elim (option_cases (bar_of old n)) [
        | inl none ↦ elim (s.barred n none) [
          | inl still ↦ (let clash : None ≡ Some bar = sym still ∙ is in cc)
          | inr now ↦ subst (λ (c : Cell). Contains (set ends agent cell) c) (same_Some cell bar (sym now.0 ∙ is)) (end-new ends agent cell lt)
        ]
        | inr some ↦
            let here : some.0 ≡ bar = same_Some some.0 bar (sym (s.kept n some.0 some.1) ∙ is) in
            end-stays ends agent before cell bar lt at (subst (λ (c : Cell). Contains ends c) here (are.barred n task some.0 there is_open some.1).is_end) apart
      ];
      clear_stops = λ n task there is_open is k d within has. elim (cell_cases (get_or task.stops k d) cell) [
        | inl same ↦
            let stands = found.there n task cell there is_open (subst (λ (c : Cell). Contains task.stops c) same (Contains-get_or task.stops k d within)) in
            s.done stands.0 n stands.1 is
        | inr apart ↦ are.clear_stops n task there is_open (free n is) k d within (end-before ends agent cell (get_or task.stops k d) lt has apart)
      ];
      clear_listed = λ n task there is_open is. (s.clear_are n).1 (are.clear_listed n task there is_open (free n is), is);
      clear_only = λ n has.
          let own = (s.clear_are n).0 has in
          let h = are.clear_only n own.0 in
          (h.0, h.1, h.2, own.1);
    }

-- where a path still ends at that cell all bars are ends
pub bars-whole : (before : Cell) (tasks : List Task) (ends : List Cell) (bars : List (Option Cell)) (clear : List ℕ) → Contains ends before → AreBarsBut before tasks ends bars clear → AreBars tasks ends bars clear
bars-whole before tasks ends bars clear still s = record {
  each = s.each;
  barred = λ n task bar there is_open is. record {
    stop = s.stop n task bar there is_open is;
    is_end = elim (cell_cases bar before) [
      | inl same ↦ subst (λ (c : Cell). Contains ends c) (sym same) still
      | inr apart ↦ s.is_end n task bar there is_open is apart
    ];
  };
  clear_stops = s.clear_stops;
  clear_listed = s.clear_listed;
  clear_only = s.clear_only;
}

-- which cells are sought for the tasks that may be chosen, and how the nearest of them is found
use Rattle.std.proofs.Common.{◌≡◌, ◌≢◌, ℕ, ◌+◌, ◌<◌, ◌≤◌, ◌⊎◌, ◌↔◌, inl, inr, List, [], length, get_or, remove, refl, sym, ap, ◌∙◌, arith, subst}
use Prim.Native.Nat.{suc}
use Rattle.std.specs.Prelude.{Bool, Option, Some, None, All, Contains, IsTrue, IfSome, IfNone, is_some, true, false, min, max}
use Rattle.std.proofs.lemmas.List.{get_or_default}
use Rattle.std.proofs.lemmas.List.Elements.{All-contains}
use Rattle.wh_grid.proofs.Pigeons.{cell_cases}
use Rattle.wh_tasks.proofs.Visiting.{option_cases}
use Rattle.std.proofs.lemmas.Bool.{cases_lt, cases_Bool}
use Rattle.std.proofs.lemmas.Option.{slice_get_within}
use Rattle.wh_grid.specs.declared.cell.Cell.{Cell}
use Rattle.wh_grid.specs.Grids.{Floor, IsPassable}
use Rattle.wh_grid.specs.Cells.{is_cell}
use Rattle.wh_grid.proofs.Cells.{is_cell-same}
use Rattle.wh_path.specs.Paths.{last_index}
use Rattle.wh_path.specs.Walks.{IsWalkBetween}
use Rattle.wh_field.specs.Distances.{IsDistance, IsDistanceToFirst, distance}
use Rattle.wh_field.proofs.DistanceLaws.{distance_is, distance_one}
use Rattle.wh_field.proofs.Walks.{route_allowed, walk_route}
use Rattle.wh_tasks.specs.declared.task.Task.{Task}
use Rattle.wh_tasks.specs.declared.cell_lists.Stop.{Stop}
use Rattle.wh_tasks.specs.Tasks.{IsTask, IsOpen, pickup}
use Rattle.wh_tasks.specs.Choice.{IsEligible, IsNearest, NoneEligible, IsAtMost}
use Rattle.wh_tasks.specs.Firsts.{earliest, AreSought, AreFound, IsFirst, IsBeyond, IsFirstWithin, NoneWithin, FirstWithin}
use Rattle.wh_tasks.specs.Bars.{bar_of, AreOthers, AreBars}
use Rattle.wh_tasks.specs.CellLists.{StandsAt, NoneBelow, IsLastBelow, listed}
use Rattle.wh_tasks.specs.Sets.{AreListed}
use Rattle.wh_tasks.proofs.Choosing.{cases_lt-suc, same-task}
use Rattle.wh_tasks.proofs.Walking.{stands-one, bound_of, goes-down, none-between}
use Rattle.wh_tasks.proofs.Listing.{stop-listed}
use Rattle.wh_tasks.proofs.Ending.{times-remove}
use Rattle.wh_tasks.proofs.Tallies.{contains-times, times-contains}

-- the field tells the same distances as before, and beside that something holds
pub record KeepsField (old_grid new_grid : Floor) (old_source new_source : Cell) (Holds : Type 0) : Type 0 where
  pub grid : new_grid ≡ old_grid
  pub source : new_source ≡ old_source
  pub holds : Holds

-- what is said of the distances of a field is said of those of the field before
pub field-before : (Says : Floor → Cell → Type 0) (grid now_grid : Floor) (source now_source : Cell) → now_grid ≡ grid → now_source ≡ source → Says now_grid now_source → Says grid source
field-before Says grid now_grid source now_source e f h = subst (λ s. Says grid s) f (subst (λ g. Says g now_source) e h)

-- a walk ends where one may walk
walk-ends : (g : Floor) (from to : Cell) (p : List Cell) → IsWalkBetween g from to p → IsPassable g to
walk-ends g from to p w = subst (IsPassable g) w.ends (route_allowed g from to [] p (walk_route g from to p w) (last_index p)).passable

-- a task that may be chosen is no nearer than the nearest cell that is sought
sought-least : (g : Floor) (tasks : List Task) (ends : List Cell) (here : Cell) (sought : Cell → Bool) (limit n d : ℕ) (task : Task) → AreSought g tasks ends sought → IsDistanceToFirst g here sought (Some limit) →
    IsEligible tasks ends n task → IsDistance g here (pickup task) (Some d) → limit ≤ d
sought-least g tasks ends here sought limit n d task are first eligible is =
    let walk = is.1.walk in
    let size = is.2 in
    let low = first.1 (pickup task) is.0 (are.all n task eligible (walk-ends g here (pickup task) is.0 walk)) walk in
    omega arith

-- of those as near as the nearest cell that is sought the first is the nearest task
pub within-nearest : (g : Floor) (tasks : List Task) (ends : List Cell) (here : Cell) (sought : Cell → Bool) (limit n : ℕ) (task : Task) → AreSought g tasks ends sought → IsDistanceToFirst g here sought (Some limit) →
    IsFirstWithin g tasks ends here limit n task → IsNearest g tasks ends here n task
within-nearest g tasks ends here sought limit n task are first one = record {
  eligible = one.eligible;
  distance = Some one.steps;
  is_distance = one.distance;
  least = later;
}
  where
    later : (m : ℕ) (other : Task) (far : Option ℕ) → IsEligible tasks ends m other → IsDistance g here (pickup other) far → IsAtMost (Some one.steps) n far m
    later m other None eligible is = tt
    later m other (Some e) eligible is =
        let near = one.near in
        let low = sought-least g tasks ends here sought limit m e other are first eligible is in
        elim (cases_lt one.steps e) [
          | inl less ↦ inl less
          | inr more ↦ inr (
            let same : one.steps ≡ e = omega arith in same,
            elim (cases_lt m n) [
              | inl earlier ↦ absurd (let beyond = one.before m other earlier eligible e is in omega arith)
              | inr le ↦ le
            ],
          )
        ]

-- where no walk leads to a cell that is sought, the first task is the nearest
pub first-nearest : (g : Floor) (tasks : List Task) (ends : List Cell) (here : Cell) (sought : Cell → Bool) (n : ℕ) (task : Task) → AreSought g tasks ends sought → IsDistanceToFirst g here sought None →
    IsFirst tasks ends n task → IsNearest g tasks ends here n task
first-nearest g tasks ends here sought n task are none one = record {
  eligible = one.eligible;
  distance = None;
  is_distance = away n task one.eligible;
  least = later;
}
  where
    away : (m : ℕ) (other : Task) → IsEligible tasks ends m other → IsDistance g here (pickup other) None
    away m other eligible p walk = none (pickup other) (are.all m other eligible (walk-ends g here (pickup other) p walk)) p walk

    later : (m : ℕ) (other : Task) (far : Option ℕ) → IsEligible tasks ends m other → IsDistance g here (pickup other) far → IsAtMost None n far m
    later m other None eligible is = one.least m other eligible
    later m other (Some e) eligible is = away m other eligible is.0 is.1.walk

at-most-itself : (o : Option ℕ) (n m : ℕ) → n ≤ m → IsAtMost o n o m
at-most-itself None n m le = le
at-most-itself (Some d) n m le = inr (refl, le)

-- where no other may be chosen, the first task is the nearest, however far it is
pub only-nearest : (g : Floor) (tasks : List Task) (ends : List Cell) (here : Cell) (n last : ℕ) (task : Task) → IsFirst tasks ends n task → ((m : ℕ) (other : Task) → IsEligible tasks ends m other → m ≤ last) →
    n ≡ last → IsNearest g tasks ends here n task
only-nearest g tasks ends here n last task one until alone = record {
  eligible = one.eligible;
  distance = distance g here (pickup task);
  is_distance = distance_is g here (pickup task);
  least = least;
}
  where
    least : (m : ℕ) (other : Task) (far : Option ℕ) → IsEligible tasks ends m other → IsDistance g here (pickup other) far → IsAtMost (distance g here (pickup task)) n far m
    least m other far eligible is =
        let low = one.least m other eligible in
        let high = until m other eligible in
        let same : m ≡ n = omega arith in
        let it : other ≡ task = same-task tasks n other task (subst (λ k. IsTask tasks k other) same eligible.there) one.eligible.there in
        let far_is : far ≡ distance g here (pickup task) = distance_one g here (pickup task) far (subst (λ (t : Task). IsDistance g here (pickup t) far) it is) in
        subst (λ o. IsAtMost (distance g here (pickup task)) n o m) (sym far_is) (at-most-itself (distance g here (pickup task)) n m low)

-- one of those that may be chosen is as near as the nearest cell that is sought
pub within-some : (g : Floor) (tasks : List Task) (ends : List Cell) (here : Cell) (sought : Cell → Bool) (limit : ℕ) → AreSought g tasks ends sought → IsDistanceToFirst g here sought (Some limit) →
    NoneWithin g tasks ends here limit → ⊥
within-some g tasks ends here sought limit are first none =
    let to = first.0.0 in
    let one = are.only to first.0.1 in
    let beyond = none one.0 one.1 one.2 limit (subst (λ (c : Cell). IsDistance g here c (Some limit)) (sym one.3) first.0.2) in
    absurd (omega arith)

-- what is said where there is a number, or where there is none
pub said-some : (o : Option ℕ) (P : ℕ → Type 0) → is_some o ≡ true → IfSome o P → (n : ℕ) × P n
said-some None P h some = cc
said-some (Some n) P h some = (n, some)

pub said-none : (o : Option ℕ) (P : Type 0) → is_some o ≡ false → IfNone o P → P
said-none None P h none = none
said-none (Some n) P h none = cc

-- the task of this number is the first of those that are met
pub record IsLeast (Met : ℕ → Task → Type 0) (n : ℕ) : Type 0 where
  pub task : Task
  pub met : Met n task
  pub least : (m : ℕ) (other : Task) → Met m other → n ≤ m

-- the first of those that are met, or none is
abbrev pub LeastMet : (ℕ → Task → Type 0) → Option ℕ → Type 0
LeastMet Met None = (m : ℕ) (other : Task) → Met m other → ⊥
LeastMet Met (Some n) = IsLeast Met n

-- the pickups of the tasks that are met are sought, and their numbers are between these
pub record IsSoughtFor (g : Floor) (Met : ℕ → Task → Type 0) (sought : Cell → Bool) (first : Option ℕ) (last : ℕ) : Type 0 where
  pub only : (c : Cell) → IsTrue (sought c) → (n : ℕ) × (task : Task) × Met n task × (pickup task ≡ c)
  pub all : (n : ℕ) (task : Task) → Met n task → IsPassable g (pickup task) → IsTrue (sought (pickup task))
  pub least : LeastMet Met first
  pub until : (n : ℕ) (task : Task) → Met n task → n ≤ last

-- the same tasks are met
pub record MeetsSame (Old New : ℕ → Task → Type 0) : Type 0 where
  pub kept : (m : ℕ) (other : Task) → Old m other → New m other
  pub only : (m : ℕ) (other : Task) → New m other → Old m other

-- one more task is met
pub record MeetsMore (Old New : ℕ → Task → Type 0) (n : ℕ) (task : Task) : Type 0 where
  pub kept : (m : ℕ) (other : Task) → Old m other → New m other
  pub met : New n task
  pub only : (m : ℕ) (other : Task) → New m other → Old m other ⊎ ((m ≡ n) × (other ≡ task))

pub least-same : (Old New : ℕ → Task → Type 0) (o : Option ℕ) → MeetsSame Old New → LeastMet Old o → LeastMet New o
least-same Old New None same none = λ m other met. none m other (same.only m other met)
least-same Old New (Some n) same one = record {
  task = one.task;
  met = same.kept n one.task one.met;
  least = λ m other met. one.least m other (same.only m other met);
}

pub least-more : (Old New : ℕ → Task → Type 0) (o : Option ℕ) (n : ℕ) (task : Task) → MeetsMore Old New n task → LeastMet Old o → LeastMet New (earliest o n)
least-more Old New None n task more none = record {
  task = task;
  met = more.met;
  least = λ m other met. elim (more.only m other met) [
    | inl old ↦ absurd (none m other old)
    | inr new ↦ (let same = new.0 in omega arith)
  ];
}
least-more Old New (Some k) n task more one = elim (cases_lt n k) [
  | inl lower ↦
      let is : min k n ≡ n = omega arith in
      subst (λ j. IsLeast New j) (sym is) (record {
        task = task;
        met = more.met;
        least = λ m other met. elim (more.only m other met) [
          | inl old ↦ (let low = one.least m other old in omega arith)
          | inr new ↦ (let same = new.0 in omega arith)
        ];
      })
  | inr higher ↦
      let is : min k n ≡ k = omega arith in
      subst (λ j. IsLeast New j) (sym is) (record {
        task = one.task;
        met = more.kept k one.task one.met;
        least = λ m other met. elim (more.only m other met) [
          | inl old ↦ one.least m other old
          | inr new ↦ (let same = new.0 in omega arith)
        ];
      })
]

pub sought-same : (g : Floor) (Old New : ℕ → Task → Type 0) (sought : Cell → Bool) (first : Option ℕ) (last : ℕ) → MeetsSame Old New → IsSoughtFor g Old sought first last → IsSoughtFor g New sought first last
sought-same g Old New sought first last same s = record {
  only = λ c is. let one = s.only c is in (one.0, one.1, same.kept one.0 one.1 one.2, one.3);
  all = λ m other met. s.all m other (same.only m other met);
  least = least-same Old New first same s.least;
  until = λ m other met. s.until m other (same.only m other met);
}

-- one more task is met, and its pickup is sought from now on
pub sought-more : (g : Floor) (Old New : ℕ → Task → Type 0) (sought sought' : Cell → Bool) (first : Option ℕ) (last n : ℕ) (task : Task) → MeetsMore Old New n task →
    ((c : Cell) → IsTrue (sought' c) ↔ (IsTrue (sought c) ⊎ ((c ≡ pickup task) × (c.x < g.width) × (c.y < g.height)))) →
    IsSoughtFor g Old sought first last → IsSoughtFor g New sought' (earliest first n) (max last n)
sought-more g Old New sought sought' first last n task more now s = record {
  only = λ c is. elim ((now c).0 is) [
    | inl was ↦ (let one = s.only c was in (one.0, one.1, more.kept one.0 one.1 one.2, one.3))
    | inr new ↦ (n, task, more.met, sym new.0)
  ];
  all = λ m other met passable. elim (more.only m other met) [
    | inl old ↦ (now (pickup other)).1 (inl (s.all m other old passable))
    | inr new ↦ (now (pickup other)).1 (inr (ap pickup new.1, passable.in_width, passable.in_height))
  ];
  least = least-more Old New first n task more s.least;
  until = λ m other met. elim (more.only m other met) [
    | inl old ↦ (let low = s.until m other old in omega arith)
    | inr new ↦ (let same = new.0 in omega arith)
  ];
}

-- nothing is asked of a task
abbrev pub Any : Task → Type 0
Any task = Unit {0}

-- its pickup is at most so far away
abbrev pub IsNear : Floor → Cell → ℕ → Task → Type 0
IsNear g here limit task = (d : ℕ) × IsDistance g here (pickup task) (Some d) × (d ≤ limit)

-- the task may be chosen, and something holds of it
abbrev pub IsChosen : List Task → List Cell → (Task → Type 0) → ℕ → Task → Type 0
IsChosen tasks ends Holds n task = IsEligible tasks ends n task × Holds task

-- the task is that of one of the first i numbers, and something holds of it
pub record IsListed (tasks : List Task) (numbers : List ℕ) (Holds : Task → Type 0) (i n : ℕ) (task : Task) : Type 0 where
  pub place : ℕ
  pub before : place < i
  pub within : place < length numbers
  pub number : get_or numbers place 0 ≡ n
  pub there : IsTask tasks n task
  pub holds : Holds task

listed-kept : (tasks : List Task) (numbers : List ℕ) (Holds : Task → Type 0) (i n : ℕ) (task : Task) → IsListed tasks numbers Holds i n task → IsListed tasks numbers Holds (i + 1) n task
listed-kept tasks numbers Holds i n task one = record {
  place = one.place;
  before = let h = one.before in omega arith;
  within = one.within;
  number = one.number;
  there = one.there;
  holds = one.holds;
}

listed-only : (tasks : List Task) (numbers : List ℕ) (Holds : Task → Type 0) (i n : ℕ) (task : Task) → IsListed tasks numbers Holds (i + 1) n task →
    IsListed tasks numbers Holds i n task ⊎ (n ≡ get_or numbers i 0)
listed-only tasks numbers Holds i n task one = elim (cases_lt-suc one.place i one.before) [
  | inl lower ↦ inl (record { place = one.place; before = lower; within = one.within; number = one.number; there = one.there; holds = one.holds })
  | inr same ↦ inr (sym one.number ∙ ap (λ j. get_or numbers j 0) same)
]

pub listed-more : (tasks : List Task) (numbers : List ℕ) (Holds : Task → Type 0) (i : ℕ) (task : Task) → i < length numbers → IsTask tasks (get_or numbers i 0) task → Holds task →
    MeetsMore (IsListed tasks numbers Holds i) (IsListed tasks numbers Holds (i + 1)) (get_or numbers i 0) task
listed-more tasks numbers Holds i task within there holds = record {
  kept = listed-kept tasks numbers Holds i;
  met = record { place = i; before = omega arith; within = within; number = refl; there = there; holds = holds };
  only = λ m other one. elim (listed-only tasks numbers Holds i m other one) [
    | inl old ↦ inl old
    | inr same ↦ inr (same, same-task tasks (get_or numbers i 0) other task (subst (λ k. IsTask tasks k other) same one.there) there)
  ];
}

pub listed-skip : (tasks : List Task) (numbers : List ℕ) (Holds : Task → Type 0) (i : ℕ) (task : Task) → IsTask tasks (get_or numbers i 0) task → (Holds task → ⊥) →
    MeetsSame (IsListed tasks numbers Holds i) (IsListed tasks numbers Holds (i + 1))
listed-skip tasks numbers Holds i task there not = record {
  kept = listed-kept tasks numbers Holds i;
  only = λ m other one. elim (listed-only tasks numbers Holds i m other one) [
    | inl old ↦ old
    | inr same ↦ absurd (not (subst Holds (same-task tasks (get_or numbers i 0) other task (subst (λ k. IsTask tasks k other) same one.there) there) one.holds))
  ];
}

-- the numbers of those that are clear are all met: they are those of the tasks that may be chosen where each end counts
pub listed-all : (tasks : List Task) (ends : List Cell) (bars : List (Option Cell)) (clear : List ℕ) (Holds : Task → Type 0) (i : ℕ) → AreBars tasks ends bars clear → length clear ≤ i →
    MeetsSame (IsListed tasks clear Holds i) (IsChosen tasks ends Holds)
listed-all tasks ends bars clear Holds i are all = record {
  kept = λ m other one.
      let has : Contains clear m = (one.place, one.within, get_or_default clear one.place m 0 one.within ∙ one.number) in
      let is = are.clear_only m has in
      let same = same-task tasks m is.0 other is.1 one.there in (
        record {
          there = one.there;
          is_open = subst IsOpen same is.2;
          clear = are.clear_stops m other one.there (subst IsOpen same is.2) is.3;
        },
        one.holds,
      );
  only = λ m other chosen.
      let eligible = chosen.0 in
      let has : Contains clear m = elim (option_cases (bar_of bars m)) [
        | inl none ↦ are.clear_listed m other eligible.there eligible.is_open none
        | inr some ↦
            let bar = are.barred m other some.0 eligible.there eligible.is_open some.1 in
            absurd (All-contains (λ stop. ¬ Contains ends stop) other.stops some.0 eligible.clear bar.stop bar.is_end)
      ] in
      record {
        place = has.0;
        before = let h = has.1 in omega arith;
        within = has.1;
        number = get_or_default clear has.0 0 m has.1 ∙ has.2;
        there = eligible.there;
        holds = chosen.1;
      };
}

-- what may be chosen by the agent at its own cell: a task that is clear, or that stops there
pub clear-or-beside : (tasks : List Task) (ends others : List Cell) (own : Cell) (bars : List (Option Cell)) (clear : List ℕ) (n : ℕ) (task : Task) → AreBars tasks ends bars clear → AreOthers own ends others →
    IsEligible tasks others n task → Contains clear n ⊎ Contains task.stops own
clear-or-beside tasks ends others own bars clear n task are all eligible = elim (option_cases (bar_of bars n)) [
  | inl none ↦ inl (are.clear_listed n task eligible.there eligible.is_open none)
  | inr some ↦
      let bar = are.barred n task some.0 eligible.there eligible.is_open some.1 in
      elim (cell_cases some.0 own) [
        | inl same ↦ inr (subst (λ c. Contains task.stops c) same bar.stop)
        | inr apart ↦ absurd (All-contains (λ stop. ¬ Contains others stop) task.stops some.0 eligible.clear bar.stop (all.all some.0 bar.is_end apart))
      ]
]

-- The task may be chosen, something holds of it, and it may be chosen where each end counts, or has a stop at the agent's
-- own cell that was looked at.
pub record IsBeside (tasks : List Task) (ends others : List Cell) (stops : List Stop) (own : Cell) (Holds : Task → Type 0) (at : Option ℕ) (n : ℕ) (task : Task) : Type 0 where
  pub eligible : IsEligible tasks others n task
  pub holds : Holds task
  pub why : IsEligible tasks ends n task ⊎ ((j : ℕ) × (bound_of at ≤ j) × StandsAt stops j n own)

others-eligible : (tasks : List Task) (ends others : List Cell) (own : Cell) (n : ℕ) (task : Task) → AreOthers own ends others → IsEligible tasks ends n task → IsEligible tasks others n task
others-eligible tasks ends others own n task all eligible = record {
  there = eligible.there;
  is_open = eligible.is_open;
  clear = λ k d lt has. eligible.clear k d lt (all.some _ has);
}

-- no stop was looked at
pub beside-start : (tasks : List Task) (ends others : List Cell) (stops : List Stop) (own : Cell) (Holds : Task → Type 0) (at : Option ℕ) → AreOthers own ends others → IfSome at (λ j. IsLastBelow stops own (length stops) j) → IfNone at (NoneBelow stops own (length stops)) →
    MeetsSame (IsChosen tasks ends Holds) (IsBeside tasks ends others stops own Holds at)
beside-start tasks ends others stops own Holds at all some none = record {
  kept = λ m other chosen. record { eligible = others-eligible tasks ends others own m other all chosen.0; holds = chosen.1; why = inl chosen.0 };
  only = λ m other beside. elim beside.why [
    | inl clear ↦ (clear, beside.holds)
    | inr stop ↦ absurd (none-between stops own (length stops) at some none stop.0 m stop.1 (slice_get_within stops stop.0 (listed m own) stop.2) stop.2)
  ];
}

beside-kept : (tasks : List Task) (ends others : List Cell) (stops : List Stop) (own : Cell) (Holds : Task → Type 0) (k : ℕ) (at : Option ℕ) → IfSome at (λ j. IsLastBelow stops own k j) → (m : ℕ) (other : Task) →
    IsBeside tasks ends others stops own Holds (Some k) m other → IsBeside tasks ends others stops own Holds at m other
beside-kept tasks ends others stops own Holds k at some m other beside = record {
  eligible = beside.eligible;
  holds = beside.holds;
  why = elim beside.why [
    | inl clear ↦ inl clear
    | inr stop ↦ inr (stop.0, (let h : suc k ≤ stop.0 = stop.1 in let down = goes-down stops own k at some in omega (arith, h, down)), stop.2)
  ];
}

beside-only : (tasks : List Task) (ends others : List Cell) (stops : List Stop) (own : Cell) (Holds : Task → Type 0) (k n : ℕ) (at : Option ℕ) → StandsAt stops k n own → IfSome at (λ j. IsLastBelow stops own k j) → IfNone at (NoneBelow stops own k) → (m : ℕ) (other : Task) →
    IsBeside tasks ends others stops own Holds at m other → IsBeside tasks ends others stops own Holds (Some k) m other ⊎ (m ≡ n)
beside-only tasks ends others stops own Holds k n at stands some none m other beside = elim beside.why [
  | inl clear ↦ inl (record { eligible = beside.eligible; holds = beside.holds; why = inl clear })
  | inr stop ↦ elim (cases_lt k stop.0) [
    | inl past ↦ inl (record { eligible = beside.eligible; holds = beside.holds; why = inr (stop.0, (let h : suc k ≤ stop.0 = omega (arith, past) in h), stop.2) })
    | inr le ↦ elim (cases_lt stop.0 k) [
      | inl below ↦ absurd (none-between stops own k at some none stop.0 m stop.1 below stop.2)
      | inr ge ↦
          let same : stop.0 ≡ k = omega arith in
          inr (stands-one stops k m n own own (subst (λ j. StandsAt stops j m own) same stop.2) stands).0
    ]
  ]
]

-- the task of the stop that is looked at may be chosen
pub beside-more : (tasks : List Task) (ends others : List Cell) (stops : List Stop) (own : Cell) (Holds : Task → Type 0) (k n : ℕ) (at : Option ℕ) (task : Task) → StandsAt stops k n own → IfSome at (λ j. IsLastBelow stops own k j) → IfNone at (NoneBelow stops own k) →
    IsEligible tasks others n task → Holds task → MeetsMore (IsBeside tasks ends others stops own Holds (Some k)) (IsBeside tasks ends others stops own Holds at) n task
beside-more tasks ends others stops own Holds k n at task stands some none eligible holds = record {
  kept = beside-kept tasks ends others stops own Holds k at some;
  met = record { eligible = eligible; holds = holds; why = inr (k, goes-down stops own k at some, stands) };
  only = λ m other beside. elim (beside-only tasks ends others stops own Holds k n at stands some none m other beside) [
    | inl old ↦ inl old
    | inr same ↦ inr (same, same-task tasks n other task (subst (λ j. IsTask tasks j other) same beside.eligible.there) eligible.there)
  ];
}

-- it may not be chosen
pub beside-skip : (tasks : List Task) (ends others : List Cell) (stops : List Stop) (own : Cell) (Holds : Task → Type 0) (k n : ℕ) (at : Option ℕ) (task : Task) → StandsAt stops k n own → IfSome at (λ j. IsLastBelow stops own k j) → IfNone at (NoneBelow stops own k) →
    IsTask tasks n task → (All (λ stop. ¬ Contains others stop) task.stops → Holds task → ⊥) → MeetsSame (IsBeside tasks ends others stops own Holds (Some k)) (IsBeside tasks ends others stops own Holds at)
beside-skip tasks ends others stops own Holds k n at task stands some none there not = record {
  kept = beside-kept tasks ends others stops own Holds k at some;
  only = λ m other beside. elim (beside-only tasks ends others stops own Holds k n at stands some none m other beside) [
    | inl old ↦ old
    | inr same ↦
        let is = same-task tasks n other task (subst (λ j. IsTask tasks j other) same beside.eligible.there) there in
        absurd (not (subst (λ (t : Task). All (λ stop. ¬ Contains others stop) t.stops) is beside.eligible.clear) (subst Holds is beside.holds))
  ];
}

-- all stops at the agent's own cell were looked at
pub beside-all : (tasks : List Task) (ends others : List Cell) (stops : List Stop) (firsts : List ℕ) (bars : List (Option Cell)) (clear : List ℕ) (own : Cell) (Holds : Task → Type 0) → AreListed tasks firsts stops →
    AreBars tasks ends bars clear → AreOthers own ends others → MeetsSame (IsBeside tasks ends others stops own Holds None) (IsChosen tasks others Holds)
beside-all tasks ends others stops firsts bars clear own Holds lists are all = record {
  kept = λ m other beside. (beside.eligible, beside.holds);
  only = λ m other chosen. record {
    eligible = chosen.0;
    holds = chosen.1;
    why = elim (option_cases (bar_of bars m)) [
      | inl none ↦ inl (record {
        there = chosen.0.there;
        is_open = chosen.0.is_open;
        clear = are.clear_stops m other chosen.0.there chosen.0.is_open none;
      })
      | inr some ↦
          let bar = are.barred m other some.0 chosen.0.there chosen.0.is_open some.1 in
          elim (cell_cases some.0 own) [
            | inl same ↦
                let stop = stop-listed tasks firsts stops m other own lists chosen.0.there chosen.0.is_open (subst (λ c. Contains other.stops c) same bar.stop) in
                inr (stop.0, (let h : 0 ≤ stop.0 = omega arith in h), stop.1)
            | inr apart ↦ absurd (All-contains (λ stop. ¬ Contains others stop) other.stops some.0 chosen.0.clear bar.stop (all.all some.0 bar.is_end apart))
          ]
    ];
  };
}

-- what was found, said of the tasks that may be chosen
pub found-of : (g : Floor) (tasks : List Task) (ends : List Cell) (sought : Cell → Bool) (first : Option ℕ) (last : ℕ) → IsSoughtFor g (IsChosen tasks ends Any) sought first last → AreFound g tasks ends sought first last
found-of g tasks ends sought first last s = record {
  none = none first s.least;
  least = least first s.least;
  until = λ n task eligible. s.until n task (eligible, tt);
  are_sought = record {
    only = λ c is. let one = s.only c is in (one.0, one.1, one.2.0, one.3);
    all = λ n task eligible. s.all n task (eligible, tt);
  };
}
  where
    none : (o : Option ℕ) → LeastMet (IsChosen tasks ends Any) o → IfNone o (NoneEligible tasks ends)
    none None h = λ n task eligible. h n task (eligible, tt)
    none (Some n) h = tt

    least : (o : Option ℕ) → LeastMet (IsChosen tasks ends Any) o → IfSome o (λ n. (task : Task) × IsFirst tasks ends n task)
    least None h = tt
    least (Some n) h = (h.task, record { eligible = h.met.0; least = λ m other eligible. h.least m other (eligible, tt) })

pub of-found : (g : Floor) (tasks : List Task) (ends : List Cell) (sought : Cell → Bool) (first : Option ℕ) (last : ℕ) → AreFound g tasks ends sought first last → IsSoughtFor g (IsChosen tasks ends Any) sought first last
of-found g tasks ends sought first last s = record {
  only = λ c is. let one = s.are_sought.only c is in (one.0, one.1, (one.2, tt), one.3);
  all = λ n task chosen. s.are_sought.all n task chosen.0;
  least = least first s.none s.least;
  until = λ n task chosen. s.until n task chosen.0;
}
  where
    least : (o : Option ℕ) → IfNone o (NoneEligible tasks ends) → IfSome o (λ n. (task : Task) × IsFirst tasks ends n task) → LeastMet (IsChosen tasks ends Any) o
    least None none some = λ m other chosen. none m other chosen.0
    least (Some n) none some = record { task = some.0; met = (some.1.eligible, tt); least = λ m other chosen. some.1.least m other chosen.0 }

-- the first that is near enough
pub within-of : (g : Floor) (tasks : List Task) (ends : List Cell) (here : Cell) (limit : ℕ) (o : Option ℕ) → LeastMet (IsChosen tasks ends (IsNear g here limit)) o → FirstWithin g tasks ends here limit o
within-of g tasks ends here limit None none = λ n task eligible d is. elim (cases_lt limit d) [
  | inl beyond ↦ beyond
  | inr near ↦ absurd (none n task (eligible, (d, is, near)))
]
within-of g tasks ends here limit (Some n) one = (
  one.task,
  record {
    eligible = one.met.0;
    steps = one.met.1.0;
    distance = one.met.1.1;
    near = one.met.1.2;
    before = λ m other less eligible d is. elim (cases_lt limit d) [
      | inl beyond ↦ beyond
      | inr near ↦ absurd (let low = one.least m other (eligible, (d, is, near)) in omega arith)
    ];
  },
)

pub of-within : (g : Floor) (tasks : List Task) (ends : List Cell) (here : Cell) (limit : ℕ) (o : Option ℕ) → FirstWithin g tasks ends here limit o → LeastMet (IsChosen tasks ends (IsNear g here limit)) o
of-within g tasks ends here limit None none = λ m other chosen. let beyond = none m other chosen.0 chosen.1.0 chosen.1.1 in let near = chosen.1.2 in absurd (omega arith)
of-within g tasks ends here limit (Some n) one = record {
  task = one.0;
  met = (one.1.eligible, (one.1.steps, one.1.distance, one.1.near));
  least = λ m other chosen. elim (cases_lt m n) [
    | inl less ↦ (let beyond = one.1.before m other less chosen.0 chosen.1.0 chosen.1.1 in let near = chosen.1.2 in absurd (omega arith))
    | inr le ↦ le
  ];
}

pub within-none : (g : Floor) (tasks : List Task) (ends : List Cell) (here : Cell) (limit : ℕ) (o : Option ℕ) → FirstWithin g tasks ends here limit o → IfNone o (NoneWithin g tasks ends here limit)
within-none g tasks ends here limit None h = h
within-none g tasks ends here limit (Some n) h = tt

-- the numbers of those that are clear are those of tasks
pub clear-within : (tasks : List Task) (ends : List Cell) (bars : List (Option Cell)) (clear : List ℕ) (i : ℕ) → AreBars tasks ends bars clear → i < length clear → get_or clear i 0 < length tasks
clear-within tasks ends bars clear i are lt =
    let n = get_or clear i 0 in
    let one = are.clear_only n (i, lt, get_or_default clear i n 0 lt) in
    slice_get_within tasks n one.0 one.1

pub not-near : (g : Floor) (here : Cell) (limit : ℕ) (task : Task) → IsBeyond g here limit task → IsNear g here limit task → ⊥
not-near g here limit task beyond near = let far = beyond near.0 near.1 in let h = near.2 in absurd (omega arith)

-- an end that is not the own one is among those of the others
end-of-others : (cells : List Cell) (agent : ℕ) (own : Cell) → agent < length cells → get_or cells agent own ≡ own → (cell : Cell) → Contains cells cell → cell ≢ own → Contains (remove cells agent) cell
end-of-others cells agent own lt at = λ cell has not_own.
    let all = contains-times cell cells has in
    let left = times-remove cell cells agent own lt at in
    elim (cases_Bool (is_cell cell own)) [
      | inl is ↦ absurd (not_own (is_cell-same cell own is))
      | inr other ↦ times-contains cell (remove cells agent) (let e = rw other at left in omega arith)
    ]

-- the ends of the paths of all agents but one are the others
pub others-of-agent : (cells : List Cell) (agent : ℕ) (own : Cell) → agent < length cells → get_or cells agent own ≡ own → AreOthers own cells (remove cells agent)
others-of-agent cells agent own lt at = record {
  some = λ cell has.
      let few = contains-times cell (remove cells agent) has in
      let left = times-remove cell cells agent own lt at in
      times-contains cell cells (omega arith);
  all = end-of-others cells agent own lt at;
}

-- where no task is clear and none has a stop at the agent's own end, it may choose none
pub none-passes : (tasks : List Task) (ends others : List Cell) (bars : List (Option Cell)) (clear : List ℕ) (own : Cell) → AreBars tasks ends bars clear → length clear ≡ 0 →
    (((n : ℕ) × (task : Task) × IsTask tasks n task × IsOpen task × Contains task.stops own) → ⊥) → AreOthers own ends others → NoneEligible tasks others
none-passes tasks ends others bars clear own are none no_stop all = λ n task eligible.
    elim (clear-or-beside tasks ends others own bars clear n task are all eligible) [
      | inl has ↦ absurd (let h = has.1 in omega arith)
      | inr stop ↦ absurd (no_stop (n, task, eligible.there, eligible.is_open, stop))
    ]

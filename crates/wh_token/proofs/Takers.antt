-- who takes the nearest order, of one agent more; and who is in nobody's way
use Rattle.std.proofs.Common.{◌≡◌, ℕ, ◌+◌, ◌<◌, ◌∙◌, ◌⊎◌, inl, inr, List, Bool, true, false, length, get_or, refl, ap, sym, subst, arith}
use Rattle.std.specs.Prelude.{Option, None, Some, slice_get}
use Rattle.std.proofs.lemmas.Bool.{false≢true, cases_eq, cases_lt}
use Rattle.std.proofs.lemmas.Option.{same_Some, slice_get-get_or, slice_get_within}
use Rattle.wh_grid.specs.declared.cell.Cell.{Cell}
use Rattle.wh_grid.specs.Grids.{Floor}
use Rattle.wh_path.specs.Paths.{place_of}
use Rattle.wh_field.specs.Distances.{IsDistance, distance}
use Rattle.wh_field.proofs.DistanceLaws.{distance_one}
use Rattle.wh_points.specs.Points.{Site}
use Rattle.wh_tasks.specs.declared.task.Task.{Task}
use Rattle.wh_tasks.specs.declared.task.Load.{Load}
use Rattle.wh_tasks.specs.Tasks.{IsTask, pickup}
use Rattle.wh_tasks.specs.Choice.{IsAtMost, IsNearest}
use Rattle.wh_core.specs.States.{State, load_of}
use Rattle.wh_core.specs.Steps.{Answers, IsDue, IsNext, IsNextBy, NoneIsNext, MakesWay, other_ends}
use Rattle.wh_event.specs.declared.event.Event.{Event}
use Rattle.wh_event.specs.declared.reply.Reply.{Reply}
use Rattle.wh_token.specs.declared.asking.Taker.{Taker}
use Rattle.wh_token.proofs.Duties.{next-there}
use Rattle.wh_token.specs.Asking.{MayBeAsked, IsAmong, WouldTake, TakesNearest, NoneTakes, MakesWayFirst, IsNearestTaker, AllWouldRest}

true-false : Some true ≡ Some false → ⊥
true-false e = false≢true (sym (same_Some true false e))

-- comparing

at_most-trans : (a : Option ℕ) (n : ℕ) (b : Option ℕ) (m : ℕ) (c : Option ℕ) (l : ℕ) → IsAtMost a n b m → IsAtMost b m c l → IsAtMost a n c l
at_most-trans (Some d) n (Some e) m (Some f) l h k = elim h [
  | inl less ↦ elim k [ inl more ↦ inl (omega arith) | inr same ↦ inl (omega (arith, same.0)) ]
  | inr even ↦ elim k [ inl more ↦ inl (omega (arith, even.0)) | inr same ↦ inr (even.0 ∙ same.0, omega (arith, even.1, same.1)) ]
]
at_most-trans (Some d) n (Some e) m None l h k = tt
at_most-trans (Some d) n None m (Some f) l h k = absurd k
at_most-trans (Some d) n None m None l h k = tt
at_most-trans None n (Some e) m c l h k = absurd h
at_most-trans None n None m (Some f) l h k = absurd k
at_most-trans None n None m None l h k = omega (arith, h, k)

-- the same distances, and the same number on both sides
at_most-alike : (a : Option ℕ) (n : ℕ) (b : Option ℕ) (m agent : ℕ) → IsAtMost a n b m → IsAtMost a agent b agent
at_most-alike (Some d) n (Some e) m agent h = elim h [ inl less ↦ inl less | inr even ↦ inr (even.0, omega arith) ]
at_most-alike (Some d) n None m agent h = tt
at_most-alike None n (Some e) m agent h = absurd h
at_most-alike None n None m agent h = omega arith

-- an agent for which an order is next has none that is not
pub next-none : (site : Site) (s : State) (agent n : ℕ) (task : Task) → IsNext site s agent n task → NoneIsNext s agent → ⊥
next-none site s agent n task next none =
    let nearest : IsNearest site.grid s.tasks (other_ends s agent) (place_of s.paths agent) n task = subst (λ l. IsNextBy l site s agent n task) none.0 next in
    none.1 n task nearest.eligible

-- a distance is no farther than itself
at_most-same : (a : Option ℕ) (agent : ℕ) → IsAtMost a agent a agent
at_most-same (Some d) agent = inr (refl, omega arith)
at_most-same None agent = omega arith

-- two orders of one number are one
at_most-one : (site : Site) (s : State) (agent n m : ℕ) (task job : Task) (near far : Option ℕ) → n ≡ m → IsTask s.tasks n task → IsTask s.tasks m job →
    IsDistance site.grid (place_of s.paths agent) (pickup task) near → IsDistance site.grid (place_of s.paths agent) (pickup job) far → IsAtMost near agent far agent
at_most-one site s agent n m task job near far same first second one other =
    let here = place_of s.paths agent in
    let are : task ≡ job = same_Some task job (sym first ∙ subst (λ k. IsTask s.tasks k job) (sym same) second) in
    let is : near ≡ far = distance_one site.grid here (pickup task) near one ∙ ap (λ (t : Task). distance site.grid here (pickup t)) are
    ∙ sym (distance_one site.grid here (pickup job) far other) in
    subst (λ d. IsAtMost near agent d agent) is (at_most-same near agent)

-- whichever order is next for an agent, it is no farther than another that is
distance-by : (load : Load) (site : Site) (s : State) (agent n m : ℕ) (task job : Task) (near far : Option ℕ) →
    IsNextBy load site s agent n task → IsNextBy load site s agent m job →
    IsDistance site.grid (place_of s.paths agent) (pickup task) near → IsDistance site.grid (place_of s.paths agent) (pickup job) far → IsAtMost near agent far agent
distance-by Load.None site s agent n m task job near far first second one other =
    let here = place_of s.paths agent in
    let is : first.distance ≡ near = distance_one site.grid here (pickup task) first.distance first.is_distance ∙ sym (distance_one site.grid here (pickup task) near one) in
    at_most-alike near n far m agent (subst (λ d. IsAtMost d n far m) is (first.least m job far second.eligible other))
distance-by (Load.Fetching k) site s agent n m task job near far first second one other =
    at_most-one site s agent n m task job near far (first.0 ∙ sym second.0) first.1.there second.1.there one other
distance-by (Load.Carrying k seen) site s agent n m task job near far first second one other =
    at_most-one site s agent n m task job near far (first.0 ∙ sym second.0) first.1.there second.1.there one other

one-distance : (site : Site) (s : State) (agent n m : ℕ) (near far : Option ℕ) → WouldTake site s agent n near → WouldTake site s agent m far → IsAtMost near agent far agent
one-distance site s agent n m near far one other =
    distance-by (load_of s agent) site s agent n m one.task other.task near far one.next other.next one.is_distance other.is_distance

-- of more agents

-- each of those is one of these, or takes no order
abbrev pub HaveNoMore : Site → State → (ℕ → Type 0) → (ℕ → Type 0) → Type 0
HaveNoMore site s These Those = (agent : ℕ) → Those agent → These agent ⊎ (IsDue site s agent → NoneIsNext s agent)

pub taker-stays : (site : Site) (s : State) (These Those : ℕ → Type 0) (best : Option Taker) → ((agent : ℕ) → These agent → Those agent) → HaveNoMore site s These Those →
    IsNearestTaker site s These best → IsNearestTaker site s Those best
taker-stays site s These Those None all more none = λ agent one due. elim (more agent one) [
  | inl before ↦ none agent before due
  | inr rests ↦ rests due
]
taker-stays site s These Those (Some t) all more best = record {
  one = all t.agent best.one;
  number = best.number;
  takes = best.takes;
  least = λ other n far one takes. elim (more other one) [
    | inl before ↦ best.least other n far before takes
    | inr rests ↦ absurd (next-none site s other n takes.task takes.next (rests takes.due))
  ];
}

-- each of those is one of these, or this agent
abbrev pub AreWith : (ℕ → Type 0) → ℕ → (ℕ → Type 0) → Type 0
AreWith These agent Those = (other : ℕ) → Those other → These other ⊎ (other ≡ agent)

pub taker-first : (site : Site) (s : State) (These Those : ℕ → Type 0) (one : Taker) (n : ℕ) → AreWith These one.agent Those → Those one.agent →
    WouldTake site s one.agent n one.steps → NoneTakes site s These → TakesNearest site s Those one.agent one.steps
taker-first site s These Those one n more there takes none = record {
  one = there;
  number = n;
  takes = takes;
  least = λ other m far is would. elim (more other is) [
    | inl before ↦ absurd (next-none site s other m would.task would.next (none other before would.due))
    | inr same ↦ subst (λ a. IsAtMost one.steps one.agent far a) (sym same)
        (one-distance site s one.agent n m one.steps far takes (subst (λ a. WouldTake site s a m far) same would))
  ];
}

pub taker-nearer : (site : Site) (s : State) (These Those : ℕ → Type 0) (one best : Taker) (n : ℕ) → AreWith These one.agent Those → Those one.agent →
    WouldTake site s one.agent n one.steps → TakesNearest site s These best.agent best.steps → IsAtMost one.steps one.agent best.steps best.agent →
    TakesNearest site s Those one.agent one.steps
taker-nearer site s These Those one best n more there takes old nearer = record {
  one = there;
  number = n;
  takes = takes;
  least = λ other m far is would. elim (more other is) [
    | inl before ↦ at_most-trans one.steps one.agent best.steps best.agent far other nearer (old.least other m far before would)
    | inr same ↦ subst (λ a. IsAtMost one.steps one.agent far a) (sym same)
        (one-distance site s one.agent n m one.steps far takes (subst (λ a. WouldTake site s a m far) same would))
  ];
}

pub taker-farther : (site : Site) (s : State) (These Those : ℕ → Type 0) (one best : Taker) (n : ℕ) → AreWith These one.agent Those →
    ((agent : ℕ) → These agent → Those agent) → WouldTake site s one.agent n one.steps → TakesNearest site s These best.agent best.steps →
    IsAtMost best.steps best.agent one.steps one.agent → TakesNearest site s Those best.agent best.steps
taker-farther site s These Those one best n more all takes old farther = record {
  one = all best.agent old.one;
  number = old.number;
  takes = old.takes;
  least = λ other m far is would. elim (more other is) [
    | inl before ↦ old.least other m far before would
    | inr same ↦ subst (λ a. IsAtMost best.steps best.agent far a) (sym same)
        (at_most-trans best.steps best.agent one.steps one.agent far one.agent farther
        (one-distance site s one.agent n m one.steps far takes (subst (λ a. WouldTake site s a m far) same would)))
  ];
}

-- the first agents

pub among-more : (asked : List Bool) (count agent : ℕ) → IsAmong asked count agent → IsAmong asked (count + 1) agent
among-more asked count agent is = (let h = is.0 in omega arith, is.1)

pub among-with : (asked : List Bool) (count : ℕ) → AreWith (IsAmong asked count) count (IsAmong asked (count + 1))
among-with asked count agent is = elim (cases_eq agent count) [
  | inl same ↦ inr same
  | inr ne ↦ inl (let h = is.0 in omega arith, is.1)
]

-- one that was asked already is passed over
pub among-over : (site : Site) (s : State) (asked : List Bool) (count : ℕ) → slice_get asked count ≡ Some true →
    HaveNoMore site s (IsAmong asked count) (IsAmong asked (count + 1))
among-over site s asked count over agent is = elim (among-with asked count agent is) [
  | inl before ↦ inl before
  | inr same ↦ absurd (true-false (sym over ∙ subst (λ a. slice_get asked a ≡ Some false) same is.1))
]

-- and so is one that takes no order
pub among-none : (site : Site) (s : State) (asked : List Bool) (count : ℕ) → (IsDue site s count → NoneIsNext s count) →
    HaveNoMore site s (IsAmong asked count) (IsAmong asked (count + 1))
among-none site s asked count none agent is = elim (among-with asked count agent is) [
  | inl before ↦ inl before
  | inr same ↦ inr (subst (λ a. IsDue site s a → NoneIsNext s a) (sym same) none)
]

-- in nobody's way

-- who rests does not make way
pub rests-way : (site : Site) (s new : State) (agent : ℕ) → Answers site s Reply.Rested (Event.Request agent) new → MakesWay site s agent → ⊥
rests-way site s new agent rests way = elim way.in_the_way [
  | inl wanted ↦ rests.2.not_wanted wanted
  | inr off ↦ off rests.2.berth
]

-- as the code reads

-- whether an agent was asked, as it was read
pub asked-read : (asked : List Bool) (agent : ℕ) (d b : Bool) → agent < length asked → get_or asked agent d ≡ b → slice_get asked agent ≡ Some b
asked-read asked agent d b lt is = slice_get-get_or asked agent d lt ∙ ap (λ x. Some x) is

-- an order that was found for a due agent, and its distance as the field tells it
pub would-take : (site : Site) (s : State) (agent n : ℕ) (found job : Task) (steps : Option ℕ) (g : Floor) (from to : Cell) → IsDue site s agent →
    IsNext site s agent n found → IsTask s.tasks n job → g ≡ site.grid → from ≡ place_of s.paths agent → to ≡ pickup job → IsDistance g from to steps →
    WouldTake site s agent n steps
would-take site s agent n found job steps g from to due next there over here first is =
    let same : found ≡ job = same_Some found job (sym (next-there site s agent n found next) ∙ there) in
    record {
      due = due;
      task = job;
      next = subst (λ (t : Task). IsNext site s agent n t) same next;
      is_distance = rw (← over, ← here, ← first) is;
    }

-- one agent more, which would take an order
among-one : (asked : List Bool) (agent : ℕ) (one : Taker) → one.agent ≡ agent → AreWith (IsAmong asked agent) one.agent (IsAmong asked (agent + 1))
among-one asked agent one e = subst (λ a. AreWith (IsAmong asked agent) a (IsAmong asked (agent + 1))) (sym e) (among-with asked agent)

among-this : (asked : List Bool) (agent : ℕ) (one : Taker) → one.agent ≡ agent → MayBeAsked asked agent → IsAmong asked (agent + 1) one.agent
among-this asked agent one e may = subst (λ a. IsAmong asked (agent + 1) a) (sym e) (omega arith, may)

-- that it is the one that the code has
abbrev pub IsTaker : Site → State → ℕ → Taker → Type 0
IsTaker site s agent one = (one.agent ≡ agent) × ((n : ℕ) × WouldTake site s agent n one.steps)

taker-own : (site : Site) (s : State) (agent : ℕ) (one : Taker) (is : IsTaker site s agent one) → WouldTake site s one.agent is.1.0 one.steps
taker-own site s agent one is = subst (λ a. WouldTake site s a is.1.0 one.steps) (sym is.0) is.1.1

pub among-first : (site : Site) (s : State) (asked : List Bool) (agent : ℕ) (one : Taker) → MayBeAsked asked agent → IsTaker site s agent one →
    NoneTakes site s (IsAmong asked agent) → TakesNearest site s (IsAmong asked (agent + 1)) one.agent one.steps
among-first site s asked agent one may is none =
    taker-first site s (IsAmong asked agent) (IsAmong asked (agent + 1)) one is.1.0 (among-one asked agent one is.0) (among-this asked agent one is.0 may)
    (taker-own site s agent one is) none

pub among-nearer : (site : Site) (s : State) (asked : List Bool) (agent : ℕ) (one best : Taker) → MayBeAsked asked agent → IsTaker site s agent one →
    TakesNearest site s (IsAmong asked agent) best.agent best.steps → IsAtMost one.steps one.agent best.steps best.agent →
    TakesNearest site s (IsAmong asked (agent + 1)) one.agent one.steps
among-nearer site s asked agent one best may is old nearer =
    taker-nearer site s (IsAmong asked agent) (IsAmong asked (agent + 1)) one best is.1.0 (among-one asked agent one is.0) (among-this asked agent one is.0 may)
    (taker-own site s agent one is) old nearer

pub among-farther : (site : Site) (s : State) (asked : List Bool) (agent : ℕ) (one best : Taker) → IsTaker site s agent one →
    TakesNearest site s (IsAmong asked agent) best.agent best.steps → IsAtMost best.steps best.agent one.steps one.agent →
    TakesNearest site s (IsAmong asked (agent + 1)) best.agent best.steps
among-farther site s asked agent one best is old farther =
    taker-farther site s (IsAmong asked agent) (IsAmong asked (agent + 1)) one best is.1.0 (among-one asked agent one is.0) (among-more asked agent)
    (taker-own site s agent one is) old farther

-- all were looked at
pub among-all : (asked : List Bool) (count agent : ℕ) → count ≡ length asked → MayBeAsked asked agent → IsAmong asked count agent
among-all asked count agent all may = (let h = slice_get_within asked agent false may in omega arith, may)

pub whole-taker : (site : Site) (s : State) (asked : List Bool) (count : ℕ) (t : Taker) → count ≡ length asked → TakesNearest site s (IsAmong asked count) t.agent t.steps →
    (distance : Option ℕ) × TakesNearest site s (MayBeAsked asked) t.agent distance
whole-taker site s asked count t all best = (
  t.steps,
  record {
    one = best.one.1;
    number = best.number;
    takes = best.takes;
    least = λ other n far may would. best.least other n far (among-all asked count other all may) would;
  },
)

-- in the order of their numbers
pub rest-more : (site : Site) (s : State) (asked : List Bool) (agent : ℕ) → AllWouldRest site s (IsAmong asked agent) →
    (IsDue site s agent → Answers site s Reply.Rested (Event.Request agent) s) → AllWouldRest site s (IsAmong asked (agent + 1))
rest-more site s asked agent before this other is due = elim (among-with asked agent other is) [
  | inl old ↦ before other old due
  | inr same ↦ subst (λ a. Answers site s Reply.Rested (Event.Request a) s) (sym same) (this (subst (λ a. IsDue site s a) same due))
]

pub rest-over : (site : Site) (s : State) (asked : List Bool) (agent : ℕ) → AllWouldRest site s (IsAmong asked agent) → slice_get asked agent ≡ Some true →
    AllWouldRest site s (IsAmong asked (agent + 1))
rest-over site s asked agent before over other is due = elim (among-with asked agent other is) [
  | inl old ↦ before other old due
  | inr same ↦ absurd (true-false (sym over ∙ subst (λ a. slice_get asked a ≡ Some false) same is.1))
]

pub way-first : (site : Site) (s : State) (asked : List Bool) (agent : ℕ) → AllWouldRest site s (IsAmong asked agent) → MayBeAsked asked agent →
    NoneTakes site s (MayBeAsked asked) → IsDue site s agent × MakesWay site s agent → MakesWayFirst site s (MayBeAsked asked) agent
way-first site s asked agent before may none way = record {
  one = may;
  none = none;
  due = way.0;
  makes_way = way.1;
  first = λ other is due makes. elim (cases_lt other agent) [
    | inl low ↦ absurd (rests-way site s s other (before other (low, is) due) makes)
    | inr high ↦ omega arith
  ];
}

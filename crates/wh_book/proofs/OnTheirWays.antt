-- where all are on their ways, the steps are those of a warehouse in which nobody was ever stopped, whether paths go on home or not
use Rattle.std.proofs.Common.{◌≡◌, ℕ, inl, inr, List, false, length, sym, subst}
use Rattle.wh_grid.specs.declared.cell.Cell.{Cell}
use Rattle.wh_grid.specs.Grids.{Floor}
use Rattle.wh_path.specs.Paths.{end_of, path_of, place_of}
use Rattle.wh_path.proofs.AtLemmas.{at-resting}
use Rattle.wh_points.specs.Points.{Site}
use Rattle.wh_tasks.specs.declared.task.Task.{Task}
use Rattle.wh_tasks.specs.Tasks.{stops_left}
use Rattle.wh_planner.specs.Duties.{Delivers, ParksAt, IsLawful, HasNoClearWay}
use Rattle.wh_core.specs.States.{State}
use Rattle.wh_core.specs.Steps as core
use Rattle.wh_core.specs.Steps.{IsDue, IsNextBy, IsDeliveryCell, IsWanted, IsStray, tour}
use Rattle.wh_core.specs.Laws.{AllOnTheirWays}
use Rattle.wh_core.specs.Ordinary as plain
use Rattle.wh_event.specs.declared.event.Event.{Event}
use Rattle.wh_event.specs.declared.reply.Refusal.{Refusal}
use Rattle.wh_event.specs.declared.reply.Reply.{Reply}
use Rattle.wh_core.proofs.Work.{IsKept}
use Rattle.wh_core.proofs.Sound.{kept-of, ways-unloaded, none-halted}
use Rattle.wh_core.proofs.Idle.{idle-rests}
use Rattle.wh_core.proofs.Ways.{end-berth, berth-off, way-cause, open-left, next-nearest}
use Rattle.wh_book.specs.OnTheirWays as ways
use Rattle.wh_book.specs.OnTheirWays.{IsOutOfTheWay, StepsOnTheirWays}

-- a path or the lack of a way that serves one duty serves another that asks no more
lawful-serves : (g : Floor) (nofollow : _) (paths : List (List Cell)) (agent legs : ℕ) (P Q : List Cell → Type 0) (path : List Cell) →
    (P path → Q path) → IsLawful g nofollow paths agent legs P path → IsLawful g nofollow paths agent legs Q path
lawful-serves g nofollow paths agent legs P Q path f l =
    record { walk = l.walk; starts_here = l.starts_here; free = l.free; bounded = l.bounded; serves = f l.serves }

none-serves : (g : Floor) (paths : List (List Cell)) (agent : ℕ) (P Q : List Cell → Type 0) → ((way : List Cell) → Q way → P way) →
    HasNoClearWay g paths agent P → HasNoClearWay g paths agent Q
none-serves g paths agent P Q f none way clear =
    none way (record { walk = clear.walk; starts_here = clear.starts_here; clear = clear.clear; serves = f way clear.serves })

-- without homes a due agent comes to rest where it is
here : (site : Site) (s : State) (agent : ℕ) → site.homes ≡ false → IsDue site s agent → end_of s.paths agent ≡ place_of s.paths agent
here site s agent off due = sym (at-resting (path_of s.paths agent) 0 (idle-rests site s agent off due.idle))

-- so it is in nobody's way where it comes to rest in nobody's way
pub ends-out_of_the_way : (site : Site) (s : State) (agent : ℕ) → IsDue site s agent → ¬ IsDeliveryCell s (end_of s.paths agent) → IsOutOfTheWay site s agent
ends-out_of_the_way site s agent due free off at_it = free (subst (λ c. IsDeliveryCell s c) (sym (here site s agent off due)) at_it)

pub not-wanted : (site : Site) (s : State) (cell : Cell) → IsKept site s → AllOnTheirWays site s → (site.homes ≡ false → ¬ IsDeliveryCell s cell) → ¬ IsWanted site s cell
not-wanted site s cell kept on_ways free wanted = elim wanted.1 [
  | inl at_it ↦ free wanted.0 at_it
  | inr awaited ↦ none-halted site s awaited.0 awaited.1 kept on_ways awaited.2
]

to-allowed : (site : Site) (s : State) (agent : ℕ) (cell : Cell) → site.homes ≡ false → core.IsAllowed site s agent cell → plain.IsAllowed site s agent cell
to-allowed site s agent cell off a = record { point = a.rest.berth.point; no_delivery = λ at_it. a.rest.not_wanted (off, inl at_it); no_end = a.no_end }

from-allowed : (site : Site) (s : State) (agent : ℕ) (cell : Cell) → site.homes ≡ false → IsKept site s → AllOnTheirWays site s → plain.IsAllowed site s agent cell → core.IsAllowed site s agent cell
from-allowed site s agent cell off kept on_ways a = record {
  rest = record { berth = berth-off site agent cell off a.point; not_wanted = not-wanted site s cell kept on_ways (λ _. a.no_delivery) };
  no_end = a.no_end;
}

-- where all are on their ways a due agent is no stray
no-stray : (site : Site) (s : State) (agent : ℕ) → IsKept site s → AllOnTheirWays site s → IsDue site s agent → ¬ IsStray site s agent
no-stray site s agent kept on_ways due stray = elim stray [
  | inl loaded ↦ loaded (ways-unloaded site s agent kept on_ways due)
  | inr off ↦ off (end-berth site s agent on_ways due)
]

-- who makes way does so since a task is delivered where it is, and paths end at stops
to-way : (site : Site) (s : State) (agent : ℕ) → IsKept site s → AllOnTheirWays site s → IsDue site s agent → core.MakesWay site s agent → ways.MakesWay site s agent
to-way site s agent kept on_ways due w =
    let cause = way-cause site s agent kept on_ways due w in
    record {
      ends_at_stops = cause.0;
      makes_way = record {
        none = elim w.no_work [ inl none ↦ none.1 | inr shut ↦ absurd (no-stray site s agent kept on_ways due shut.stray) ];
        in_the_way = subst (λ c. IsDeliveryCell s c) (here site s agent cause.0 due) cause.1;
      };
    }

from-way : (site : Site) (s : State) (agent : ℕ) → IsKept site s → AllOnTheirWays site s → IsDue site s agent → ways.MakesWay site s agent → core.MakesWay site s agent
from-way site s agent kept on_ways due w = record {
  no_work = inl (ways-unloaded site s agent kept on_ways due, w.makes_way.none);
  in_the_way = inl (w.ends_at_stops, inl (subst (λ c. IsDeliveryCell s c) (sym (here site s agent w.ends_at_stops due)) w.makes_way.in_the_way));
}

from-next : (site : Site) (s : State) (agent n : ℕ) (task : Task) → IsKept site s → AllOnTheirWays site s → IsDue site s agent → plain.IsNext site s agent n task →
    core.IsNext site s agent n task
from-next site s agent n task kept on_ways due next =
    subst (λ l. IsNextBy l site s agent n task) (sym (ways-unloaded site s agent kept on_ways due)) next

-- all stops of a nearest task are left
all-left : (site : Site) (s : State) (agent n : ℕ) (task : Task) → IsKept site s → plain.IsNext site s agent n task → stops_left task ≡ task.stops
all-left site s agent n task kept next = open-left site s n task kept next.eligible.there next.eligible.is_open

to-refused : (site : Site) (s : State) (refusal : Refusal) (event : Event) → IsKept site s → AllOnTheirWays site s → core.Refuses site s refusal event → ways.Refuses site s refusal event
to-refused site s Refusal.NoPath (Event.Request agent) kept on_ways why = (
  why.0,
  elim why.1 [
    | inl w ↦
        let next = next-nearest site s agent w.0 w.1 kept on_ways why.0 w.2 in
        inl (
          w.0,
          w.1,
          next,
          subst (λ stops. HasNoClearWay site.grid s.paths agent (Delivers (tour site agent stops))) (all-left site s agent w.0 w.1 kept next) w.3,
        )
    | inr w ↦
        let way = to-way site s agent kept on_ways why.0 w.0 in
        inr (
          way,
          none-serves site.grid s.paths agent (ParksAt (core.IsAllowed site s agent)) (ParksAt (plain.IsAllowed site s agent))
              (λ path a. from-allowed site s agent _ way.ends_at_stops kept on_ways a) w.1,
        )
  ],
)
to-refused site s refusal event kept on_ways why = why

from-refused : (site : Site) (s : State) (refusal : Refusal) (event : Event) → IsKept site s → AllOnTheirWays site s → ways.Refuses site s refusal event → core.Refuses site s refusal event
from-refused site s Refusal.NoPath (Event.Request agent) kept on_ways why = (
  why.0,
  elim why.1 [
    | inl w ↦ inl (
      w.0,
      w.1,
      from-next site s agent w.0 w.1 kept on_ways why.0 w.2,
      subst (λ stops. HasNoClearWay site.grid s.paths agent (Delivers (tour site agent stops))) (sym (all-left site s agent w.0 w.1 kept w.2)) w.3,
      inl (ways-unloaded site s agent kept on_ways why.0, end-berth site s agent on_ways why.0),
    )
    | inr w ↦ inr (
      from-way site s agent kept on_ways why.0 w.0,
      none-serves site.grid s.paths agent (ParksAt (plain.IsAllowed site s agent)) (ParksAt (core.IsAllowed site s agent))
          (λ path a. to-allowed site s agent _ w.0.ends_at_stops a) w.1,
    )
  ],
)
from-refused site s refusal event kept on_ways why = why

to-ways : (site : Site) (old : State) (reply : Reply) (event : Event) (new : State) → IsKept site old → AllOnTheirWays site old →
    core.Answers site old reply event new → ways.Answers site old reply event new
to-ways site old (Reply.Refused refusal) event new kept on_ways step = (to-refused site old refusal event kept on_ways step.0, step.1)
to-ways site old (Reply.Took n path) (Event.Request agent) new kept on_ways step =
    let task = step.1.0 in
    let next = next-nearest site old agent n task kept on_ways step.0 step.1.1 in
    let lawful = subst (λ stops. IsLawful site.grid site.layout.nofollow old.paths agent (length (tour site agent task.stops)) (Delivers (tour site agent stops)) path)
    (all-left site old agent n task kept next) step.1.2 in
    (step.0, (task, next, lawful, step.1.3))
to-ways site old Reply.Rested (Event.Request agent) new kept on_ways step = (
  step.0,
  step.1.1,
  (λ off at_it. step.2.not_wanted (off, inl (subst (λ c. IsDeliveryCell old c) (sym (here site old agent off step.0)) at_it))),
  step.3,
)
to-ways site old (Reply.Parked point path) (Event.Request agent) new kept on_ways step =
    let way = to-way site old agent kept on_ways step.0 step.1 in (
      step.0,
      way,
      lawful-serves site.grid site.layout.nofollow old.paths agent 2 (ParksAt (core.IsAllowed site old agent)) (ParksAt (plain.IsAllowed site old agent)) path
          (λ a. to-allowed site old agent _ way.ends_at_stops a) step.2,
      step.3,
      step.4,
    )
to-ways site old reply event new kept on_ways step = step

from-ways : (site : Site) (old : State) (reply : Reply) (event : Event) (new : State) → IsKept site old → AllOnTheirWays site old →
    ways.Answers site old reply event new → core.Answers site old reply event new
from-ways site old (Reply.Refused refusal) event new kept on_ways step = (from-refused site old refusal event kept on_ways step.0, step.1)
from-ways site old (Reply.Took n path) (Event.Request agent) new kept on_ways step =
    let task = step.1.0 in
    let lawful = subst (λ stops. IsLawful site.grid site.layout.nofollow old.paths agent (length (tour site agent task.stops)) (Delivers (tour site agent stops)) path)
    (sym (all-left site old agent n task kept step.1.1)) step.1.2 in
    (step.0, (task, from-next site old agent n task kept on_ways step.0 step.1.1, lawful, step.1.3))
from-ways site old Reply.Rested (Event.Request agent) new kept on_ways step = (
  step.0,
  (ways-unloaded site old agent kept on_ways step.0, step.1),
  record {
    berth = end-berth site old agent on_ways step.0;
    not_wanted = not-wanted site old _ kept on_ways (λ off at_it. step.2 off (subst (λ c. IsDeliveryCell old c) (here site old agent off step.0) at_it));
  },
  step.3,
)
from-ways site old (Reply.Parked point path) (Event.Request agent) new kept on_ways step = (
  step.0,
  from-way site old agent kept on_ways step.0 step.1,
  lawful-serves site.grid site.layout.nofollow old.paths agent 2 (ParksAt (plain.IsAllowed site old agent)) (ParksAt (core.IsAllowed site old agent)) path
      (λ a. from-allowed site old agent _ step.1.ends_at_stops kept on_ways a) step.2,
  step.3,
  step.4,
)
from-ways site old reply event new kept on_ways step = step

pub steps_on_their_ways : StepsOnTheirWays
steps_on_their_ways site old reply event new begins on_ways =
    let kept = kept-of site old begins.sound in
    (λ step. to-ways site old reply event new kept on_ways step, λ step. from-ways site old reply event new kept on_ways step)

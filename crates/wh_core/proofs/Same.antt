-- without homes, and where all are on their ways, the steps are those of Token Passing
use Rattle.std.proofs.Common.{◌≡◌, ℕ, ◌∙◌, inl, inr, List, [], ◌∷◌, false, length, sym, subst}
use Rattle.wh_grid.specs.declared.cell.Cell.{Cell}
use Rattle.wh_grid.specs.Grids.{Floor}
use Rattle.wh_path.specs.Paths.{end_of, path_of, place_of}
use Rattle.wh_path.proofs.AtLemmas.{at-resting}
use Rattle.wh_points.specs.Points.{Site, IsLayout, home_of}
use Rattle.wh_tasks.specs.declared.task.Task.{Task}
use Rattle.wh_tasks.specs.Tasks.{stops_left}
use Rattle.wh_planner.specs.Duties.{Delivers, ParksAt, IsLawful, HasNoClearWay}
use Rattle.wh_core.specs.States.{State}
use Rattle.wh_core.specs.Steps as core
use Rattle.wh_core.specs.Steps.{IsDue, IsIdleIn, IsNextBy, IsDeliveryCell, IsAwaited, IsWanted, IsRestCell, IsStray, tour}
use Rattle.wh_core.specs.Laws.{AllOnTheirWays, IsSound}
use Rattle.wh_core.specs.Ordinary as plain
use Rattle.wh_event.specs.declared.event.Event.{Event}
use Rattle.wh_event.specs.declared.reply.Refusal.{Refusal}
use Rattle.wh_event.specs.declared.reply.Reply.{Reply}
use Rattle.wh_event.specs.declared.entry.Entry.{Entry}
use Rattle.wh_core.proofs.StepKinds.{step-moves}
use Rattle.wh_core.proofs.Work.{IsKept}
use Rattle.wh_core.proofs.Sound.{kept-of, sound-moves, ways-moves, ways-unloaded, none-halted, opening-begins}
use Rattle.wh_core.proofs.Drops.{homeward-off}
use Rattle.wh_core.proofs.Idle.{idle-rests, idle-steps, steps-idle}
use Rattle.wh_core.proofs.Ways.{end-berth, berth-off, way-cause, open-left, next-nearest}

-- a path or a way that serves one duty serves another that asks no more
lawful-serves : (g : Floor) (nofollow : _) (paths : List (List Cell)) (agent legs : ℕ) (P Q : List Cell → Type 0) (path : List Cell) →
    (P path → Q path) → IsLawful g nofollow paths agent legs P path → IsLawful g nofollow paths agent legs Q path
lawful-serves g nofollow paths agent legs P Q path f l =
    record { walk = l.walk; starts_here = l.starts_here; free = l.free; bounded = l.bounded; serves = f l.serves }

none-serves : (g : Floor) (paths : List (List Cell)) (agent : ℕ) (P Q : List Cell → Type 0) → ((way : List Cell) → Q way → P way) →
    HasNoClearWay g paths agent P → HasNoClearWay g paths agent Q
none-serves g paths agent P Q f none way clear =
    none way (record { walk = clear.walk; starts_here = clear.starts_here; clear = clear.clear; serves = f way clear.serves })

tour-off : (site : Site) (agent : ℕ) (stops : List Cell) → site.homes ≡ false → tour site agent stops ≡ stops
tour-off site agent stops off = homeward-off site.homes (home_of site.layout agent) stops off

-- a due agent is at rest
pub to-due : (site : Site) (s : State) (agent : ℕ) → site.homes ≡ false → IsDue site s agent → plain.IsDue s agent
to-due site s agent off due = record { known = due.known; resting = idle-rests site s agent off due.idle }

pub from-due : (site : Site) (s : State) (agent : ℕ) → plain.IsDue s agent → IsDue site s agent
from-due site s agent due = record { known = due.known; idle = inl due.resting }

-- so it comes to rest where it is
here : (s : State) (agent : ℕ) → plain.IsDue s agent → end_of s.paths agent ≡ place_of s.paths agent
here s agent due = sym (at-resting (path_of s.paths agent) 0 due.resting)

pub to-none : (g : Floor) (s : State) (agent : ℕ) (Serves : List Cell → Type 0) → plain.IsDue s agent → HasNoClearWay g s.paths agent Serves → plain.HasNoClearWay g s.paths agent Serves
to-none g s agent Serves due none way c =
    none way (record { walk = c.walk; starts_here = c.starts_here ∙ sym (here s agent due); clear = c.clear; serves = c.serves })

pub from-none : (g : Floor) (s : State) (agent : ℕ) (Serves : List Cell → Type 0) → plain.IsDue s agent → plain.HasNoClearWay g s.paths agent Serves → HasNoClearWay g s.paths agent Serves
from-none g s agent Serves due none way c =
    none way (record { walk = c.walk; starts_here = c.starts_here ∙ here s agent due; clear = c.clear; serves = c.serves })

not-wanted : (site : Site) (s : State) (cell : Cell) → IsKept site s → AllOnTheirWays site s → ¬ IsDeliveryCell s cell → ¬ IsWanted site s cell
not-wanted site s cell kept home off wanted = elim wanted.1 [
  | inl at_it ↦ off at_it
  | inr awaited ↦ none-halted site s awaited.0 awaited.1 kept home awaited.2
]

to-allowed : (site : Site) (s : State) (agent : ℕ) (cell : Cell) → site.homes ≡ false → core.IsAllowed site s agent cell → plain.IsAllowed site s agent cell
to-allowed site s agent cell off a = record { point = a.rest.berth.point; no_delivery = λ at_it. a.rest.not_wanted (off, inl at_it); no_end = a.no_end }

from-allowed : (site : Site) (s : State) (agent : ℕ) (cell : Cell) → site.homes ≡ false → IsKept site s → AllOnTheirWays site s → plain.IsAllowed site s agent cell → core.IsAllowed site s agent cell
from-allowed site s agent cell off kept home a = record {
  rest = record { berth = berth-off site agent cell off a.point; not_wanted = not-wanted site s cell kept home a.no_delivery };
  no_end = a.no_end;
}

-- where all are on their ways a due agent is no stray
no-stray : (site : Site) (s : State) (agent : ℕ) → IsKept site s → AllOnTheirWays site s → IsDue site s agent → ¬ IsStray site s agent
no-stray site s agent kept home due stray = elim stray [
  | inl loaded ↦ loaded (ways-unloaded site s agent kept home due)
  | inr off ↦ off (end-berth site s agent home due)
]

to-way : (site : Site) (s : State) (agent : ℕ) → site.homes ≡ false → IsKept site s → AllOnTheirWays site s → IsDue site s agent → core.MakesWay site s agent → plain.MakesWay s agent
to-way site s agent off kept home due w = record {
  none = elim w.no_work [ inl none ↦ none.1 | inr shut ↦ absurd (no-stray site s agent kept home due shut.stray) ];
  in_the_way = subst (λ c. IsDeliveryCell s c) (here s agent (to-due site s agent off due)) (way-cause site s agent kept home due w).1;
}

from-way : (site : Site) (s : State) (agent : ℕ) → site.homes ≡ false → IsKept site s → AllOnTheirWays site s → plain.IsDue s agent → plain.MakesWay s agent → core.MakesWay site s agent
from-way site s agent off kept home due w = record {
  no_work = inl (ways-unloaded site s agent kept home (from-due site s agent due), w.none);
  in_the_way = inl (off, inl (subst (λ c. IsDeliveryCell s c) (sym (here s agent due)) w.in_the_way));
}

from-next : (site : Site) (s : State) (agent n : ℕ) (task : Task) → IsKept site s → AllOnTheirWays site s → plain.IsDue s agent → plain.IsNext site s agent n task →
    core.IsNext site s agent n task
from-next site s agent n task kept home due next =
    subst (λ l. IsNextBy l site s agent n task) (sym (ways-unloaded site s agent kept home (from-due site s agent due))) next

-- the tour through the stops that are left of a nearest task is all its stops
all-left : (site : Site) (s : State) (agent n : ℕ) (task : Task) → site.homes ≡ false → IsKept site s → plain.IsNext site s agent n task →
    tour site agent (stops_left task) ≡ task.stops
all-left site s agent n task off kept next = tour-off site agent (stops_left task) off ∙ open-left site s n task kept next.eligible.there next.eligible.is_open

to-lawful : (site : Site) (s : State) (agent n : ℕ) (task : Task) (path : List Cell) → site.homes ≡ false → IsKept site s → plain.IsNext site s agent n task →
    IsLawful site.grid site.layout.nofollow s.paths agent (length (tour site agent task.stops)) (Delivers (tour site agent (stops_left task))) path →
    IsLawful site.grid site.layout.nofollow s.paths agent (length task.stops) (Delivers task.stops) path
to-lawful site s agent n task path off kept next l =
    subst (λ stops. IsLawful site.grid site.layout.nofollow s.paths agent (length task.stops) (Delivers stops) path) (all-left site s agent n task off kept next)
    (subst (λ stops. IsLawful site.grid site.layout.nofollow s.paths agent (length stops) (Delivers (tour site agent (stops_left task))) path) (tour-off site agent task.stops off) l)

from-lawful : (site : Site) (s : State) (agent n : ℕ) (task : Task) (path : List Cell) → site.homes ≡ false → IsKept site s → plain.IsNext site s agent n task →
    IsLawful site.grid site.layout.nofollow s.paths agent (length task.stops) (Delivers task.stops) path →
    IsLawful site.grid site.layout.nofollow s.paths agent (length (tour site agent task.stops)) (Delivers (tour site agent (stops_left task))) path
from-lawful site s agent n task path off kept next l =
    subst (λ stops. IsLawful site.grid site.layout.nofollow s.paths agent (length stops) (Delivers (tour site agent (stops_left task))) path) (sym (tour-off site agent task.stops off))
    (subst (λ stops. IsLawful site.grid site.layout.nofollow s.paths agent (length task.stops) (Delivers stops) path) (sym (all-left site s agent n task off kept next)) l)

to-refused : (site : Site) (s : State) (refusal : Refusal) (event : Event) → site.homes ≡ false → IsKept site s → AllOnTheirWays site s → core.Refuses site s refusal event → plain.Refuses site s refusal event
to-refused site s (Refusal.Moving left) (Event.Request agent) off kept home why = (why.0, idle-steps site s agent left off why.0.known why.1, why.2)
to-refused site s Refusal.NoPath (Event.Request agent) off kept home why =
    let due = to-due site s agent off why.0 in (
      due,
      elim why.1 [
        | inl w ↦
            let next = next-nearest site s agent w.0 w.1 kept home why.0 w.2 in
            inl (
              w.0,
              w.1,
              next,
              to-none site.grid s agent (Delivers w.1.stops) due
                  (subst (λ stops. HasNoClearWay site.grid s.paths agent (Delivers stops)) (all-left site s agent w.0 w.1 off kept next) w.3),
            )
        | inr w ↦ inr (
          to-way site s agent off kept home why.0 w.0,
          to-none site.grid s agent (ParksAt (plain.IsAllowed site s agent)) due
              (none-serves site.grid s.paths agent (ParksAt (core.IsAllowed site s agent)) (ParksAt (plain.IsAllowed site s agent))
              (λ way a. from-allowed site s agent _ off kept home a) w.1),
        )
      ],
    )
to-refused site s refusal event off kept home why = why

from-refused : (site : Site) (s : State) (refusal : Refusal) (event : Event) → site.homes ≡ false → IsKept site s → AllOnTheirWays site s → plain.Refuses site s refusal event → core.Refuses site s refusal event
from-refused site s (Refusal.Moving left) (Event.Request agent) off kept home why = (why.0, steps-idle left site s agent off why.0.known why.1, why.2)
from-refused site s Refusal.NoPath (Event.Request agent) off kept home why =
    let due = from-due site s agent why.0 in (
      due,
      elim why.1 [
        | inl w ↦
            inl (
              w.0,
              w.1,
              from-next site s agent w.0 w.1 kept home why.0 w.2,
              subst (λ stops. HasNoClearWay site.grid s.paths agent (Delivers stops)) (sym (all-left site s agent w.0 w.1 off kept w.2))
                  (from-none site.grid s agent (Delivers w.1.stops) why.0 w.3),
              inl (ways-unloaded site s agent kept home due, end-berth site s agent home due),
            )
        | inr w ↦ inr (
          from-way site s agent off kept home why.0 w.0,
          from-none site.grid s agent (ParksAt (core.IsAllowed site s agent)) why.0 (λ way c. w.1 way (record {
            walk = c.walk;
            starts_here = c.starts_here;
            clear = c.clear;
            serves = to-allowed site s agent _ off c.serves;
          })),
        )
      ],
    )
from-refused site s refusal event off kept home why = why

to-plain : (site : Site) (old : State) (reply : Reply) (event : Event) (new : State) → site.homes ≡ false → IsKept site old → AllOnTheirWays site old →
    core.Answers site old reply event new → plain.Answers site old reply event new
to-plain site old (Reply.Refused refusal) event new off kept home step = (to-refused site old refusal event off kept home step.0, step.1)
to-plain site old (Reply.Took n path) (Event.Request agent) new off kept home step =
    let next = next-nearest site old agent n step.1.0 kept home step.0 step.1.1 in
    (to-due site old agent off step.0, (step.1.0, next, to-lawful site old agent n step.1.0 path off kept next step.1.2, step.1.3))
to-plain site old Reply.Rested (Event.Request agent) new off kept home step =
    let due = to-due site old agent off step.0 in
    (due, step.1.1, (λ at_it. step.2.not_wanted (off, inl (subst (λ c. IsDeliveryCell old c) (sym (here old agent due)) at_it))), step.3)
to-plain site old (Reply.Parked point path) (Event.Request agent) new off kept home step = (
  to-due site old agent off step.0,
  to-way site old agent off kept home step.0 step.1,
  lawful-serves site.grid site.layout.nofollow old.paths agent 2 (ParksAt (core.IsAllowed site old agent)) (ParksAt (plain.IsAllowed site old agent)) path
      (λ a. to-allowed site old agent _ off a) step.2,
  step.3,
  step.4,
)
to-plain site old reply event new off kept home step = step

from-plain : (site : Site) (old : State) (reply : Reply) (event : Event) (new : State) → site.homes ≡ false → IsKept site old → AllOnTheirWays site old →
    plain.Answers site old reply event new → core.Answers site old reply event new
from-plain site old (Reply.Refused refusal) event new off kept home step = (from-refused site old refusal event off kept home step.0, step.1)
from-plain site old (Reply.Took n path) (Event.Request agent) new off kept home step = (
  from-due site old agent step.0,
  (step.1.0, from-next site old agent n step.1.0 kept home step.0 step.1.1, from-lawful site old agent n step.1.0 path off kept step.1.1 step.1.2, step.1.3),
)
from-plain site old Reply.Rested (Event.Request agent) new off kept home step =
    let due = from-due site old agent step.0 in (
      due,
      (ways-unloaded site old agent kept home due, step.1),
      record {
        berth = end-berth site old agent home due;
        not_wanted = not-wanted site old _ kept home (λ at_it. step.2 (subst (λ c. IsDeliveryCell old c) (here old agent step.0) at_it));
      },
      step.3,
    )
from-plain site old (Reply.Parked point path) (Event.Request agent) new off kept home step = (
  from-due site old agent step.0,
  from-way site old agent off kept home step.0 step.1,
  lawful-serves site.grid site.layout.nofollow old.paths agent 2 (ParksAt (plain.IsAllowed site old agent)) (ParksAt (core.IsAllowed site old agent)) path
      (λ a. from-allowed site old agent _ off kept home a) step.2,
  step.3,
  step.4,
)
from-plain site old reply event new off kept home step = step

pub ordinary_steps : plain.OrdinarySteps
ordinary_steps site old reply event new off beginning home =
    let kept = kept-of site old beginning.sound in
    (λ step. to-plain site old reply event new off kept home step, λ step. from-plain site old reply event new off kept home step)

to-runs : (site : Site) (old : State) (entries : List Entry) (new : State) → site.homes ≡ false → IsLayout site.grid site.layout → IsSound site old → AllOnTheirWays site old →
    core.Run site old entries new → plain.Run site old entries new
to-runs site old [] new off layout sound home run = run
to-runs site old (entry ∷ entries) new off layout sound home run =
    let m = step-moves site old entry run.0 run.1 in (
      run.0,
      to-plain site old entry.reply entry.event run.0 off (kept-of site old sound) home run.1,
      to-runs site run.0 entries new off layout (sound-moves site old run.0 sound m) (ways-moves site old run.0 layout sound home m) run.2,
    )

from-runs : (site : Site) (old : State) (entries : List Entry) (new : State) → site.homes ≡ false → IsLayout site.grid site.layout → IsSound site old → AllOnTheirWays site old →
    plain.Run site old entries new → core.Run site old entries new
from-runs site old [] new off layout sound home run = run
from-runs site old (entry ∷ entries) new off layout sound home run =
    let step = from-plain site old entry.reply entry.event run.0 off (kept-of site old sound) home run.1 in
    let m = step-moves site old entry run.0 step in
    (run.0, step, from-runs site run.0 entries new off layout (sound-moves site old run.0 sound m) (ways-moves site old run.0 layout sound home m) run.2)

pub ordinary_runs : plain.OrdinaryRuns
ordinary_runs site old entries new off opening =
    let begins = opening-begins site old opening in (
      λ run. to-runs site old entries new off begins.0.layout begins.0.sound begins.1 run,
      λ run. from-runs site old entries new off begins.0.layout begins.0.sound begins.1 run,
    )

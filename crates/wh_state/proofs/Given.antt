-- what is kept of a sound state that is given
use Rattle.std.proofs.Common.{◌≡◌, ℕ, ◌+◌, ◌<◌, ◌≤◌, inl, inr, List, length, get_or, ap, sym, ◌∙◌, arith, refl, subst}
use Rattle.std.specs.Prelude.{Some, None, All, replicate}
use Rattle.std.proofs.lemmas.Bool.{cases_lt}
use Rattle.std.proofs.lemmas.Option.{same_Some, slice_get_within, slice_get-get_or, get_or_from_slice_get}
use Rattle.std.proofs.lemmas.List.{length-replicate, get_or-replicate, get_or_default, get_or_past}
use Rattle.wh_grid.specs.declared.cell.Cell.{Cell}
use Rattle.wh_path.specs.Paths.{ends}
use Rattle.wh_points.specs.Points.{Site}
use Rattle.wh_tasks.specs.declared.task.Task.{Task}
use Rattle.wh_tasks.specs.declared.task.Load.{Load}
use Rattle.wh_tasks.specs.Tasks.{IsTask, load_for}
use Rattle.wh_tasks.specs.Changes.{IsInTime, IsOrderly}
use Rattle.wh_tasks.specs.Loads.{task_of}
use Rattle.wh_core.specs.States.{State, load_of}
use Rattle.wh_core.specs.Laws as laws
use Rattle.wh_core.specs.Laws.{IsSoundTask}
use Rattle.wh_core.proofs.Sound.{kept-of}
use Rattle.wh_state.specs.Standings.{AreTied, IsSound, IsSoundSomewhere}
use Rattle.wh_state.specs.Dues.{AreDue}
use Rattle.wh_state.proofs.Below.{task_of-load_for}

-- what holds of each task by its number holds of all
all-tasks : (P : Task → Type 0) (tasks : List Task) → ((n : ℕ) (task : Task) → IsTask tasks n task → P task) → All P tasks
all-tasks P tasks each k d lt = each k (get_or tasks k d) (slice_get-get_or tasks k d lt)

orderly-sound : (site : Site) (s : State) (task : Task) → IsSoundTask site s task → IsOrderly task
orderly-sound site s task is =
    let timed = is.timed in
    record {
      two = is.stops.count;
      eight = is.stops.few;
      within = is.few;
      unvisited = is.fresh;
      after = λ k d lt. subst (λ clock. task.submitted ≤ clock) (get_or_default task.visits k 0 d lt) (timed.first k lt);
      rising = λ i j d lt h.
          let first : i < length task.visits = omega arith in
          let later : i ≤ j = omega arith in
          subst (λ clock. get_or task.visits i d ≤ clock) (get_or_default task.visits j 0 d h)
          (subst (λ clock. clock ≤ get_or task.visits j 0) (get_or_default task.visits i 0 d first) (timed.in_order i j later h));
    }

in_time-sound : (site : Site) (s : State) (task : Task) → IsSoundTask site s task → IsInTime s.clock task
in_time-sound site s task is =
    let timed = is.timed in
    record {
      submitted = timed.submitted;
      visits = λ k d lt. subst (λ clock. clock ≤ s.clock) (get_or_default task.visits k 0 d lt) (timed.last k lt);
    }

tied-sound : (site : Site) (s : State) → laws.IsSound site s → AreTied s.loads s.tasks
tied-sound site s sound =
    let working = (kept-of site s sound).working in
    let seats = working.seats in
    record {
      holds = λ agent n load has named.
          let lt = slice_get_within s.loads agent load has in
          let known : agent < length s.paths = omega arith in
          let is : load_of s agent ≡ load = get_or_from_slice_get s.loads agent load Load.None has in
          elim (working.loads agent known) [
            | inl none ↦ absurd (let clash : None ≡ Some n = sym (ap task_of (sym is ∙ none)) ∙ named in cc)
            | inr work ↦
                let load_is : load ≡ load_for work.number work.task = sym is ∙ work.load in
                let same : work.number ≡ n = same_Some work.number n
                (sym (task_of-load_for work.number agent work.task work.underway.agent_is work.underway.more) ∙ sym (ap task_of load_is) ∙ named) in
                record {
                  task = work.task;
                  there = subst (λ k. IsTask s.tasks k work.task) same work.there;
                  agent_is = work.underway.agent_is;
                  left = work.underway.more;
                  load_is = load_is ∙ ap (λ k. load_for k work.task) same;
                }
          ];
      known = λ agent n task there own left.
          let busy = working.busy n task agent there (record { agent_is = own; more = left }) in
          let known = busy.known in
          let lt : agent < length s.loads = omega arith in
          slice_get-get_or s.loads agent Load.None lt ∙ ap (λ l. Some l) busy.load;
    }

pub few-given : (s : State) → IsSoundSomewhere s → length s.paths ≤ 256
few-given s is = (let paths = is.sound.seats.paths in let few = is.few in omega arith)

pub orderly-given : (s : State) → IsSoundSomewhere s → All IsOrderly s.tasks
orderly-given s is = all-tasks IsOrderly s.tasks (λ n task there. orderly-sound is.site s task (is.sound.tasks n task there))

pub sound-given : (s : State) → IsSoundSomewhere s → IsSound s.clock s.paths (ends s.paths) s.loads s.slots s.tasks
sound-given s is =
    let seats = is.sound.seats in
    record {
      clock_fits = is.sound.clock_fits;
      few = few-given s is;
      ends_each = refl;
      loads_each = seats.loads ∙ sym seats.paths;
      slots_each = seats.slots ∙ sym seats.paths;
      tied = tied-sound is.site s is.sound;
      in_time = all-tasks (IsInTime s.clock) s.tasks (λ n task there. in_time-sound is.site s task (is.sound.tasks n task there));
    }

-- who is asked at once is asked in time
pub due-now : (clock : ℕ) (paths : List (List Cell)) (tasks : List Task) (count : ℕ) → count ≡ length paths → AreDue clock paths tasks (replicate count clock)
due-now clock paths tasks count size = record {
  each = length-replicate count clock ∙ size;
  away = λ agent n task k there own left soon.
      let before : clock + k < get_or (replicate count clock) agent 0 = soon in
      absurd (elim (cases_lt agent count) [
        | inl lt ↦ (let read = get_or-replicate count agent clock 0 lt in omega (arith, read, before))
        | inr past ↦
            let each = length-replicate count clock in
            let read = get_or_past (replicate count clock) agent 0 (omega arith) in
            omega (arith, read, before)
      ]);
}

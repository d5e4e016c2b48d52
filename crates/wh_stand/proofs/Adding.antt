-- parts without a flaw have none with one part more that has none
use Rattle.std.proofs.Common.{◌≡◌, ◌≢◌, ℕ, ◌<◌, ◌≤◌, ◌∙◌, inl, inr, List, [], ◌∷◌, ◌++◌, Bool, length, sym, subst, refl, ap, arith}
use Rattle.std.proofs.lemmas.Bool.{cases_lt}
use Rattle.std.proofs.lemmas.List.{length_push, get_or_push, get_or_append_left}
use Rattle.wh_grid.specs.declared.cell.Cell.{Cell}
use Rattle.wh_path.specs.Paths.{at, cell_at, path_of, place_of, IsWalk, IsFree, AllFree}
use Rattle.wh_path.proofs.Freedom.{free-sym}
use Rattle.wh_points.specs.Points.{Site}
use Rattle.wh_tasks.specs.declared.task.Task.{Task}
use Rattle.wh_tasks.specs.Tasks.{stops_left}
use Rattle.wh_core.specs.Steps.{last_clock, most_tasks}
use Rattle.wh_core.specs.Laws.{IsSoundTask}
use Rattle.wh_core.proofs.Lists.{slice_get_push}
use Rattle.wh_core.proofs.Work.{no-task}
use Rattle.wh_stand.specs.Parts.{Parts, state_of, begun, with_agent, with_task}
use Rattle.wh_stand.specs.PathFlaws.{IsFit}
use Rattle.wh_stand.specs.TaskFlaws.{IsHeld, IsInForm, IsFitTask}
use Rattle.wh_stand.specs.Flawless.{AreFlawless}
use Rattle.wh_stand.proofs.Soundness.{task-as, own-as, own-held, held-own}

pub flawless-begun : (site : Site) (clock : ℕ) (closed : Bool) → clock ≤ last_clock → AreFlawless site (begun clock closed)
flawless-begun site clock closed fits = record {
  slots = refl;
  few = omega arith;
  clock_fits = fits;
  walks = λ agent h. absurd (omega arith);
  free = record { pair = λ i j hi hj ne. absurd (omega arith) };
  tasks = λ n task is. absurd (no-task n task is);
  one = λ agent m n task other a b. absurd (no-task m task a.there);
  away = λ agent n task own. absurd (no-task n task own.there);
}

-- ---- an agent more

pub path-old : (paths more : List (List Cell)) (agent : ℕ) → agent < length paths → path_of (paths ++ more) agent ≡ path_of paths agent
path-old paths more agent h = get_or_append_left paths more [] agent h

pub path-new : (paths : List (List Cell)) (path : List Cell) (agent : ℕ) → length paths ≡ agent → path_of (paths ++ path ∷ []) agent ≡ path
path-new paths path agent e = get_or_push paths path [] agent e

-- what holds of each path, and of one more, holds of all
path-each : (P : List Cell → Type 0) (paths : List (List Cell)) (path : List Cell) → ((agent : ℕ) → agent < length paths → P (path_of paths agent)) → P path →
    (agent : ℕ) → agent < length (paths ++ path ∷ []) → P (path_of (paths ++ path ∷ []) agent)
path-each P paths path each new agent h = elim (cases_lt agent (length paths)) [
  | inl l ↦ subst P (sym (path-old paths (path ∷ []) agent l)) (each agent l)
  | inr l ↦ (let size = length_push paths path in subst P (sym (path-new paths path agent (omega arith))) new)
]

free-push : (nofollow : Bool) (paths : List (List Cell)) (path : List Cell) → AllFree nofollow paths →
    ((agent : ℕ) → agent < length paths → IsFree nofollow path (path_of paths agent)) → AllFree nofollow (paths ++ path ∷ [])
free-push nofollow paths path free each =
    let size = length_push paths path in
    let F : List Cell → List Cell → Type 0 = λ p q. IsFree nofollow p q in
    record {
      pair = λ i j hi hj ne.
          elim (cases_lt i (length paths)) [
            | inl a ↦ elim (cases_lt j (length paths)) [
              | inl b ↦
                  subst (λ p. F p (path_of (paths ++ path ∷ []) j)) (sym (path-old paths (path ∷ []) i a))
                  (subst (λ q. F (path_of paths i) q) (sym (path-old paths (path ∷ []) j b)) (free.pair i j a b ne))
              | inr b ↦
                  subst (λ p. F p (path_of (paths ++ path ∷ []) j)) (sym (path-old paths (path ∷ []) i a))
                  (subst (λ q. F (path_of paths i) q) (sym (path-new paths path j (omega arith))) (free-sym nofollow path (path_of paths i) (each i a)))
            ]
            | inr a ↦ elim (cases_lt j (length paths)) [
              | inl b ↦
                  subst (λ p. F p (path_of (paths ++ path ∷ []) j)) (sym (path-new paths path i (omega arith)))
                  (subst (λ q. F path q) (sym (path-old paths (path ∷ []) j b)) (each j b))
              | inr b ↦ absurd (ne (omega arith))
            ]
          ];
    }

pub flawless-agent : (site : Site) (parts : Parts) (slots : ℕ) (path : List Cell) → AreFlawless site parts → IsFit site.grid site.layout.nofollow parts.paths path →
    AreFlawless site (with_agent slots path parts)
flawless-agent site parts slots path f fit =
    let old = state_of parts in
    let new = state_of (with_agent slots path parts) in
    let size = length_push parts.paths path in
    record {
      slots = (let more = length_push parts.slots slots in let e = f.slots in omega arith);
      few = f.few;
      clock_fits = f.clock_fits;
      walks = path-each (λ p. IsWalk site.grid p) parts.paths path f.walks fit.walk;
      free = free-push site.layout.nofollow parts.paths path f.free fit.free;
      tasks = λ n task is.
          let t = f.tasks n task is in
          record { stops = t.stops; few = t.few; fresh = t.fresh; known = λ agent has. (let h = t.known agent has in omega arith); timed = t.timed };
      one = λ agent m n task other a b. f.one agent m n task other (own-as new old agent m task refl a) (own-as new old agent n other refl b);
      away = λ agent n task own.
          let known = (f.tasks n task own.there).known agent own.agent_is in
          let place : place_of (parts.paths ++ path ∷ []) agent ≡ place_of parts.paths agent = ap (λ p. at p 0) (path-old parts.paths (path ∷ []) agent known) in
          subst (λ c. cell_at (stops_left task) 0 ≢ c) (sym place) (f.away agent n task (own-as new old agent n task refl own));
    }

-- ---- a task more

pub flawless-task : (site : Site) (parts : Parts) (task : Task) → AreFlawless site parts → IsInForm task → length parts.tasks < most_tasks →
    IsFitTask site.layout parts task → AreFlawless site (with_task task parts)
flawless-task site parts task f form room fit =
    let old = state_of parts in
    let new = state_of (with_task task parts) in
    let size = length_push parts.tasks task in
    let sound : IsSoundTask site new task = record {
      stops = record { count = form.two; few = form.eight; stations = fit.stations };
      few = form.few;
      fresh = form.fresh;
      known = fit.known;
      timed = fit.timed;
    } in
    record {
      slots = f.slots;
      few = omega arith;
      clock_fits = f.clock_fits;
      walks = f.walks;
      free = f.free;
      tasks = λ n t is. elim (slice_get_push parts.tasks task n t is) [
        | inl before ↦ task-as site old new t refl refl (f.tasks n t before)
        | inr last ↦ subst (λ u. IsSoundTask site new u) last.1 sound
      ];
      one = λ agent m n t u a b. elim (slice_get_push parts.tasks task m t a.there) [
        | inl first ↦ elim (slice_get_push parts.tasks task n u b.there) [
          | inl second ↦ f.one agent m n t u (held-own old agent m t first (own-held new agent m t a)) (held-own old agent n u second (own-held new agent n u b))
          | inr second ↦
              absurd (fit.alone agent m t (subst (λ v. IsHeld agent v) (sym second.1) (own-held new agent n u b)) (held-own old agent m t first (own-held new agent m t a)))
        ]
        | inr first ↦ elim (slice_get_push parts.tasks task n u b.there) [
          | inl second ↦
              absurd (fit.alone agent n u (subst (λ v. IsHeld agent v) (sym first.1) (own-held new agent m t a)) (held-own old agent n u second (own-held new agent n u b)))
          | inr second ↦ first.0 ∙ sym second.0
        ]
      ];
      away = λ agent n t own. elim (slice_get_push parts.tasks task n t own.there) [
        | inl before ↦ f.away agent n t (held-own old agent n t before (own-held new agent n t own))
        | inr last ↦ subst (λ u. cell_at (stops_left u) 0 ≢ place_of parts.paths agent) last.1
            (fit.away agent (subst (λ v. IsHeld agent v) (sym last.1) (own-held new agent n t own)))
      ];
    }

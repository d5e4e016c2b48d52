-- an agent is on its way exactly if its path ends at a berth and leads through the stops left of the task that its load tells
use Rattle.std.proofs.Common.{◌≡◌, ℕ, ◌+◌, ◌<◌, ◌≤◌, ◌∙◌, inl, inr, List, [], ◌∷◌, ◌++◌, Some, None, length, take, get_or, refl, sym, ap, subst, arith}
use Rattle.std.specs.Prelude.{Contains}
use Rattle.std.proofs.lemmas.Option.{same_Some}
use Rattle.std.proofs.lemmas.List.{take_more, take_all, get_or_default}
use Rattle.std.proofs.lemmas.List.Elements.{Contains-push_cases, Contains-get_or}
use Rattle.wh_grid.specs.declared.cell.Cell.{Cell}
use Rattle.wh_path.specs.Paths.{path_of, end_of}
use Rattle.wh_points.specs.declared.points.Point.{Point}
use Rattle.wh_points.specs.Points.{Layout, Site, IsPointCell}
use Rattle.wh_tasks.specs.declared.task.Task.{Task}
use Rattle.wh_tasks.specs.declared.task.Load.{Load}
use Rattle.wh_tasks.specs.Tasks.{IsTask, visited, stops_left}
use Rattle.wh_tasks.specs.Loads.{task_of}
use Rattle.wh_planner.specs.Duties.{Delivers}
use Rattle.wh_core.specs.States.{State, load_of}
use Rattle.wh_core.specs.Steps.{IsBerth, IsOwn, tour}
use Rattle.wh_core.specs.Laws.{IsSound, IsOnItsWay}
use Rattle.wh_stand.specs.Ways.{IsAtPoint}
use Rattle.wh_stand.proofs.Holding.{phase-held, held-phase}
use Rattle.wh_stand.proofs.Soundness.{own-held, held-own, sound-one}

-- ---- the task that a load tells
some_stops : (site : Site) (s : State) (n : ℕ) (task : Task) → IsSound site s → IsTask s.tasks n task → 1 ≤ length task.stops
some_stops site s n task sound is = (let two = (sound.tasks n task is).stops.count in omega (arith, two))

own_by : (site : Site) (s : State) (agent n : ℕ) (load : Load) → IsSound site s → agent < length s.paths → load_of s agent ≡ load → task_of load ≡ Some n → (task : Task) × IsOwn s agent n task
own_by site s agent n Load.None sound known e is = absurd cc
own_by site s agent n (Load.Fetching m) sound known e is =
    let same : m ≡ n = same_Some m n is in
    let f = ((sound.loads agent known).fetching n).0 (e ∙ ap (λ k. Load.Fetching k) same) in
    (f.0, held-own s agent n f.0 f.1 (phase-held agent f.0 f.2 (some_stops site s n f.0 sound f.1) (inl f.3)))
own_by site s agent n (Load.Carrying m seen) sound known e is =
    let same : m ≡ n = same_Some m n is in
    let f = ((sound.loads agent known).carrying n seen).0 (e ∙ ap (λ k. Load.Carrying k seen) same) in
    (f.0, held-own s agent n f.0 f.1 (phase-held agent f.0 f.2 (some_stops site s n f.0 sound f.1) (inr f.3)))

pub own_of : (site : Site) (s : State) (agent n : ℕ) → IsSound site s → agent < length s.paths → task_of (load_of s agent) ≡ Some n → (task : Task) × IsOwn s agent n task
own_of site s agent n sound known is = own_by site s agent n (load_of s agent) sound known refl is

pub none_own : (site : Site) (s : State) (agent n : ℕ) (task : Task) → IsSound site s → agent < length s.paths → task_of (load_of s agent) ≡ None → IsOwn s agent n task → ⊥
none_own site s agent n task sound known none own = elim (held-phase agent task (own-held s agent n task own)) [
  | inl assigned ↦
      let e = ((sound.loads agent known).fetching n).1 (task, own.there, own.agent_is, assigned) in
      absurd (let clash : Some n ≡ None = sym (ap task_of e) ∙ none in cc)
  | inr carried ↦
      let e = ((sound.loads agent known).carrying n (visited task)).1 (task, own.there, own.agent_is, carried, refl) in
      absurd (let clash : Some n ≡ None = sym (ap task_of e) ∙ none in cc)
]

-- ---- what was read is so
pub path_seen : (paths seen : List (List Cell)) (agent : ℕ) (path : List Cell) → agent < length paths → seen ≡ paths → path ≡ get_or seen agent path → path ≡ path_of paths agent
path_seen paths seen agent path h same e = e ∙ ap (λ ps. get_or ps agent path) same ∙ get_or_default paths agent path [] h

pub task_seen : (tasks : List Task) (n : ℕ) (one other : Task) → IsTask tasks n one → IsTask tasks n other → one ≡ other
task_seen tasks n one other a b = same_Some one other (sym a ∙ b)

pub task_known : (tasks : List Task) (n : ℕ) (task : Task) → IsTask tasks n task → n < length tasks
task_known tasks n task is = below tasks n task is
  where
    below : (tasks : List Task) (n : ℕ) (task : Task) → IsTask tasks n task → n < length tasks
    below [] n task is = absurd cc
    below (t ∷ tasks) Prim.Native.Nat.zero task is = omega arith
    below (t ∷ tasks) (Prim.Native.Nat.suc n) task is = (let h = below tasks n task is in omega arith)

-- ---- on its way, or not
pub on_with_none : (site other : Site) (s : State) (agent : ℕ) → IsSound other s → agent < length s.paths → task_of (load_of s agent) ≡ None → IsBerth site agent (end_of s.paths agent) → IsOnItsWay site s agent
on_with_none site other s agent sound known none berth = record { berth = berth; delivers = λ n task own. absurd (none_own other s agent n task sound known none own) }

pub on_with_task : (site other : Site) (s : State) (agent n : ℕ) (task : Task) → IsSound other s → IsOwn s agent n task → IsBerth site agent (end_of s.paths agent) →
    Delivers (tour site agent (stops_left task)) (path_of s.paths agent) → IsOnItsWay site s agent
on_with_task site other s agent n task sound own berth delivers = record {
  berth = berth;
  delivers = λ m one its.
      let same : m ≡ n = sound-one other s sound agent m n one task its own in
      let is : one ≡ task = same_Some one task (sym its.there ∙ subst (λ k. IsTask s.tasks k task) (sym same) own.there) in
      subst (λ (t : Task). Delivers (tour site agent (stops_left t)) (path_of s.paths agent)) (sym is) delivers;
}

-- ---- points at a cell
pub at_none : (cell : Cell) → IsAtPoint [] cell → ⊥
at_none cell at = (let h = at.1.1 in omega arith)

pub at_more : (points : List Point) (i : ℕ) (point : Point) (cell : Cell) → i < length points → point ≡ get_or points i point → (IsAtPoint (take i points) cell → ⊥) → (point.cell ≡ cell → ⊥) →
    IsAtPoint (take (i + 1) points) cell → ⊥
at_more points i point cell h read none other at =
    let grown : take (i + 1) points ≡ take i points ++ point ∷ [] = take_more points i point h ∙ ap (λ p. take i points ++ p ∷ []) (sym read) in
    elim (Contains-push_cases (take i points) point at.0 (subst (λ ps. Contains ps at.0) grown at.1)) [
      | inl old ↦ none (at.0, old, at.2)
      | inr same ↦ other (ap (λ (p : Point). p.cell) same ∙ at.2)
    ]

pub at_all : (points : List Point) (i : ℕ) (cell : Cell) → length points ≤ i → (IsAtPoint (take i points) cell → ⊥) → IsAtPoint points cell → ⊥
at_all points i cell h none = subst (λ ps. IsAtPoint ps cell → ⊥) (take_all i points h) none

pub at_read : (points : List Point) (i : ℕ) (point : Point) (cell : Cell) → i < length points → point ≡ get_or points i point → point.cell ≡ cell → IsAtPoint points cell
at_read points i point cell h read same = (point, subst (λ p. Contains points p) (sym read) (Contains-get_or points i point h), same)

pub at_point : (layout : Layout) (cell : Cell) → IsAtPoint layout.points cell → IsPointCell layout cell
at_point layout cell at =
    let point = at.0 in
    let e : point ≡ record { name = point.name; cell = cell; kind = point.kind } = λ i. record { name = point.name; cell = at.2 i; kind = point.kind } in
    (point.name, (point.kind, subst (λ p. Contains layout.points p) e at.1))

pub point_at_cell : (layout : Layout) (cell : Cell) → IsPointCell layout cell → IsAtPoint layout.points cell
point_at_cell layout cell p = (record { name = p.0; cell = cell; kind = p.1.0 }, p.1.1, refl)

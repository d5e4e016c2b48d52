-- an agent that goes on with the task that it has: nothing but its path changes
use Rattle.std.proofs.Common.{◌≡◌, ℕ, ◌<◌, ◌∙◌, inl, inr, List, [], length, map, sym, refl, ap, arith}
use Rattle.std.specs.Prelude.{Some, slice_get}
use Rattle.std.proofs.Math.ListN.{set}
use Rattle.std.proofs.lemmas.Bool.{cases_eq}
use Rattle.std.proofs.lemmas.Option.{slice_get-get_or}
use Rattle.std.proofs.lemmas.List.{get_or-set_same, get_or-set_other}
use Rattle.wh_grid.specs.declared.cell.Cell.{Cell}
use Rattle.wh_path.specs.Paths.{at, place_of}
use Rattle.wh_points.specs.Points.{Site}
use Rattle.wh_tasks.specs.declared.task.Task.{Task}
use Rattle.wh_tasks.specs.declared.task.Load.{Load}
use Rattle.wh_tasks.specs.Arrivals.{arrived_tasks, arrived_load}
use Rattle.wh_core.specs.States.{State, load_of, arrived, adopted, assigned}
use Rattle.wh_core.specs.Steps.{IsNext, IsNextBy}
use Rattle.wh_core.specs.Laws.{IsSound}
use Rattle.wh_core.proofs.StepKinds.{continued-fetching, continued-carrying}

-- by a path from where the agent is nobody comes to another place
same-place : (paths : List (List Cell)) (agent : ℕ) (path : List Cell) → agent < length paths → at path 0 ≡ place_of paths agent →
    (other : ℕ) → place_of (set paths agent path) other ≡ place_of paths other
same-place paths agent path known starts other = elim (cases_eq other agent) [
  | inl e ↦
      ap (λ a. place_of (set paths agent path) a) e ∙ ap (λ p. at p 0) (get_or-set_same paths agent path [] known) ∙ starts ∙ ap (λ a. place_of paths a) (sym e)
  | inr ne ↦ ap (λ p. at p 0) (get_or-set_other paths agent other path [] ne)
]

-- so where all arrivals have been made none is to be made then
adopted-arrived : (s : State) (agent : ℕ) (path : List Cell) → agent < length s.paths → at path 0 ≡ place_of s.paths agent → arrived s ≡ s →
    arrived (adopted agent path s) ≡ adopted agent path s
adopted-arrived s agent path known starts settled =
    let same : place_of (set s.paths agent path) ≡ place_of s.paths = λ i other. same-place s.paths agent path known starts other i in
    let after : (ℕ → Cell) → State = λ place.
    let tasks = arrived_tasks s.clock place s.tasks in
    record s { paths = set s.paths agent path; tasks = tasks; loads = map (arrived_load tasks) s.loads } in
    ap after same ∙ ap (adopted agent path) settled

went_on : (site : Site) (s : State) (agent n : ℕ) (task : Task) (path : List Cell) (load : Load) → load_of s agent ≡ load → (load ≡ Load.None → ⊥) → IsNextBy load site s agent n task →
    arrived (adopted agent path (assigned agent n task s)) ≡ arrived (adopted agent path s)
went_on site s agent n task path Load.None is busy next = absurd (busy refl)
went_on site s agent n task path (Load.Fetching m) is busy next = continued-fetching s agent n m task path next.0 next.1 is
went_on site s agent n task path (Load.Carrying m seen) is busy next = continued-carrying s agent n m seen task path next.0 next.1 is

pub taken-on : (site : Site) (s : State) (agent n : ℕ) (task : Task) (path : List Cell) → IsSound site s → agent < length s.paths →
    (slice_get s.loads agent ≡ Some Load.None → ⊥) → at path 0 ≡ place_of s.paths agent → IsNext site s agent n task →
    arrived (adopted agent path (assigned agent n task s)) ≡ adopted agent path s
taken-on site s agent n task path sound known busy starts next =
    let lt : agent < length s.loads = (let e = sound.seats.loads in let f = sound.seats.paths in omega arith) in
    let loaded : load_of s agent ≡ Load.None → ⊥ = λ none. busy (slice_get-get_or s.loads agent Load.None lt ∙ ap (λ l. Some l) none) in
    went_on site s agent n task path (load_of s agent) refl loaded next ∙ adopted-arrived s agent path known starts sound.settled

-- which task comes next
use Rattle.std.proofs.Common.{◌≡◌, ℕ, ◌∙◌, sym, subst}
use Rattle.std.specs.Prelude.{◌↔◌, Option, Some, None, IsTrue, IfNone, IfSome, nat_eq}
use Rattle.std.proofs.lemmas.Bool.{eqb-true, eq-eqb}
use Rattle.wh_grid.specs.Grids.{Floor}
use Rattle.wh_points.specs.Points.{Site}
use Rattle.wh_path.specs.Paths.{place_of}
use Rattle.wh_tasks.specs.declared.task.Load.{Load}
use Rattle.wh_tasks.specs.declared.task.Task.{Task}
use Rattle.wh_tasks.specs.Choice.{IsNearest}
use Rattle.wh_tasks.proofs.Nearest.{nearest_one}
use Rattle.wh_core.specs.States.{State, load_of}
use Rattle.wh_core.specs.Steps.{IsNext, IsNextBy, NoneIsNext, other_ends}
use Rattle.wh_judge.specs.Judged.{IsChoice}

pub choice-by : (site : Site) (s : State) (agent : ℕ) (grid : Floor) (o : Option ℕ) → site.grid ≡ grid → IfNone o (NoneIsNext s agent) →
    IfSome o (λ n. (over : Site) → over.grid ≡ grid → (task : Task) × IsNext over s agent n task) → IsChoice site s agent o
choice-by site s agent grid None same none some = none
choice-by site s agent grid (Some n) same none some = some site same

next-by : (load : Load) (site : Site) (s : State) (agent n m : ℕ) (task other : Task) → IsNextBy load site s agent n task → IsNextBy load site s agent m other → n ≡ m
next-by Load.None site s agent n m task other one two =
    nearest_one site.grid s.tasks (other_ends s agent) (place_of s.paths agent) n m task other one two
next-by (Load.Fetching own) site s agent n m task other one two = one.0 ∙ sym two.0
next-by (Load.Carrying own seen) site s agent n m task other one two = one.0 ∙ sym two.0

pub next-one : (site : Site) (s : State) (agent n m : ℕ) (task other : Task) → IsNext site s agent n task → IsNext site s agent m other → n ≡ m
next-one site s agent n m task other one two = next-by (load_of s agent) site s agent n m task other one two

-- where there is none, none is next
pub none-next : (site : Site) (s : State) (agent n : ℕ) (task : Task) → NoneIsNext s agent → IsNext site s agent n task → ⊥
none-next site s agent n task none next =
    let nearest : IsNearest site.grid s.tasks (other_ends s agent) (place_of s.paths agent) n task =
    subst (λ load. IsNextBy load site s agent n task) none.0 next in
    none.1 n task nearest.eligible

pub next-iff : (site : Site) (s : State) (agent m n : ℕ) → IsChoice site s agent (Some m) → IsTrue (nat_eq m n) ↔ ((task : Task) × IsNext site s agent n task)
next-iff site s agent m n choice = (
  λ t. subst (λ k. (task : Task) × IsNext site s agent k task) (eqb-true m n t) choice,
  λ x. eq-eqb m n (next-one site s agent m n choice.0 x.0 choice.1 x.1),
)

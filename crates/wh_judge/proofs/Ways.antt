-- the want of a clear way
use Rattle.std.proofs.Common.{◌≡◌, ℕ, ◌<◌, ◌≤◌, ◌∙◌, List, Bool, true, false, length, refl, sym, subst}
use Rattle.std.specs.Prelude.{◌↔◌, IsTrue, not, Option, Some, None, IfSome, IfNone, is_some, Contains}
use Rattle.std.proofs.lemmas.Bool.{false≢true}
use Rattle.std.proofs.lemmas.Option.{same_Some}
use Rattle.std.proofs.lemmas.List.{get_or_default}
use Rattle.wh_grid.specs.declared.cell.Cell.{Cell}
use Rattle.wh_grid.specs.Grids.{Floor}
use Rattle.wh_field.specs.Distances.{IsRoute, IsLeastRoute, IsNearestRoute}
use Rattle.wh_points.specs.Points.{Site}
use Rattle.wh_path.specs.Paths.{cell_at, end, end_of}
use Rattle.wh_tasks.specs.declared.task.Task.{Task}
use Rattle.wh_tasks.specs.Tasks.{IsTask, stops_left}
use Rattle.wh_core.specs.States.{State, load_of}
use Rattle.wh_planner.specs.Duties.{Delivers, IsClearWay, HasNoClearWay, HasRoute, HasRoutes}
use Rattle.wh_core.specs.Steps.{IsAllowed, IsNext, IsShutIn, IsStray, MakesWay, NoneIsNext, other_ends, tour}
use Rattle.wh_core.proofs.Determined.{next-there}
use Rattle.wh_planner.proofs.Routes.{clear_ways_by_stops}
use Rattle.wh_judge.specs.Judged.{CanDeliver, CanPark, LacksDelivery, LacksParking, MayStay}
use Rattle.wh_judge.proofs.Choices.{next-one, none-next}

not-iff : (b : Bool) (P Q : Type 0) → (IsTrue b ↔ P) → ((¬ P) → Q) → (Q → ¬ P) → IsTrue (not b) ↔ Q
not-iff true P Q iff to from = (λ e. absurd (false≢true e), λ q. absurd (from q (iff.0 refl)))
not-iff false P Q iff to from = (λ e. to (λ p. false≢true (iff.1 p)), λ q. refl)

-- a clear way that serves also otherwise
clear-for : (g : Floor) (paths : List (List Cell)) (agent : ℕ) (One Other : List Cell → Type 0) (way : List Cell) → (One way → Other way) →
    IsClearWay g paths agent One way → IsClearWay g paths agent Other way
clear-for g paths agent One Other way serves clear =
    record { walk = clear.walk; starts_here = clear.starts_here; clear = clear.clear; serves = serves clear.serves }

-- routes through stops that ask for the same paths tell whether there is a clear way
pub can-deliver : (site : Site) (s : State) (agent n : ℕ) (task : Task) (stops : List Cell) (b : Bool) → IsTask s.tasks n task → 1 ≤ length stops →
    ((path : List Cell) → Delivers stops path ↔ Delivers (tour site agent (stops_left task)) path) →
    (IsTrue b ↔ HasRoutes site.grid (other_ends s agent) (end_of s.paths agent) stops) → IsTrue b ↔ CanDeliver site s agent n
can-deliver site s agent n task stops b there some same iff =
    let by = clear_ways_by_stops site.grid s.paths agent stops some in
    let Left : List Cell → Type 0 = Delivers (tour site agent (stops_left task)) in (
      λ t. (
          let way = by.1 (iff.0 t) in
          (task, there, (way.0, clear-for site.grid s.paths agent (Delivers stops) Left way.0 (same way.0).0 way.1))
          ),
      λ can.
          let is : can.0 ≡ task = same_Some can.0 task (sym can.1 ∙ there) in
          let way = subst (λ (t : Task). (way : List Cell) × IsClearWay site.grid s.paths agent (Delivers (tour site agent (stops_left t))) way) is can.2 in
          iff.1 (by.0 (way.0, clear-for site.grid s.paths agent Left (Delivers stops) way.0 (same way.0).1 way.1)),
    )

-- the task that comes next has no clear way where the one of its number has none
no-way : (site : Site) (s : State) (agent n m : ℕ) (task other : Task) → IsNext site s agent n task → IsNext site s agent m other →
    HasNoClearWay site.grid s.paths agent (Delivers (tour site agent (stops_left other))) → ¬ CanDeliver site s agent n
no-way site s agent n m task other next second none can =
    let e : m ≡ n = next-one site s agent m n other task second next in
    let at_m : IsTask s.tasks m other = next-there site s agent m other (load_of s agent) second in
    let same : can.0 ≡ other = same_Some can.0 other (sym can.1 ∙ subst (λ k. IsTask s.tasks k other) e at_m) in
    let way = subst (λ (t : Task). (way : List Cell) × IsClearWay site.grid s.paths agent (Delivers (tour site agent (stops_left t))) way) same can.2 in
    none way.0 way.1

-- and none for its own number
none-for : (site : Site) (s : State) (agent n : ℕ) (task : Task) → IsNext site s agent n task → (¬ CanDeliver site s agent n) →
    HasNoClearWay site.grid s.paths agent (Delivers (tour site agent (stops_left task)))
none-for site s agent n task next cannot way clear = cannot (task, next-there site s agent n task (load_of s agent) next, (way, clear))

pub lacks-delivery : (site : Site) (s : State) (agent n : ℕ) (task : Task) (b : Bool) → IsNext site s agent n task → MayStay site s agent →
    (IsTrue b ↔ CanDeliver site s agent n) → IsTrue (not b) ↔ LacksDelivery site s agent
lacks-delivery site s agent n task b next stays iff =
    not-iff b (CanDeliver site s agent n) (LacksDelivery site s agent) iff
    (λ cannot. (n, task, next, none-for site s agent n task next cannot, stays))
    (λ lacks. no-way site s agent n lacks.0 task lacks.1 next lacks.2 lacks.3)

pub lacks-nothing : (site : Site) (s : State) (agent : ℕ) → NoneIsNext s agent → IsTrue false ↔ LacksDelivery site s agent
lacks-nothing site s agent none = (λ e. absurd (false≢true e), λ lacks. absurd (none-next site s agent lacks.0 lacks.1 none lacks.2))

pub shut-in : (site : Site) (s : State) (agent n : ℕ) (task : Task) (b : Bool) → IsNext site s agent n task → IsStray site s agent →
    (IsTrue b ↔ CanDeliver site s agent n) → IsTrue (not b) ↔ IsShutIn site s agent
shut-in site s agent n task b next stray iff =
    not-iff b (CanDeliver site s agent n) (IsShutIn site s agent) iff
    (λ cannot. record { stray = stray; number = n; task = task; next = next; no_way = none-for site s agent n task next cannot })
    (λ shut. no-way site s agent n shut.number task shut.task next shut.next shut.no_way)

-- what looks for a route tells whether there is one
pub route-iff : (g : Floor) (from to : Cell) (avoid : List Cell) (found : Option (List Cell)) → IfSome found (λ p. IsLeastRoute g from to avoid p) →
    IfNone found ((p : List Cell) → ¬ IsRoute g from to avoid p) → IsTrue (is_some found) ↔ HasRoute g avoid from to
route-iff g from to avoid None some none = (λ e. absurd (false≢true e), λ has. absurd (none has.0 has.1))
route-iff g from to avoid (Some p) some none = (λ e. (p, some.route), λ has. refl)

-- and whether there is one to any of some cells
pub nearest-iff : (g : Floor) (from : Cell) (cells avoid : List Cell) (found : Option (ℕ × List Cell)) → IfSome found (λ near. IsNearestRoute g from cells avoid near.0 near.1) →
    IfNone found ((j : ℕ) (p : List Cell) → j < length cells → ¬ IsRoute g from (cell_at cells j) avoid p) →
    IsTrue (is_some found) ↔ ((cell : Cell) × Contains cells cell × HasRoute g avoid from cell)
nearest-iff g from cells avoid None some none = (
  λ e. absurd (false≢true e),
  λ has.
      let there = has.1 in
      let at : cell_at cells there.0 ≡ has.0 = get_or_default cells there.0 _ has.0 there.1 ∙ there.2 in
      absurd (none there.0 has.2.0 there.1 (subst (λ c. IsRoute g from c avoid has.2.0) (sym at) has.2.1)),
)
nearest-iff g from cells avoid (Some near) some none = (
  λ e. (cell_at cells near.0, (near.0, some.within, get_or_default cells near.0 _ _ some.within), (near.1, some.route.route)),
  λ has. refl,
)

-- a route to a cell that is listed is a route to one where the agent may park
pub can-park : (site : Site) (s : State) (agent : ℕ) (cells : List Cell) (b : Bool) → ((cell : Cell) → Contains cells cell ↔ IsAllowed site s agent cell) →
    (IsTrue b ↔ ((cell : Cell) × Contains cells cell × HasRoute site.grid (other_ends s agent) (end_of s.paths agent) cell)) → IsTrue b ↔ CanPark site s agent
can-park site s agent cells b listed iff = (
  λ t. (let r = iff.0 t in (r.0, (listed r.0).0 r.1, r.2)),
  λ can. iff.1 (can.0, (listed can.0).1 can.1, can.2),
)

-- and so a clear way to park
pub lacks-parking : (site : Site) (s : State) (agent : ℕ) (b : Bool) → MakesWay site s agent → (IsTrue b ↔ CanPark site s agent) → IsTrue (not b) ↔ LacksParking site s agent
lacks-parking site s agent b makes iff =
    not-iff b (CanPark site s agent) (LacksParking site s agent) iff
    (λ cannot. (
      makes,
      λ way clear. cannot (
        end way,
        clear.serves,
        (
          way,
          record {
            walk = record { walk = clear.walk; starts = clear.starts_here; ends = refl };
            avoids = clear.clear;
          },
        ),
      ),
    ))
    (λ lacks can.
    let walk = can.2.0 in
    let route = can.2.1 in
    lacks.1 walk (record {
      walk = route.walk.walk;
      starts_here = route.walk.starts;
      clear = route.avoids;
      serves = subst (λ c. IsAllowed site s agent c) (sym route.walk.ends) can.1;
    }))

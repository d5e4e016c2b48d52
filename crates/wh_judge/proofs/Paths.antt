-- the paths of a run: how many steps they have at most, and that a log can tell them
use Rattle.std.proofs.Common.{◌≡◌, ◌≢◌, ℕ, ◌+◌, ◌*◌, ◌<◌, ◌≤◌, ◌∙◌, inl, List, [], ◌∷◌, Bool, true, false, length, map, take, drop, get_or, sym, subst, ap, arith}
use Prim.Native.Nat.{zero, suc}
use Rattle.std.specs.List.{AllByRecursion, All}
use Rattle.std.proofs.lemmas.List.Sums.{count_by-le-length}
use Rattle.std.proofs.lemmas.List.Elements.{All-append, All-drop, All-head, All-map, All-set, All-tail, All-take, All-weaker}
use Rattle.std.proofs.lemmas.List.{length-append, length-map}
use Rattle.std.proofs.Math.Nat.{mul-le-mul_left}
use Rattle.wh_grid.specs.declared.cell.Cell.{Cell}
use Rattle.wh_grid.specs.Grids.{Floor, IsPassable, IsMove, passable_cells}
use Rattle.wh_path.specs.Paths.{at, advanced, horizon, last_index, others, steps_left, IsWalk}
use Rattle.wh_path.proofs.AtLemmas.{at-within, origin}
use Rattle.wh_points.specs.Points.{Site}
use Rattle.wh_core.specs.States.{State, arrived, moved}
use Rattle.wh_core.specs.Steps.{IsIdleIn, homeward, tour}
use Rattle.wh_core.proofs.Idle.{left-next}
use Rattle.wh_core.proofs.Motion.{IsOrderly}
use Rattle.wh_core.proofs.StepKinds.{Moves, stays, adds, takes, continues, parks, ticks}
use Rattle.wh_log.specs.Ranges.{Follow, IsInside, IsPath}
use Rattle.wh_judge.specs.Written.{IsInRange}

-- ---- what a log can tell of a path

inside : (g : Floor) → g.width ≤ 4096 → g.height ≤ 4096 → (cells : List Cell) → ((k : ℕ) → k < length cells → IsPassable g (get_or cells k origin)) →
    AllByRecursion IsInside cells
inside g w h [] each = tt
inside g w h (c ∷ cells) each =
    let first = each 0 (omega arith) in
    let column = first.in_width in
    let row = first.in_height in ((omega arith, omega arith), inside g w h cells (λ k less. each (suc k) (omega arith)))

follow : (c : Cell) (cells : List Cell) → ((k : ℕ) → k < length cells → IsMove (get_or (c ∷ cells) k origin) (get_or (c ∷ cells) (suc k) origin)) → Follow c cells
follow c [] each = tt
follow c (d ∷ cells) each = (each 0 (omega arith), follow d cells (λ k less. each (suc k) (omega arith)))

-- a walk over a grid of this size is a path of a log
pub walk_path : (g : Floor) (path : List Cell) → g.width ≤ 4096 → g.height ≤ 4096 → IsWalk g path → IsPath path
walk_path g [] w h walk = let some = walk.non_empty in absurd (omega arith)
walk_path g (c ∷ cells) w h walk =
    let p = c ∷ cells in (
      inside g w h p (λ k less. subst (IsPassable g) (at-within p k less) (walk.passable k)),
      follow c cells (λ k less.
          let here = at-within p k (omega arith) in
          let e : k + 1 ≡ suc k = omega arith in
          let next = ap (at p) e ∙ at-within p (suc k) (omega arith) in
          subst (λ d. IsMove d (get_or p (suc k) origin)) here (subst (λ d. IsMove (at p k) d) next (walk.moves k))),
    )

-- ---- how many steps are left

-- each path has at most so many steps
abbrev pub Short : ℕ → List (List Cell) → Type 0
Short most paths = All (λ p. last_index p ≤ most) paths

short_horizon : (most : ℕ) (paths : List (List Cell)) → Short most paths → horizon paths ≤ most
short_horizon most [] all = omega arith
short_horizon most (p ∷ paths) all =
    let P : List Cell → Type 0 = λ q. last_index q ≤ most in
    let first = All-head P p paths all in
    let rest = short_horizon most paths (All-tail P p paths all) in omega arith

short_others : (most : ℕ) (paths : List (List Cell)) (agent : ℕ) → Short most paths → horizon (others paths agent) ≤ most
short_others most paths agent all =
    let P : List Cell → Type 0 = λ q. last_index q ≤ most in
    short_horizon most (others paths agent) (All-append P (take agent paths) (drop (suc agent) paths) (All-take P agent paths all) (All-drop P (suc agent) paths all))

short_more : (most more : ℕ) (paths : List (List Cell)) → most ≤ more → Short most paths → Short more paths
short_more most more paths grows all = All-weaker (λ p. last_index p ≤ most) (λ p. last_index p ≤ more) (λ p h. omega arith) paths all

less_advanced : (p : List Cell) → last_index (advanced p) ≤ last_index p
less_advanced [] = omega arith
less_advanced (c ∷ []) = omega arith
less_advanced (c ∷ d ∷ rest) = omega arith

short_advanced : (most : ℕ) (paths : List (List Cell)) → Short most paths → Short most (map advanced paths)
short_advanced most paths all =
    All-map (λ p. last_index p ≤ most) advanced paths
    (All-weaker (λ p. last_index p ≤ most) (λ p. last_index (advanced p) ≤ most) (λ p h. let less = less_advanced p in omega arith) paths all)

-- a tour has a leg for each stop, and one home
tour_few : (homes : Bool) (home : Cell) (stops : List Cell) → length stops ≤ 8 → length (homeward homes home stops) ≤ 9
tour_few false home stops few = omega arith
tour_few true home stops few = let more = length-append stops (home ∷ []) in omega arith

-- nine times over the map are at most so many steps
laps : (site : Site) (legs : ℕ) → IsInRange site → legs ≤ 9 → legs * passable_cells site.grid ≤ 150994944
laps site legs range few =
    let cells = passable_cells site.grid in
    let w = site.grid.width in
    let h = site.grid.height in
    let least : cells ≤ length site.grid.walkable = count_by-le-length (λ b. b) site.grid.walkable in
    let size = range.cells in
    let wide = range.width in
    let high = range.height in
    let rows : w * h ≤ w * 4096 = mul-le-mul_left w high in
    let columns : 4096 * w ≤ 4096 * 4096 = mul-le-mul_left 4096 wide in
    let cells_few : cells ≤ 16777216 = omega arith in
    let turns : cells * legs ≤ cells * 9 = mul-le-mul_left cells few in
    omega arith

adopts : (most : ℕ) (paths : List (List Cell)) (agent : ℕ) (path : List Cell) (lap : ℕ) → Short most paths → lap ≤ 150994944 →
    last_index path ≤ horizon (others paths agent) + lap → last_index path ≤ most + 150994944
adopts most paths agent path lap all few bounded = let far = short_others most paths agent all in omega arith

-- a step makes no path longer than one that was, by more than nine times over the map
pub short_moves : (site : Site) (old new : State) (most : ℕ) → IsInRange site → IsOrderly site old → Short most old.paths → Moves site old new →
    Short (most + 150994944) new.paths
short_moves site old new most range orderly all m =
    let P : List Cell → Type 0 = λ q. last_index q ≤ most + 150994944 in
    let more : Short (most + 150994944) old.paths = short_more most (most + 150994944) old.paths (omega arith) all in
    elim m [
      | stays c p l t z ↦ subst (Short (most + 150994944)) (sym p) more
      | adds client names cells room count few stations e ↦ subst (λ (s : State). Short (most + 150994944) s.paths) (sym e) more
      | continues agent n task path due own lawful e ↦
          let lap = laps site (length (tour site agent task.stops)) range (tour_few site.homes _ task.stops (orderly.stops n task own.there).few) in
          subst (λ (s : State). Short (most + 150994944) s.paths) (sym e)
          (All-set P old.paths agent path (adopts most old.paths agent path _ all lap lawful.bounded) more)
      | takes agent n task path due none next lawful e ↦
          let lap = laps site (length (tour site agent task.stops)) range (tour_few site.homes _ task.stops (orderly.stops n task next.eligible.there).few) in
          subst (λ (s : State). Short (most + 150994944) s.paths) (sym e)
          (All-set P old.paths agent path (adopts most old.paths agent path _ all lap lawful.bounded) more)
      | parks agent path due way lawful e ↦
          let lap = laps site 2 range (omega arith) in
          subst (λ (s : State). Short (most + 150994944) s.paths) (sym e)
          (All-set P old.paths agent path (adopts most old.paths agent path _ all lap lawful.bounded) more)
      | ticks fits e ↦ subst (λ (s : State). Short (most + 150994944) s.paths) (sym e) (short_advanced (most + 150994944) old.paths more)
    ]

-- an agent is idle no later than it has no steps left
pub idle_within : (site : Site) (s : State) (agent k : ℕ) → agent < length s.paths → IsIdleIn site s agent k → k ≤ steps_left s.paths agent
idle_within site s agent zero known idle = omega arith
idle_within site s agent (suc k) known idle =
    let moves : steps_left s.paths agent ≢ 0 = λ rests. idle.0 (inl rests) in
    let step = left-next s agent known in
    let count = length-map s.paths advanced in
    let next : agent < length (moved s).paths = omega arith in
    let later : k ≤ steps_left (moved s).paths agent = idle_within site (arrived (moved s)) agent k next idle.1 in omega arith

-- at first each agent stands at its start
pub short_first : (cells : List Cell) → Short 0 (map (λ c. c ∷ []) cells)
short_first cells = All-map (λ p. last_index p ≤ 0) (λ (c : Cell). c ∷ []) cells (λ k d less. omega arith)

-- how long agents still move: for each agent a pass over the map for each stop of a task, at most, beyond what is left of the paths with
-- which the run began
use Rattle.std.proofs.Common.{◌≡◌, ℕ, ◌+◌, ◌-◌, ◌*◌, ◌<◌, ◌≤◌, List, [], ◌∷◌, false, length, get_or, map, set, refl, sym, ap, ◌∙◌, subst, arith, inl, inr}
use Rattle.std.proofs.lemmas.Nat.{mul-le}
use Rattle.std.proofs.lemmas.List.{length-map}
use Rattle.std.proofs.lemmas.Option.{slice_get_within, get_or_from_slice_get}
use Rattle.wh_grid.specs.declared.cell.Cell.{Cell}
use Rattle.wh_grid.specs.Grids.{passable_cells}
use Rattle.wh_path.specs.Paths.{last_index, steps_left, others, horizon, advanced}
use Rattle.wh_points.specs.Points.{Site, starts, home_of}
use Rattle.wh_tasks.specs.declared.task.Task.{Task}
use Rattle.wh_core.specs.States.{State}
use Rattle.wh_core.specs.Steps.{Run, tour}
use Rattle.wh_core.specs.Laws.{IsOpening, IsBeginning, AllOnTheirWays, IsBeginningOnTheirWays}
use Rattle.wh_event.specs.declared.entry.Entry.{Entry}
use Rattle.wh_core.proofs.StepKinds.{Moves, stays, adds, takes, continues, parks, ticks, step-moves}
use Rattle.wh_core.proofs.Later.{later-run}
use Rattle.wh_core.proofs.Work.{IsKept}
use Rattle.wh_core.proofs.Sound.{kept-of, sound-reached, sound-moves, ways-moves}
use Rattle.wh_core.proofs.Clocks.{clock-run}
use Rattle.wh_core.proofs.Ways.{way-cause}
use Rattle.wh_core.proofs.Idle.{idle-rests}
use Rattle.wh_core.proofs.Drops.{homeward-off}
use Rattle.wh_tasks.specs.Tasks.{IsTask}
use Rattle.wh_progress.specs.Progress.{HaveAtMost, first_paths_left}
use Rattle.wh_progress.proofs.Stairs.{AreStairs, stairs-set, stairs-height}
use Rattle.wh_progress.proofs.Horizons.{horizon-at, others-at, steps-advanced, steps-few}
use Rattle.wh_progress.proofs.Reaching.{few-before}

-- the steps that are left to the agents beyond a base are stairs
abbrev AreSpaced : (most base : ℕ) → List (List Cell) → Type 0
AreSpaced most base paths = AreStairs (λ (p : List Cell). last_index p - base) [] most paths

spaced-advanced : (most base : ℕ) (paths : List (List Cell)) → AreSpaced most base paths → AreSpaced most (base - 1) (map advanced paths)
spaced-advanced most base paths spaced i h above =
    let size = length-map paths advanced in
    let this = steps-advanced paths i (omega arith) in
    let b = spaced i (omega arith) (omega arith) in
    let that = steps-advanced paths b.place b.known in
    let lower = b.lower in
    let near = b.near in
    let inside = b.known in
    record { place = b.place; known = omega arith; lower = omega arith; near = omega arith }

spaced-adopted : (most base few : ℕ) (paths : List (List Cell)) (agent : ℕ) (path : List Cell) → AreSpaced most base paths → agent < length paths → steps_left paths agent ≡ 0 →
    last_index path ≤ horizon (others paths agent) + few → few ≤ most → AreSpaced most base (set paths agent path)
spaced-adopted most base few paths agent path spaced known resting short less =
    stairs-set (λ (p : List Cell). last_index p - base) [] most paths agent path spaced known (omega arith) (elim (others-at paths agent) [
      | inl none ↦ inl (omega arith)
      | inr some ↦ inr (some.0, some.1, some.2, (let e = some.3 in omega arith))
    ])

-- the base after so many ticks
abbrev base-at : (base : ℕ) (old new : State) → ℕ
base-at base old new = base - (new.clock - old.clock)

base-same : (base clock : ℕ) → base ≡ base - (clock - clock)
base-same base clock = omega arith

base-next : (base clock : ℕ) → base - 1 ≡ base - (clock + 1 - clock)
base-next base clock = omega arith

base-later : (base old mid new : ℕ) → old ≤ mid → mid ≤ new → base - (mid - old) - (new - mid) ≡ base - (new - old)
base-later base old mid new first then = omega arith

spaced-moves : (site : Site) (stops base : ℕ) (old new : State) → site.homes ≡ false → IsKept site old → AllOnTheirWays site old → HaveAtMost stops old →
    AreSpaced (stops * passable_cells site.grid) base old.paths → Moves site old new → AreSpaced (stops * passable_cells site.grid) (base-at base old new) new.paths
spaced-moves site stops base old new off kept home few spaced m =
    let cells = passable_cells site.grid in
    let most = stops * cells in
    let same = base-at base old old in
    let here : AreSpaced most same old.paths = subst (λ b. AreSpaced most b old.paths) (base-same base old.clock) spaced in
    let few_of : (n : ℕ) (task : Task) → IsTask old.tasks n task → length task.stops ≤ stops =
    λ n task there.
    subst (λ (t : Task). length t.stops ≤ stops) (get_or_from_slice_get old.tasks n task task there) (few n task (slice_get_within old.tasks n task there)) in
    let short : (agent n : ℕ) (task : Task) → IsTask old.tasks n task → length (tour site agent task.stops) * cells ≤ most =
    λ agent n task there.
    let same : length (tour site agent task.stops) ≡ length task.stops = ap (λ (l : List Cell). length l) (homeward-off site.homes (home_of site.layout agent) task.stops off) in
    let count = few_of n task there in
    mul-le (length (tour site agent task.stops)) cells stops cells (omega arith) (omega arith) in
    let spaced_in : State → Type 0 = λ s. AreSpaced most (base-at base old s) s.paths in
    elim m [
      | stays c p l t z ↦ subst (λ ps. AreSpaced most (base-at base old new) ps) (sym p) (subst (λ clock. AreSpaced most (base - (clock - old.clock)) old.paths) (sym c) here)
      | adds client names stations room two eight zip e ↦ subst spaced_in (sym e) here
      | takes agent n task path due none next lawful e ↦
          subst spaced_in (sym e)
          (spaced-adopted most same (length (tour site agent task.stops) * cells) old.paths agent path here due.known.known (idle-rests site old agent off due.idle) lawful.bounded
          (short agent n task next.eligible.there))
      | continues agent n task path due own lawful e ↦
          subst spaced_in (sym e)
          (spaced-adopted most same (length (tour site agent task.stops) * cells) old.paths agent path here due.known.known (idle-rests site old agent off due.idle) lawful.bounded
          (short agent n task own.there))
      | parks agent path due way lawful e ↦
          let at_it = (way-cause site old agent kept home due way).1 in
          let count = few_of at_it.0 at_it.1 at_it.2 in
          let two = (kept.orderly.stops at_it.0 at_it.1 at_it.2).count in
          subst spaced_in (sym e)
          (spaced-adopted most same (2 * cells) old.paths agent path here due.known.known (idle-rests site old agent off due.idle) lawful.bounded (mul-le 2 cells stops cells (omega arith) (omega arith)))
      | ticks fits e ↦
          subst spaced_in (sym e) (subst (λ b. AreSpaced most b (map advanced old.paths)) (base-next base old.clock) (spaced-advanced most base old.paths spaced))
    ]

spaced-run : (site : Site) (stops base : ℕ) (old : State) (entries : List Entry) (new : State) → site.homes ≡ false → IsBeginning site old → AllOnTheirWays site old → HaveAtMost stops new →
    AreSpaced (stops * passable_cells site.grid) base old.paths → Run site old entries new → AreSpaced (stops * passable_cells site.grid) (base-at base old new) new.paths
spaced-run site stops base old [] new off begins home few spaced run =
    let most = stops * passable_cells site.grid in
    subst (λ (s : State). AreSpaced most (base-at base old s) s.paths) (sym run) (subst (λ b. AreSpaced most b old.paths) (base-same base old.clock) spaced)
spaced-run site stops base old (entry ∷ entries) new off begins home few spaced run =
    let most = stops * passable_cells site.grid in
    let mid = run.0 in
    let moves = step-moves site old entry mid run.1 in
    let old_few = few-before stops old new (later-run site old (entry ∷ entries) new run) few in
    let rest = spaced-run site stops (base-at base old mid) mid entries new off (record { layout = begins.layout; sound = sound-moves site old mid begins.sound moves })
    (ways-moves site old mid begins.layout begins.sound home moves) few
    (spaced-moves site stops base old mid off (kept-of site old begins.sound) home old_few spaced moves) run.2 in
    subst (λ b. AreSpaced most b new.paths)
    (base-later base old.clock mid.clock new.clock (clock-run site old (entry ∷ []) mid (mid, run.1, refl)) (clock-run site mid entries new run.2)) rest

-- none is above the longest path
spaced-first : (most : ℕ) (paths : List (List Cell)) → AreSpaced most (horizon paths) paths
spaced-first most paths i h above = (let few = steps-few paths i h in absurd (omega arith))

-- No agent moves on for longer than a pass over the map for each agent and stop, beyond what is left of the first paths.
pub horizon_is_bounded : (site : Site) (stops : ℕ) (beginning : State) (entries : List Entry) (s : State) → site.homes ≡ false → IsBeginningOnTheirWays site beginning →
    Run site beginning entries s → HaveAtMost stops s →
    horizon s.paths ≤ length site.layout.agents * (stops * passable_cells site.grid) + first_paths_left beginning s
horizon_is_bounded site stops beginning entries s off begins run few =
    let most = stops * passable_cells site.grid in
    let base = first_paths_left beginning s in
    let spaced = spaced-run site stops (horizon beginning.paths) beginning entries s off begins.beginning begins.on_their_ways few (spaced-first most beginning.paths) run in
    let seats = (sound-reached site entries s (record { opening = beginning; is_beginning = begins.beginning; run = run })).seats.paths in
    elim (horizon-at s.paths) [
      | inl none ↦ omega arith
      | inr some ↦
          let high : last_index (get_or s.paths some.0 []) - base ≤ length s.paths * most = stairs-height (λ (p : List Cell). last_index p - base) [] most s.paths spaced some.0 some.1 in
          let e = some.2 in
          let size : length s.paths * most ≡ length site.layout.agents * most = ap (λ n. n * most) seats in
          omega arith
    ]

-- where the agents stand nothing is left
flat : (cells : List Cell) → horizon (map (λ (c : Cell). c ∷ []) cells) ≡ 0
flat [] = refl
flat (cell ∷ cells) = (let rest = flat cells in omega arith)

pub openings_stand : (site : Site) (opening s : State) → IsOpening site opening → first_paths_left opening s ≡ 0
openings_stand site opening s o =
    let none : horizon opening.paths ≡ 0 = ap (λ (t : State). horizon t.paths) o.is_opened ∙ flat (starts site.layout) in
    omega arith

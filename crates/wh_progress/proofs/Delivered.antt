-- the theorems, from the parts
use Rattle.std.proofs.Common.{◌≡◌, ◌≢◌, ℕ, ◌+◌, ◌*◌, ◌<◌, ◌≤◌, List, [], ◌∷◌, ◌++◌, false, length, take, drop, sym, ap, subst, arith, ◌∙◌, ◌⊎◌, inl, inr}
use Rattle.std.specs.Prelude.{All}
use Rattle.std.proofs.lemmas.List.Elements.{All-nil, All-cons}
use Rattle.wh_grid.proofs.Removed.{All-right}
use Rattle.std.proofs.lemmas.List.Sums.{count_by-le-length}
use Rattle.wh_grid.specs.Grids.{passable_cells}
use Rattle.wh_path.specs.Paths.{end, horizon}
use Rattle.wh_points.specs.Points.{Site}
use Rattle.wh_points.specs.Formed.{IsFormed}
use Rattle.wh_tasks.specs.declared.task.Task.{Task}
use Rattle.wh_tasks.specs.declared.task.Phase.{Phase}
use Rattle.wh_tasks.specs.Tasks.{IsTask, phase}
use Rattle.wh_core.specs.States.{State}
use Rattle.wh_core.specs.Steps.{Step, Run}
use Rattle.wh_core.specs.Laws.{IsBeginningOnTheirWays, IsReachedOnTheirWays}
use Rattle.wh_event.specs.declared.entry.Entry.{Entry}
use Rattle.wh_event.specs.declared.reply.Refusal.{Refusal}
use Rattle.wh_event.specs.declared.reply.Reply.{Reply}
use Rattle.wh_core.proofs.Sound.{sound-reached, kept-reached, begun-reached, ways-reached}
use Rattle.wh_progress.specs.Laws.{NoneCanStand}
use Rattle.wh_core.proofs.Ways.{none_is_refused_a_path}
use Rattle.wh_progress.specs.Progress.{is_awaited, in_way, open_tasks, legs, span, weight, left_to_do, first_paths_left, HaveAtMost, FindPaths, IsRound, Rounds, StandsStill, StoodStill, AreOfTwoPlaces, AllDone}
use Rattle.wh_progress.proofs.Sizes.{credits, twice-span}
use Rattle.wh_progress.proofs.Weighing.{added_by, turn}
use Rattle.wh_progress.proofs.Rounds.{EachTurns, run-no_more, round-turn, rounds-still}
use Rattle.wh_progress.proofs.Reaching.{reached-run, few-before, places-before, rounds-later, done-at, done-on, done-later, tasks-stay}
use Rattle.wh_progress.proofs.Spans.{horizon_is_bounded}
use Rattle.wh_core.proofs.Later.{AllLater}
use Rattle.wh_progress.proofs.Standing.{zero_still, still_is_done}

turns : (site : Site) (stops : ℕ) → EachTurns site stops (left_to_do site stops) (added_by site stops)
turns site stops before old entry new r few step = turn site stops old entry.reply entry.event new (kept-reached site before old r.reached) (ways-reached site before old r) few step

-- what was added, as a number of tasks
added-is : (site : Site) (stops : ℕ) (old new : State) (added : ℕ) → length new.tasks ≡ length old.tasks + added →
    added_by site stops new ≡ added_by site stops old + 3 * span site stops * added
added-is site stops old new added e =
    ap (λ m. 3 * span site stops * m) e ∙ credits (span site stops) (length old.tasks) added

pub each_round_brings : (site : Site) (stops : ℕ) (before entries : List Entry) (s new : State) (added : ℕ) → IsReachedOnTheirWays site before s →
    IsRound site s entries new → FindPaths entries → HaveAtMost stops new → length new.tasks ≡ length s.tasks + added →
    (left_to_do site stops new < left_to_do site stops s + 3 * span site stops * added) ⊎ StandsStill site s
each_round_brings site stops before entries s new added r round finds few e =
    let credit = added-is site stops s new added e in
    elim (round-turn site stops (left_to_do site stops) (added_by site stops) (turns site stops) before s entries new r few round finds) [
      | inl less ↦ inl (omega arith)
      | inr still ↦ inr still
    ]

pub all_comes_to_rest : (site : Site) (stops : ℕ) (before : List Entry) (s new : State) (rounds : List (List Entry)) (added : ℕ) → IsReachedOnTheirWays site before s →
    Rounds site s rounds new → All FindPaths rounds → HaveAtMost stops new → length new.tasks ≡ length s.tasks + added →
    left_to_do site stops s + 3 * span site stops * added ≤ length rounds → StoodStill site s rounds new
all_comes_to_rest site stops before s new rounds added r run finds few e enough =
    let credit = added-is site stops s new added e in
    rounds-still site stops (left_to_do site stops) (added_by site stops) (turns site stops) (zero_still site stops) before s rounds new r few run finds (omega arith)

-- on a well-formed instance no request is refused for lack of a path
pub rounds_find_paths : (site : Site) (before : List Entry) (s new : State) (rounds : List (List Entry)) → IsFormed site → IsReachedOnTheirWays site before s →
    Rounds site s rounds new → All FindPaths rounds
rounds_find_paths site before s new [] formed r run = All-nil FindPaths
rounds_find_paths site before s new (round ∷ rounds) formed r run =
    let next = reached-run site before round s run.0 r run.1.run in
    All-cons FindPaths round rounds
    (All-right (λ entry. entry.reply ≢ Reply.Refused Refusal.NoPath) before round (none_is_refused_a_path site (before ++ round) run.0 formed next))
    (rounds_find_paths site (before ++ round) run.0 new rounds formed next run.2)

-- rounds lead from a reached state to a reached one
pub reached-rounds : (site : Site) (before : List Entry) (s : State) (rounds : List (List Entry)) (new : State) → IsReachedOnTheirWays site before s → Rounds site s rounds new →
    (more : List Entry) × IsReachedOnTheirWays site more new
reached-rounds site before s [] new r run = (before, subst (λ t. IsReachedOnTheirWays site before t) (sym run) r)
reached-rounds site before s (round ∷ rounds) new r run =
    reached-rounds site (before ++ round) run.0 rounds new (reached-run site before round s run.0 r run.1.run) run.2

pub left_is_bounded : (site : Site) (stops : ℕ) (beginning : State) (entries : List Entry) (s : State) → site.homes ≡ false → IsBeginningOnTheirWays site beginning →
    Run site beginning entries s → HaveAtMost stops s →
    left_to_do site stops s ≤ 2 * span site stops * (length site.layout.agents + open_tasks s) + first_paths_left beginning s
left_is_bounded site stops beginning entries s off begins run few =
    let seats = (sound-reached site entries s (begun-reached site beginning entries s begins run).reached).seats.paths in
    let ways = count_by-le-length (λ path. is_awaited s.tasks (end path)) s.paths in
    let far = horizon_is_bounded site stops beginning entries s off begins run few in
    subst (λ b. (legs b stops * passable_cells site.grid + 1) * weight b s + horizon s.paths
    ≤ 2 * (legs b stops * passable_cells site.grid + 1) * (length site.layout.agents + open_tasks s) + first_paths_left beginning s) (sym off)
    (twice-span (stops * passable_cells site.grid) (in_way s) (open_tasks s) (length site.layout.agents) (horizon s.paths) (first_paths_left beginning s) (omega arith) far)

pub only_tasks_add : (site : Site) (stops : ℕ) (entries : List Entry) (s : State) (entry : Entry) (new : State) (added : ℕ) → IsReachedOnTheirWays site entries s →
    Step site s entry new → HaveAtMost stops new → length new.tasks ≡ length s.tasks + added →
    left_to_do site stops new ≤ left_to_do site stops s + 3 * span site stops * added
only_tasks_add site stops entries s entry new added r step few e =
    let credit = added-is site stops s new added e in
    let no_more = run-no_more site stops (left_to_do site stops) (added_by site stops) entries s entry new (turns site stops) r few step in
    omega arith

-- none can stand with more tasks, and so with fewer
stand-before : (site : Site) (old new : State) → AllLater old.tasks new.tasks → NoneCanStand site new → NoneCanStand site old
stand-before site old new later none = elim none [ inl has ↦ inl has | inr two ↦ inr (two.0, places-before old new later two.1) ]

-- as many rounds as are left to do
pub all_is_delivered : (site : Site) (stops : ℕ) (before : List Entry) (s new : State) (rounds : List (List Entry)) → IsFormed site →
    0 < length site.layout.agents → IsReachedOnTheirWays site before s → Rounds site s rounds new → length new.tasks ≡ length s.tasks →
    HaveAtMost stops new → NoneCanStand site new → left_to_do site stops s ≤ length rounds → AllDone new
all_is_delivered site stops before s new rounds formed some r run same few places enough =
    let none : length new.tasks ≡ length s.tasks + 0 = omega arith in
    let stood = all_comes_to_rest site stops before s new rounds 0 r run (rounds_find_paths site before s new rounds formed r run) few none (omega arith) in
    let later = rounds-later site stood.state (drop stood.count rounds) new stood.after in
    let reached = reached-rounds site before s (take stood.count rounds) stood.state r stood.before in
    let first = tasks-stay s.tasks stood.state.tasks (rounds-later site s (take stood.count rounds) stood.state stood.before) in
    done-later stood.state new later (omega arith)
    (still_is_done site reached.0 stood.state some reached.1 (stand-before site stood.state new later places) stood.still)

-- the same while tasks keep coming
pub each_is_delivered_meanwhile : (site : Site) (stops : ℕ) (before : List Entry) (s new : State) (rounds : List (List Entry)) (added n : ℕ) (task : Task) →
    IsFormed site → 0 < length site.layout.agents → IsReachedOnTheirWays site before s → Rounds site s rounds new →
    length new.tasks ≡ length s.tasks + added → HaveAtMost stops new → NoneCanStand site new →
    left_to_do site stops s + 3 * span site stops * added ≤ length rounds →
    IsTask s.tasks n task → (later : Task) × IsTask new.tasks n later × (phase later ≡ Phase.Done)
each_is_delivered_meanwhile site stops before s new rounds added n task formed some r run more few places enough there =
    let stood = all_comes_to_rest site stops before s new rounds added r run (rounds_find_paths site before s new rounds formed r run) few more (omega arith) in
    let later = rounds-later site stood.state (drop stood.count rounds) new stood.after in
    let reached = reached-rounds site before s (take stood.count rounds) stood.state r stood.before in
    let on = rounds-later site s (take stood.count rounds) stood.state stood.before n task there in
    let done = still_is_done site reached.0 stood.state some reached.1 (stand-before site stood.state new later places) stood.still in
    let is = done-at stood.state n on.0 done on.1 in
    done-on stood.state new n on.0 later on.1 is

-- with the bound of what is left to do in numbers
pub all_is_delivered_within : (site : Site) (stops : ℕ) (beginning : State) (before : List Entry) (s new : State) (rounds : List (List Entry)) → site.homes ≡ false →
    IsFormed site → 0 < length site.layout.agents → IsBeginningOnTheirWays site beginning → Run site beginning before s → Rounds site s rounds new →
    length new.tasks ≡ length s.tasks → HaveAtMost stops new → AreOfTwoPlaces new →
    2 * span site stops * (length site.layout.agents + open_tasks s) + first_paths_left beginning s ≤ length rounds → AllDone new
all_is_delivered_within site stops beginning before s new rounds off formed some begins before_run run same few places enough =
    let r = begun-reached site beginning before s begins before_run in
    let bound = left_is_bounded site stops beginning before s off begins before_run (few-before stops s new (rounds-later site s rounds new run) few) in
    all_is_delivered site stops before s new rounds formed some r run same few (inr (off, places)) (omega arith)

pub each_is_delivered_within : (site : Site) (stops : ℕ) (beginning : State) (before : List Entry) (s new : State) (rounds : List (List Entry)) (added n : ℕ) (task : Task) →
    site.homes ≡ false → IsFormed site → 0 < length site.layout.agents → IsBeginningOnTheirWays site beginning → Run site beginning before s →
    Rounds site s rounds new → length new.tasks ≡ length s.tasks + added → HaveAtMost stops new → AreOfTwoPlaces new →
    2 * span site stops * (length site.layout.agents + open_tasks s) + first_paths_left beginning s + 3 * span site stops * added ≤ length rounds →
    IsTask s.tasks n task → (later : Task) × IsTask new.tasks n later × (phase later ≡ Phase.Done)
each_is_delivered_within site stops beginning before s new rounds added n task off formed some begins before_run run more few places enough there =
    let r = begun-reached site beginning before s begins before_run in
    let bound = left_is_bounded site stops beginning before s off begins before_run (few-before stops s new (rounds-later site s rounds new run) few) in
    each_is_delivered_meanwhile site stops before s new rounds added n task formed some r run more few (inr (off, places)) (omega arith) there

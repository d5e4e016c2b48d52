-- agents that were stopped, and where an agent may come to rest
use Rattle.std.proofs.Common.{◌≡◌, ℕ, ◌+◌, ◌-◌, ◌<◌, ◌≤◌, ◌∙◌, ◌⊎◌, inl, inr, List, [], ◌∷◌, ◌++◌, Bool, true, false, not, Option, Some, None, length, take, drop, get_or, refl, sym, ap, subst, arith, length-append}
use Prim.Native.Nat.{zero, suc}
use Rattle.std.specs.Prelude.{◌↔◌, Contains, IfNone, IsTrue, MatchBool, slice_get}
use Rattle.std.specs.List.{IsAnyAnswer}
use Rattle.std.proofs.lemmas.Bool.{false≢true, cases_eq}
use Rattle.std.proofs.lemmas.Option.{same_Some, slice_get-get_or}
use Rattle.std.proofs.lemmas.List.{get_or_default, take_all, length-drop}
use Rattle.std.proofs.lemmas.List.Elements.{Contains-push, Contains-push_cases, Contains-append_left}
use Rattle.wh_grid.specs.declared.cell.Cell.{Cell}
use Rattle.wh_grid.specs.Cells.{is_cell}
use Rattle.wh_grid.proofs.Cells.{is_cell-same, is_cell-one}
use Rattle.wh_path.specs.Paths.{at, cell_at, path_of, place_of, end_of}
use Rattle.wh_points.specs.declared.points.Point.{Point}
use Rattle.wh_points.specs.Points.{Layout, Site, IsPointCell}
use Rattle.wh_tasks.specs.declared.task.Task.{Task}
use Rattle.wh_tasks.specs.declared.task.Load.{Load}
use Rattle.wh_tasks.specs.Tasks.{IsTask, stops_left, visited}
use Rattle.wh_tasks.specs.Loads.{task_of, Holds}
use Rattle.wh_tasks.specs.Choice.{IsNearest, NoneEligible}
use Rattle.wh_planner.specs.Duties.{Delivers}
use Rattle.wh_core.specs.States.{State, load_of}
use Rattle.wh_core.specs.Steps.{IsAllowed, IsAwaited, IsBerth, IsNext, IsNextBy, NoneIsNext, IsOwn, IsRestCell, IsStray, IsWanted, homeward, other_ends, tour}
use Rattle.wh_core.specs.Laws.{IsSound, AllOnTheirWays}
use Rattle.wh_state.specs.Standings.{AreTied}
use Rattle.wh_stand.proofs.Soundness.{sound-one}
use Rattle.wh_stand.proofs.Strays.{none_own}
use Rattle.wh_book.specs.Strays.{Awaits}

-- ---- tests
pub not-so : (b : Bool) → b ≡ true → IsTrue (not b) → ⊥
not-so true e n = false≢true n
not-so false e n = false≢true e

-- whether one of the stops that are left is the cell
has-cell : (cells : List Cell) (cell : Cell) (found : Bool) → IsAnyAnswer (λ y b. is_cell y cell ≡ b) cells found → IsTrue found ↔ Contains cells cell
has-cell cells cell true any = (λ yes. (any.0, any.1, is_cell-same (get_or cells any.0 cell) cell (any.2 cell)), λ has. refl)
has-cell cells cell false any = (
  λ yes. absurd (false≢true yes),
  λ has. absurd (false≢true (sym (any has.0 cell (let z : 0 ≤ has.0 = omega arith in z) has.1) ∙ is_cell-one (get_or cells has.0 cell) cell has.2)),
)

-- the stops that are left, as they are read
pub left-read : (task : Task) (stops : List Cell) (seen : List ℕ) → stops ≡ task.stops → seen ≡ task.visits → take (length stops - length seen) (drop (length seen) stops) ≡ stops_left task
left-read task stops seen e f =
    let size = length-drop (length seen) stops in
    take_all (length stops - length seen) (drop (length seen) stops) (omega arith)
    ∙ ap (λ (cells : List Cell). drop (length seen) cells) e ∙ ap (λ (clocks : List ℕ). drop (length clocks) task.stops) f

pub has_left : (task : Task) (stops : List Cell) (seen : List ℕ) (cell : Cell) (found : Bool) → stops ≡ task.stops → seen ≡ task.visits →
    IsAnyAnswer (λ y b. is_cell y cell ≡ b) (take (length stops - length seen) (drop (length seen) stops)) found → IsTrue found ↔ Contains (stops_left task) cell
has_left task stops seen cell found e f any =
    subst (λ cells. IsTrue found ↔ Contains cells cell) (left-read task stops seen e f)
    (has-cell (take (length stops - length seen) (drop (length seen) stops)) cell found any)

-- ---- an agent that was stopped
own-same : (site : Site) (s : State) (agent m n : ℕ) (one task : Task) → IsSound site s → IsOwn s agent m one → IsOwn s agent n task → one ≡ task
own-same site s agent m n one task sound a b =
    let same : m ≡ n = sound-one site s sound agent m n one task a b in
    same_Some one task (sym a.there ∙ ap (λ k. slice_get s.tasks k) same ∙ b.there)

pub awaits-none : (site other : Site) (s : State) (agent : ℕ) (cell : Cell) → IsSound other s → agent < length s.paths → task_of (load_of s agent) ≡ None → Awaits site s agent cell → ⊥
awaits-none site other s agent cell sound known none a = none_own other s agent a.number a.task sound known none a.own

pub awaits-its : (site other : Site) (s : State) (agent n : ℕ) (task : Task) (cell : Cell) → IsSound other s → IsOwn s agent n task → Awaits site s agent cell →
    (¬ Delivers (tour site agent (stops_left task)) (path_of s.paths agent)) × Contains (stops_left task) cell
awaits-its site other s agent n task cell sound own a =
    subst (λ (t : Task). (¬ Delivers (tour site agent (stops_left t)) (path_of s.paths agent)) × Contains (stops_left t) cell)
    (own-same other s agent a.number n a.task task sound a.own own) (a.halts, a.left)

-- by what was read of it
pub awaits-by : (site other : Site) (s : State) (agent n : ℕ) (task : Task) (path : List Cell) (cell : Cell) (led : Bool) → IsSound other s → IsOwn s agent n task →
    path ≡ path_of s.paths agent → (IsTrue led ↔ Delivers (tour site agent (stops_left task)) path) → Contains (stops_left task) cell → IsTrue (not led) ↔ Awaits site s agent cell
awaits-by site other s agent n task path cell true sound own read leads left = (
  λ yes. absurd (false≢true yes),
  λ a. absurd ((awaits-its site other s agent n task cell sound own a).0 (subst (λ p. Delivers (tour site agent (stops_left task)) p) read (leads.0 refl))),
)
awaits-by site other s agent n task path cell false sound own read leads left = (
  λ yes. record {
    number = n;
    task = task;
    own = own;
    halts = λ d. false≢true (leads.1 (subst (λ p. Delivers (tour site agent (stops_left task)) p) (sym read) d));
    left = left;
  },
  λ a. refl,
)

pub awaited-by : (site : Site) (s : State) (agent : ℕ) (cell : Cell) → Awaits site s agent cell → IsAwaited site s cell
awaited-by site s agent cell a = (a.number, a.task, record { agent = agent; own = a.own; halts = a.halts }, a.left)

pub awaits-of : (site other : Site) (s : State) (cell : Cell) → IsSound other s → IsAwaited site s cell → (agent : ℕ) × (agent < length s.paths) × Awaits site s agent cell
awaits-of site other s cell sound is =
    let h = is.2 in
    (h.agent, (sound.tasks is.0 is.1 h.own.there).known h.agent h.own.agent_is, record { number = is.0; task = is.1; own = h.own; halts = h.halts; left = is.3 })

-- where all are on their ways nobody was
pub none-awaited : (site other : Site) (s : State) (cell : Cell) → IsSound other s → AllOnTheirWays site s → IsAwaited site s cell → ⊥
none-awaited site other s cell sound ways is =
    let a = awaits-of site other s cell sound is in
    a.2.halts ((ways a.0 a.1).delivers a.2.number a.2.task a.2.own)

-- ---- where it may rest
pub rest-by : (site : Site) (s : State) (agent : ℕ) (here : Cell) (wanted : Bool) → here ≡ end_of s.paths agent → (IsTrue wanted ↔ IsWanted site s here) → IsBerth site agent here →
    MatchBool (not wanted) (IsRestCell site s agent (end_of s.paths agent)) (IsWanted site s (end_of s.paths agent) ⊎ (¬ IsBerth site agent (end_of s.paths agent)))
rest-by site s agent here true ends is berth = inl (subst (λ c. IsWanted site s c) ends (is.0 refl))
rest-by site s agent here false ends is berth = record {
  berth = subst (λ c. IsBerth site agent c) ends berth;
  not_wanted = λ w. false≢true (is.1 (subst (λ c. IsWanted site s c) (sym ends) w));
}

pub stray-by : (site : Site) (s : State) (agent : ℕ) (here : Cell) (berth : Bool) → here ≡ end_of s.paths agent → (IsTrue berth ↔ IsBerth site agent here) → load_of s agent ≡ Load.None →
    MatchBool (not berth) (IsStray site s agent) ((load_of s agent ≡ Load.None) × IsBerth site agent (end_of s.paths agent))
stray-by site s agent here true ends is none = (none, subst (λ c. IsBerth site agent c) ends (is.0 refl))
stray-by site s agent here false ends is none = inr (λ b. false≢true (is.1 (subst (λ c. IsBerth site agent c) (sym ends) b)))

pub allowed-by : (site : Site) (s : State) (agent : ℕ) (cell : Cell) (ends : List Cell) (has : Bool) → ends ≡ other_ends s agent → IsBerth site agent cell → ¬ IsWanted site s cell →
    (IsTrue has ↔ Contains ends cell) → IsTrue (not has) ↔ IsAllowed site s agent cell
allowed-by site s agent cell ends true e berth free is = (
  λ yes. absurd (false≢true yes),
  λ (a : IsAllowed site s agent cell). absurd (a.no_end (subst (λ cells. Contains cells cell) e (is.0 refl))),
)
allowed-by site s agent cell ends false e berth free is = (
  λ yes. record { rest = record { berth = berth; not_wanted = free }; no_end = λ c. false≢true (is.1 (subst (λ cells. Contains cells cell) (sym e) c)) },
  λ a. refl,
)

-- ---- the cells of the points below a number at which it may park
pub record IsListed (points : List Point) (May : Cell → Type 0) (i : ℕ) (cells : List Cell) : Type 0 where
  pub sound : (cell : Cell) → Contains cells cell → May cell
  pub all : (k : ℕ) (point : Point) → k < i → get_or points k point ≡ point → May point.cell → Contains cells point.cell

same-point : (points : List Point) (k i : ℕ) (one other : Point) → i < length points → k ≡ i → one ≡ get_or points i one → get_or points k other ≡ other → one ≡ other
same-point points k i one other lt e read there = read ∙ get_or_default points i one other lt ∙ ap (λ n. get_or points n other) (sym e) ∙ there

pub listed-none : (points : List Point) (May : Cell → Type 0) (cells : List Cell) → cells ≡ [] → IsListed points May 0 cells
listed-none points May cells none = record {
  sound = λ cell has. absurd (let size = ap length none in let h = has.1 in omega arith);
  all = λ k point h there may. absurd (omega arith);
}

pub listed-more : (points : List Point) (May : Cell → Type 0) (i : ℕ) (cells : List Cell) (point : Point) → i < length points → point ≡ get_or points i point →
    May point.cell → IsListed points May i cells → IsListed points May (i + 1) (cells ++ point.cell ∷ [])
listed-more points May i cells point lt read may is = record {
  sound = λ cell in_list. elim (Contains-push_cases cells point.cell cell in_list) [
    | inl old ↦ is.sound cell old
    | inr e ↦ subst May e may
  ];
  all = λ k other less there free. elim (cases_eq k i) [
    | inl e ↦ subst (λ (p : Point). Contains (cells ++ point.cell ∷ []) p.cell) (same-point points k i point other lt e read there) (Contains-push cells point.cell)
    | inr ne ↦ Contains-append_left cells (point.cell ∷ []) other.cell (is.all k other (omega arith) there free)
  ];
}

pub listed-kept : (points : List Point) (May : Cell → Type 0) (i : ℕ) (cells : List Cell) (point : Point) → i < length points → point ≡ get_or points i point →
    (May point.cell → ⊥) → IsListed points May i cells → IsListed points May (i + 1) cells
listed-kept points May i cells point lt read none is = record {
  sound = is.sound;
  all = λ k other less there free. elim (cases_eq k i) [
    | inl e ↦ absurd (none (subst (λ (p : Point). May p.cell) (sym (same-point points k i point other lt e read there)) free))
    | inr ne ↦ is.all k other (omega arith) there free
  ];
}

pub listed-end : (layout : Layout) (May : Cell → Type 0) (i : ℕ) (cells : List Cell) (cell : Cell) → length layout.points ≤ i → IsListed layout.points May i cells →
    IsPointCell layout cell → May cell → Contains cells cell
listed-end layout May i cells cell all is point may =
    let there = point.1.1 in
    is.all there.0 _ (let lt = there.1 in omega arith) there.2 may

-- ---- the task that it takes
next-by : (load : Load) (site : Site) (s : State) (agent n : ℕ) → task_of load ≡ Some n → Holds s.tasks agent n load → (task : Task) × IsNextBy load site s agent n task
next-by Load.None site s agent n is h = absurd cc
next-by (Load.Fetching m) site s agent n is h = (h.task, (sym (same_Some m n is), record { there = h.there; agent_is = h.agent_is; left = h.left }))
next-by (Load.Carrying m seen) site s agent n is h = (h.task, (sym (same_Some m n is), record { there = h.there; agent_is = h.agent_is; left = h.left }))

pub next-own : (site : Site) (s : State) (agent n : ℕ) → AreTied s.loads s.tasks → agent < length s.loads → task_of (load_of s agent) ≡ Some n → (task : Task) × IsNext site s agent n task
next-own site s agent n tied known is =
    next-by (load_of s agent) site s agent n is (tied.holds agent n (load_of s agent) (slice_get-get_or s.loads agent Load.None known) is)

pub no-load : (load : Load) → task_of load ≡ None → load ≡ Load.None
no-load Load.None is = refl
no-load (Load.Fetching m) is = absurd cc
no-load (Load.Carrying m seen) is = absurd cc

pub next-nearest : (site : Site) (s : State) (agent n : ℕ) (task : Task) → load_of s agent ≡ Load.None → IsNearest site.grid s.tasks (other_ends s agent) (place_of s.paths agent) n task →
    IsNext site s agent n task
next-nearest site s agent n task none near = subst (λ load. IsNextBy load site s agent n task) (sym none) near

pub none-next : (s : State) (agent : ℕ) (r : Option ℕ) → load_of s agent ≡ Load.None → IfNone r (NoneEligible s.tasks (other_ends s agent)) → IfNone r (NoneIsNext s agent)
none-next s agent None none all = (none, all)
none-next s agent (Some n) none all = tt

-- ---- where it goes for it
-- to be at one cell twice asks no more than to be there
twice : (one : Cell) (path : List Cell) → Delivers (one ∷ one ∷ []) path ↔ Delivers (one ∷ []) path
twice one path = (
  λ d. record {
    visits = record { when = d.visits.when; in_order = d.visits.in_order; there = λ i h. (let z : i ≡ 0 = omega arith in rw z (d.visits.there 0 (omega arith))) };
    ends_there = d.ends_there;
  },
  λ d. record {
    visits = record { when = λ i. d.visits.when 0; in_order = λ i j h. omega arith; there = λ i h. both (d.visits.there 0 (omega arith)) i h };
    ends_there = d.ends_there;
  },
)
  where
    both : {here : Cell} → here ≡ one → (i : ℕ) → i < 2 → here ≡ cell_at (one ∷ one ∷ []) i
    both is zero h = is
    both is (suc zero) h = is
    both is (suc (suc i)) h = absurd (omega arith)

pub doubled : (cells goal : List Cell) (first : Cell) → length cells ≡ 1 → cells ≡ goal → (path : List Cell) → Delivers (cells ++ get_or cells 0 first ∷ []) path ↔ Delivers goal path
doubled [] goal first one same path = absurd cc
doubled (cell ∷ []) goal first one same path = subst (λ cells. Delivers (cell ∷ cell ∷ []) path ↔ Delivers cells path) same (twice cell path)
doubled (cell ∷ other ∷ cells) goal first one same path = absurd (omega arith)

pub tour-left : (task : Task) (stops : List Cell) (seen : List ℕ) (index : ℕ) (cells : List Cell) → stops ≡ task.stops → seen ≡ task.visits →
    cells ≡ take index (take (length stops - length seen) (drop (length seen) stops)) → length (take (length stops - length seen) (drop (length seen) stops)) ≤ index → cells ≡ stops_left task
tour-left task stops seen index cells e f is h = is ∙ take_all index (take (length stops - length seen) (drop (length seen) stops)) h ∙ left-read task stops seen e f

pub tour-on : (homes : Bool) (home : Cell) (cells left all : List Cell) → homes ≡ true → cells ≡ left → all ≡ cells ++ home ∷ [] → all ≡ homeward homes home left
tour-on homes home cells left all on same is = is ∙ ap (λ xs. xs ++ home ∷ []) same ∙ ap (λ b. homeward b home left) (sym on)

pub tour-off : (homes : Bool) (home : Cell) (cells left all : List Cell) → homes ≡ false → cells ≡ left → all ≡ cells → all ≡ homeward homes home left
tour-off homes home cells left all off same is = is ∙ same ∙ ap (λ b. homeward b home left) (sym off)

pub tour-few : (homes : Bool) (home : Cell) (task : Task) → length (homeward homes home (stops_left task)) ≤ length (homeward homes home task.stops)
tour-few false home task = (let size = length-drop (visited task) task.stops in omega arith)
tour-few true home task =
    let size = length-drop (visited task) task.stops in
    let one = length-append (stops_left task) (home ∷ []) in
    let two = length-append task.stops (home ∷ []) in
    omega arith

pub tour-some : (homes : Bool) (home : Cell) (task : Task) → visited task < length task.stops → 1 ≤ length (homeward homes home (stops_left task))
tour-some false home task left = (let size = length-drop (visited task) task.stops in omega arith)
tour-some true home task left =
    let size = length-drop (visited task) task.stops in
    let one = length-append (stops_left task) (home ∷ []) in
    omega arith

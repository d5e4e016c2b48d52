-- no sound state has a part with a flaw
use Rattle.std.proofs.Common.{◌≡◌, ◌≢◌, ℕ, ◌<◌, ◌∙◌, List, [], ◌∷◌, ◌++◌, Some, length, sym, subst, refl, ap, arith, length-append}
use Rattle.std.specs.Prelude.{slice_get}
use Rattle.std.proofs.lemmas.List.{length_push}
use Rattle.std.proofs.lemmas.Option.{slice_get_within}
use Rattle.wh_grid.specs.declared.cell.Cell.{Cell}
use Rattle.wh_grid.specs.Grids.{IsPassable}
use Rattle.wh_path.specs.Paths.{path_of, place_of, IsWalk, IsFree}
use Rattle.wh_points.specs.Points.{Site}
use Rattle.wh_tasks.specs.declared.task.Task.{Task}
use Rattle.wh_tasks.specs.Tasks.{IsTask}
use Rattle.wh_core.specs.States.{State}
use Rattle.wh_core.specs.Laws.{IsSound, IsStationCell, IsTimed}
use Rattle.wh_core.proofs.Lists.{slice_get-append}
use Rattle.wh_stand.specs.declared.flaw.Flaw.{Flaw}
use Rattle.wh_stand.specs.Parts.{Parts, state_of, with_task}
use Rattle.wh_stand.specs.PathFlaws.{IsPathFlaw}
use Rattle.wh_stand.specs.TaskFlaws.{IsTaskFlaw}
use Rattle.wh_stand.specs.Flawless.{IsAgentFlaw, NoneHasPaths, NoneHasTasks}
use Rattle.wh_stand.proofs.Adding.{path-old, path-new}
use Rattle.wh_stand.proofs.Soundness.{sound-one, sound-away, held-own, own-held}

-- ---- agents

-- the agent that comes behind some, in a state that has their paths and its first
path-there : (paths more all : List (List Cell)) (path : List Cell) → all ≡ (paths ++ path ∷ []) ++ more → path_of all (length paths) ≡ path
path-there paths more all path e =
    let size = length_push paths path in
    ap (λ ps. path_of ps (length paths)) e ∙ path-old (paths ++ path ∷ []) more (length paths) (omega arith) ∙ path-new paths path (length paths) refl

path-before : (paths more all : List (List Cell)) (path : List Cell) (agent : ℕ) → all ≡ (paths ++ path ∷ []) ++ more → agent < length paths →
    path_of all agent ≡ path_of paths agent
path-before paths more all path agent e h =
    let size = length_push paths path in
    ap (λ ps. path_of ps agent) e ∙ path-old (paths ++ path ∷ []) more agent (omega arith) ∙ path-old paths (path ∷ []) agent h

long : (paths more all : List (List Cell)) (path : List Cell) → all ≡ (paths ++ path ∷ []) ++ more → length paths < length all
long paths more all path e =
    let size = length_push paths path in
    let whole = ap (λ ps. length ps) e ∙ length-append (paths ++ path ∷ []) more in
    omega arith

walk-there : (site : Site) (s : State) (paths more : List (List Cell)) (path : List Cell) → s.paths ≡ (paths ++ path ∷ []) ++ more → IsSound site s → IsWalk site.grid path
walk-there site s paths more path e sound =
    subst (λ p. IsWalk site.grid p) (path-there paths more s.paths path e) (sound.walks (length paths) (long paths more s.paths path e))

free-there : (site : Site) (s : State) (paths more : List (List Cell)) (path : List Cell) (agent : ℕ) → s.paths ≡ (paths ++ path ∷ []) ++ more → IsSound site s →
    agent < length paths → IsFree site.layout.nofollow path (path_of paths agent)
free-there site s paths more path agent e sound h =
    let l = long paths more s.paths path e in
    let ne : length paths ≢ agent = λ same. (let z : agent < agent = omega arith in omega arith) in
    subst (λ p. IsFree site.layout.nofollow p (path_of paths agent)) (path-there paths more s.paths path e)
    (subst (λ q. IsFree site.layout.nofollow (path_of s.paths (length paths)) q) (path-before paths more s.paths path agent e h)
    (sound.free.pair (length paths) agent l (omega arith) ne))

path-flaw-none : (site : Site) (paths : List (List Cell)) (path : List Cell) (flaw : Flaw) → IsPathFlaw site.grid site.layout.nofollow paths path flaw →
    NoneHasPaths site (paths ++ path ∷ [])
path-flaw-none site paths path Flaw.Agents h s more e sound = h
path-flaw-none site paths path (Flaw.Blocked cell) h s more e sound =
    h.blocked (subst (λ c. IsPassable site.grid c) h.there ((walk-there site s paths more path e sound).passable h.when))
path-flaw-none site paths path Flaw.NoStep h s more e sound = h.1.1 ((walk-there site s paths more path e sound).moves h.1.0)
path-flaw-none site paths path (Flaw.Conflict agent) h s more e sound = h.1.not_free (free-there site s paths more path agent e sound h.1.known)
path-flaw-none site paths path (Flaw.NoStation cell) h s more e sound = h
path-flaw-none site paths path Flaw.Clocks h s more e sound = h
path-flaw-none site paths path (Flaw.UnknownAgent agent) h s more e sound = h
path-flaw-none site paths path (Flaw.HasAnother n) h s more e sound = h
path-flaw-none site paths path (Flaw.AtItsNextStop n) h s more e sound = h

pub agent-flaw-none : (site : Site) (parts : Parts) (path : List Cell) (flaw : Flaw) → IsAgentFlaw site parts path flaw → NoneHasPaths site (parts.paths ++ path ∷ [])
agent-flaw-none site parts path Flaw.Agents h s more e sound =
    let l = long parts.paths more s.paths path e in
    let seats = sound.seats.paths in
    omega arith
agent-flaw-none site parts path (Flaw.Blocked cell) h s more e sound = path-flaw-none site parts.paths path (Flaw.Blocked cell) h.1 s more e sound
agent-flaw-none site parts path Flaw.NoStep h s more e sound = path-flaw-none site parts.paths path Flaw.NoStep h.1 s more e sound
agent-flaw-none site parts path (Flaw.Conflict agent) h s more e sound = path-flaw-none site parts.paths path (Flaw.Conflict agent) h.1 s more e sound
agent-flaw-none site parts path (Flaw.NoStation cell) h s more e sound = h.1
agent-flaw-none site parts path Flaw.Clocks h s more e sound = h.1
agent-flaw-none site parts path (Flaw.UnknownAgent agent) h s more e sound = h.1
agent-flaw-none site parts path (Flaw.HasAnother n) h s more e sound = h.1
agent-flaw-none site parts path (Flaw.AtItsNextStop n) h s more e sound = h.1

-- ---- tasks

-- the task that comes behind some, in a state that has them and it first
last : (ts : List Task) (t : Task) → slice_get (ts ++ t ∷ []) (length ts) ≡ Some t
last [] t = refl
last (u ∷ ts) t = last ts t

pub task-there : (tasks more all : List Task) (task : Task) → all ≡ (tasks ++ task ∷ []) ++ more → IsTask all (length tasks) task
task-there tasks more all task e =
    ap (λ ts. slice_get ts (length tasks)) e ∙ slice_get-append (tasks ++ task ∷ []) more (length tasks) task (last tasks task)

task-before : (tasks more all : List Task) (task other : Task) (n : ℕ) → all ≡ (tasks ++ task ∷ []) ++ more → IsTask tasks n other → IsTask all n other
task-before tasks more all task other n e is =
    ap (λ ts. slice_get ts n) e ∙ slice_get-append (tasks ++ task ∷ []) more n other (slice_get-append tasks (task ∷ []) n other is)

pub task-flaw-none : (site : Site) (parts : Parts) (task : Task) (flaw : Flaw) → IsTaskFlaw site.layout parts task flaw → NoneHasTasks site (with_task task parts)
task-flaw-none site parts task (Flaw.NoStation cell) h s more clock paths e sound =
    let t = sound.tasks (length parts.tasks) task (task-there parts.tasks more s.tasks task e) in
    h.no_station (subst (λ c. IsStationCell site.layout c) h.there (t.stops.stations h.left h.number h.within))
task-flaw-none site parts task Flaw.Clocks h s more clock paths e sound =
    let t = sound.tasks (length parts.tasks) task (task-there parts.tasks more s.tasks task e) in
    h.1 (subst (λ k. IsTimed k task) clock t.timed)
task-flaw-none site parts task (Flaw.UnknownAgent agent) h s more clock paths e sound =
    let t = sound.tasks (length parts.tasks) task (task-there parts.tasks more s.tasks task e) in
    let known = t.known agent h.2.agent_is in
    let size = ap (λ ps. length ps) paths in
    let unknown = h.2.unknown in
    omega arith
task-flaw-none site parts task (Flaw.HasAnother n) h s more clock paths e sound =
    let second = h.3 in
    let mine = held-own s second.agent (length parts.tasks) task (task-there parts.tasks more s.tasks task e) second.held in
    let other = held-own s second.agent n second.other (task-before parts.tasks more s.tasks task second.other n e second.own.there)
    (own-held (state_of parts) second.agent n second.other second.own) in
    let same : length parts.tasks ≡ n = sound-one site s sound second.agent (length parts.tasks) n task second.other mine other in
    let within = slice_get_within parts.tasks n second.other second.own.there in
    omega arith
task-flaw-none site parts task (Flaw.AtItsNextStop n) h s more clock paths e sound =
    let next = h.3.1 in
    let mine = held-own s next.agent (length parts.tasks) task (task-there parts.tasks more s.tasks task e) next.held in
    sound-away site s sound next.agent (length parts.tasks) task mine (next.here ∙ ap (λ ps. place_of ps next.agent) (sym paths))
task-flaw-none site parts task Flaw.Agents h s more clock paths e sound = h.3
task-flaw-none site parts task (Flaw.Blocked cell) h s more clock paths e sound = h.3
task-flaw-none site parts task Flaw.NoStep h s more clock paths e sound = h.3
task-flaw-none site parts task (Flaw.Conflict agent) h s more clock paths e sound = h.3

-- what each kind of step does to the measure: to the open tasks, to the agents in a delivery's way, and to the horizon
use Rattle.std.proofs.Common.{◌≡◌, ◌≢◌, ℕ, ◌+◌, ◌*◌, ◌<◌, ◌≤◌, List, [], ◌∷◌, ◌++◌, Bool, true, false, Some, None, ◌||◌, length, get_or, map, set, refl, sym, ap, subst, arith, ◌∙◌, inl, inr, length-append}
use Prim.Native.Nat.{suc}
use Rattle.std.specs.Prelude.{count_by, slice_get}
use Rattle.std.proofs.lemmas.Bool.{false≢true, cases_eq, cases_lt}
use Rattle.std.proofs.lemmas.List.{length-map, length-set}
use Rattle.std.proofs.lemmas.Option.{slice_get_within, get_or_from_slice_get}
use Rattle.std.proofs.lemmas.Nat.{mul-le}
use Rattle.wh_grid.specs.declared.cell.Cell.{Cell}
use Rattle.wh_grid.specs.Cells.{is_cell}
use Rattle.wh_grid.specs.Grids.{passable_cells}
use Rattle.wh_grid.proofs.Cells.{is_cell-same}
use Rattle.wh_path.specs.Paths.{end, end_of, last_index, path_of, place_of, others, horizon, advanced}
use Rattle.wh_path.proofs.AtLemmas.{end-advanced}
use Rattle.wh_points.specs.Points.{Site}
use Rattle.wh_tasks.specs.declared.task.Task.{Task}
use Rattle.wh_tasks.specs.Tasks.{IsTask, IsOpen, visited, delivery}
use Rattle.wh_tasks.specs.Arrivals.{arrived_task, arrived_tasks}
use Rattle.wh_tasks.proofs.Visiting.{arrived-none, stops_left-over}
use Rattle.wh_planner.specs.Duties.{Delivers, ParksAt, IsLawful}
use Rattle.wh_core.specs.States.{State, arrived, submitted, adopted, assigned, moved}
use Rattle.wh_core.specs.Steps.{Refuses, Answers, IsDue, IsAllowed, MakesWay, IsDeliveryCell, other_ends, tour, homeward}
use Rattle.wh_core.proofs.Lists.{slice_get-append}
use Rattle.wh_core.proofs.Work.{IsKept}
use Rattle.wh_core.proofs.Ways.{next-nearest, way-cause}
use Rattle.wh_core.proofs.Idle.{idle-none}
use Rattle.wh_core.specs.Laws.{AllOnTheirWays}
use Rattle.wh_tasks.specs.Choice.{IsNearest}
use Rattle.wh_tasks.specs.Tasks.{stops_left}
use Rattle.wh_tasks.specs.declared.task.Load.{Load}
use Rattle.wh_points.specs.Points.{home_of}
use Rattle.wh_progress.proofs.Due.{unloaded-arrived}
use Rattle.wh_path.proofs.Freedom.{free-ends}
use Rattle.wh_event.specs.declared.event.Spare.{Spare}
use Rattle.wh_event.specs.declared.event.Event.{Event}
use Rattle.wh_event.specs.declared.reply.Refusal.{Refusal}
use Rattle.wh_event.specs.declared.reply.Reply.{Reply}
use Rattle.wh_progress.specs.Progress.{is_awaited, in_way, open_tasks, legs, span, weight, left_to_do, HaveAtMost, MayRest}
use Rattle.wh_progress.proofs.Counting.{bit, bit-few, fails-bit, count-less, count-mapped, count-set, count-or, count-one}
use Rattle.wh_progress.proofs.Sizes.{less-weight, falls, rises, one-credit}
use Rattle.wh_progress.proofs.Horizons.{horizon-advanced, horizon-set, horizon-others, all-rest}
use Rattle.wh_progress.proofs.Awaited.{WereOpen, awaited-less, awaited-from, awaited-is, were_open-arrived, were_open-assigned, were_open-trans, awaited-push, open-arrived, open-assigned, open-push}
use Rattle.wh_progress.proofs.Turns.{NoMore, Less, AreKept, Rests, Turn, brings, keeps}

-- three spans for each task that was ever added
abbrev pub added_by : Site → ℕ → State → ℕ
added_by site stops s = 3 * span site stops * length s.tasks

-- whether a path ends where one of the tasks awaits its agent
abbrev ends_awaited : List Task → List Cell → Bool
ends_awaited tasks path = is_awaited tasks (end path)

less-in_way : (tasks later : List Task) (paths : List (List Cell)) → WereOpen tasks later →
    count_by (ends_awaited later) paths ≤ count_by (ends_awaited tasks) paths
less-in_way tasks later paths were =
    count-less (ends_awaited later) (ends_awaited tasks) paths (λ path e. awaited-less tasks later were (end path) e)

-- the weight, from the agents in the way and the open tasks
by-weight : (homes : Bool) (new old : State) (less : ℕ) → in_way new + 2 * open_tasks new + less ≤ in_way old + 2 * open_tasks old → open_tasks new + less ≤ open_tasks old →
    weight homes new + less ≤ weight homes old
by-weight false new old less ways opens = ways
by-weight true new old less ways opens = opens

no-weight : (homes : Bool) (new old : State) → in_way new + 2 * open_tasks new ≤ in_way old + 2 * open_tasks old → open_tasks new ≤ open_tasks old → weight homes new ≤ weight homes old
no-weight false new old ways opens = ways
no-weight true new old ways opens = opens

more-weight : (homes : Bool) (new old : State) → in_way new + 2 * open_tasks new ≤ in_way old + 2 * open_tasks old + 3 → open_tasks new ≤ open_tasks old + 3 →
    weight homes new ≤ weight homes old + 3
more-weight false new old ways opens = ways
more-weight true new old ways opens = opens

-- An agent takes a task: one is open less, and at most its own path ends in the way.
takes-weight : (homes : Bool) (s : State) (agent n : ℕ) (task : Task) (path : List Cell) → agent < length s.paths → IsTask s.tasks n task → IsOpen task →
    weight homes (arrived (adopted agent path (assigned agent n task s))) + 1 ≤ weight homes s
takes-weight homes s agent n task path known there opens =
    let given : Task = record task { agent = Some agent } in
    let tasks = set s.tasks n given in
    let paths = set s.paths agent path in
    let later = arrived_tasks s.clock (place_of paths) tasks in
    let were = were_open-trans s.tasks tasks later (were_open-assigned agent n task s.tasks there) (were_open-arrived s.clock (place_of paths) tasks) in
    let way = less-in_way s.tasks later paths were in
    let one = count-set (ends_awaited s.tasks) s.paths agent path [] known in
    let few = bit-few (ends_awaited s.tasks path) in
    let same = open-arrived s.clock (place_of paths) tasks in
    let less = open-assigned agent n task s.tasks there opens in
    by-weight homes _ s 1 (omega arith) (omega arith)

-- An agent makes way: its path ended in the way, and ends there no more.
parks-weight : (site : Site) (s : State) (agent : ℕ) (path : List Cell) → IsDue site s agent → IsDeliveryCell s (end_of s.paths agent) →
    ¬ IsDeliveryCell s (end path) → weight false (adopted agent path s) + 1 ≤ weight false s
parks-weight site s agent path due at_it off =
    let one = count-set (ends_awaited s.tasks) s.paths agent path [] due.known.known in
    let was : bit (ends_awaited s.tasks (path_of s.paths agent)) ≡ 1 =
    ap bit (awaited-from s.tasks at_it.0 at_it.1 (end (path_of s.paths agent)) at_it.2 at_it.3 at_it.4) in
    let now : bit (ends_awaited s.tasks path) ≡ 0 =
    fails-bit _ (λ e. (let a = awaited-is s.tasks (end path) e in off (a.number, a.task, a.there, a.opens, a.at_it))) in
    omega arith

-- A tick changes no end, and opens no task.
ticks-weight : (homes : Bool) (s : State) → weight homes (arrived (moved s)) ≤ weight homes s
ticks-weight homes s =
    let paths = map advanced s.paths in
    let later = arrived_tasks (s.clock + 1) (place_of paths) s.tasks in
    let way = less-in_way s.tasks later paths (were_open-arrived (s.clock + 1) (place_of paths) s.tasks) in
    let same = count-mapped (ends_awaited s.tasks) advanced s.paths (λ p. ap (λ c. is_awaited s.tasks c) (end-advanced p)) in
    let opens = open-arrived (s.clock + 1) (place_of paths) s.tasks in
    no-weight homes _ s (omega arith) (omega arith)

-- any two of the paths end at different cells
abbrev EndsApart : List (List Cell) → Type 0
EndsApart paths = (i j : ℕ) → i < length paths → j < length paths → i ≢ j → end (path_of paths i) ≢ end (path_of paths j)

-- A task is added: one is open more, and at most one path ends where it is to be delivered.
adds-weight : (homes : Bool) (s : State) (client : List ℕ) (cells : List Cell) → EndsApart s.paths → weight homes (submitted client cells s) ≤ weight homes s + 3
adds-weight homes s client cells apart =
    let task : Task = record { client = client; stops = cells; submitted = s.clock; agent = None; visits = [] } in
    let there : List Cell → Bool = λ path. is_cell (end path) (delivery task) in
    let either : List Cell → Bool = λ path. ends_awaited s.tasks path || there path in
    let more = count-less (ends_awaited (s.tasks ++ task ∷ [])) either s.paths (λ path e. awaited-push s.tasks task (end path) e) in
    let two = count-or (ends_awaited s.tasks) there s.paths in
    let one = count-one there s.paths [] (λ i j hi hj ei ej. elim (cases_eq i j) [
      | inl e ↦ e
      | inr ne ↦ absurd (apart i j hi hj ne (is_cell-same _ _ ei ∙ sym (is_cell-same _ _ ej)))
    ]) in
    let opens = open-push s.tasks task refl in
    more-weight homes _ s (omega arith) (omega arith)

-- a path that takes so many steps longer than the others still move
horizon-adopted : (paths : List (List Cell)) (agent : ℕ) (path : List Cell) (most few : ℕ) → last_index path ≤ horizon (others paths agent) + few →
    few ≤ most → horizon (set paths agent path) ≤ horizon paths + most
horizon-adopted paths agent path most few short less =
    let others_few = horizon-others paths agent in
    horizon-set paths agent path (horizon paths + most) (omega arith) (omega arith)

fewer-cells : (a b cells : ℕ) → a ≤ b → a * cells ≤ b * cells
fewer-cells a b cells less = mul-le a cells b cells less (omega arith)

ends-apart : (site : Site) (s : State) → IsKept site s → EndsApart s.paths
ends-apart site s sound i j hi hj ne = free-ends site.layout.nofollow _ _ (sound.orderly.free.pair i j hi hj ne)

-- each kind of step
-- a tour has no more legs than those of so many stops
legs-few : (homes : Bool) (home : Cell) (list : List Cell) (stops : ℕ) → length list ≤ stops → length (homeward homes home list) ≤ legs homes stops
legs-few false home list stops few = few
legs-few true home list stops few = (let e = length-append list (home ∷ []) in omega arith)

legs-most : (homes : Bool) (stops : ℕ) → stops ≤ legs homes stops
legs-most false stops = omega arith
legs-most true stops = omega arith

took : (site : Site) (stops : ℕ) (old new : State) (agent n : ℕ) (task : Task) (path : List Cell) → HaveAtMost stops old → IsDue site old agent →
    IsNearest site.grid old.tasks (other_ends old agent) (place_of old.paths agent) n task →
    IsLawful site.grid site.layout.nofollow old.paths agent (length (tour site agent task.stops)) (Delivers (tour site agent (stops_left task))) path →
    new ≡ arrived (adopted agent path (assigned agent n task old)) → Less (left_to_do site stops) (added_by site stops) old new
took site stops old new agent n task path few due next lawful e =
    let there = next.eligible.there in
    let after = arrived (adopted agent path (assigned agent n task old)) in
    let h = slice_get_within old.tasks n task there in
    let count : length task.stops ≤ stops = subst (λ (t : Task). length t.stops ≤ stops) (get_or_from_slice_get old.tasks n task task there) (few n task h) in
    let weighs = takes-weight site.homes old agent n task path due.known.known there next.eligible.is_open in
    let most = legs site.homes stops * passable_cells site.grid in
    let short = horizon-adopted old.paths agent path most (length (tour site agent task.stops) * passable_cells site.grid) lawful.bounded
    (fewer-cells (length (tour site agent task.stops)) (legs site.homes stops) (passable_cells site.grid) (legs-few site.homes (home_of site.layout agent) task.stops stops count)) in
    let less = falls most (weight site.homes after) (weight site.homes old) (horizon after.paths) (horizon old.paths) weighs short in
    let same : length after.tasks ≡ length old.tasks = length-map _ _ ∙ length-set _ _ _ in
    subst (λ s. Less (left_to_do site stops) (added_by site stops) old s) (sym e)
    (let credit : added_by site stops after ≡ added_by site stops old = ap (λ m. 3 * span site stops * m) same in omega arith)

parked : (site : Site) (stops : ℕ) (old new : State) (agent : ℕ) (path : List Cell) → IsKept site old → AllOnTheirWays site old → HaveAtMost stops old → IsDue site old agent → MakesWay site old agent →
    IsLawful site.grid site.layout.nofollow old.paths agent 2 (ParksAt (IsAllowed site old agent)) path → new ≡ adopted agent path old →
    Less (left_to_do site stops) (added_by site stops) old new
parked site stops old new agent path kept home few due makes lawful e =
    let after = adopted agent path old in
    let cause = way-cause site old agent kept home due makes in
    let at_it = cause.1 in
    let h = slice_get_within old.tasks at_it.0 at_it.1 at_it.2 in
    let count : length at_it.1.stops ≤ stops = subst (λ (t : Task). length t.stops ≤ stops) (get_or_from_slice_get old.tasks at_it.0 at_it.1 at_it.1 at_it.2) (few at_it.0 at_it.1 h) in
    let two = (kept.orderly.stops at_it.0 at_it.1 at_it.2).count in
    let weighs : weight site.homes after + 1 ≤ weight site.homes old =
    subst (λ b. weight b after + 1 ≤ weight b old) (sym cause.0) (parks-weight site old agent path due at_it (λ d. lawful.serves.rest.not_wanted (cause.0, inl d))) in
    let most = legs site.homes stops * passable_cells site.grid in
    let enough = legs-most site.homes stops in
    let short = horizon-adopted old.paths agent path most (2 * passable_cells site.grid) lawful.bounded
    (fewer-cells 2 (legs site.homes stops) (passable_cells site.grid) (omega arith)) in
    let less = falls most (weight site.homes after) (weight site.homes old) (horizon after.paths) (horizon old.paths) weighs short in
    subst (λ s. Less (left_to_do site stops) (added_by site stops) old s) (sym e) (omega arith)

-- With no step left a tick leaves each path and each task.
map-same : {X : Type 0} (f : X → X) (xs : List X) → ((n : ℕ) (x : X) → slice_get xs n ≡ Some x → f x ≡ x) → map f xs ≡ xs
map-same f [] each = refl
map-same f (x ∷ xs) each = ap (λ y. y ∷ map f xs) (each 0 x refl) ∙ ap (λ ys. x ∷ ys) (map-same f xs (λ n y is. each (suc n) y is))

none-arrive : (site : Site) (s : State) (clock : ℕ) → IsKept site s → arrived_tasks clock (place_of s.paths) s.tasks ≡ s.tasks
none-arrive site s clock sound =
    map-same (arrived_task clock (place_of s.paths)) s.tasks (λ n task is.
    arrived-none clock (place_of s.paths) task (λ agent has.
    elim (cases_lt (visited task) (length task.stops)) [
      | inl more ↦ sound.settled.stuck n task agent is (record { agent_is = has; more = more })
      | inr over ↦ stops_left-over (place_of s.paths agent) task over
    ]))

tick-kept : (site : Site) (old : State) → IsKept site old → horizon old.paths ≡ 0 → AreKept old (arrived (moved old))
tick-kept site old sound none =
    let paths = all-rest old.paths none in
    let tasks : arrived_tasks (old.clock + 1) (place_of (map advanced old.paths)) old.tasks ≡ old.tasks =
    ap (λ ps. arrived_tasks (old.clock + 1) (place_of ps) old.tasks) paths ∙ none-arrive site old (old.clock + 1) sound in
    record {
      paths = paths;
      tasks = λ n task is. subst (λ ts. IsTask ts n task) (sym tasks) is;
      loads = λ agent free. unloaded-arrived (moved old) agent free;
      clock = λ goes. none;
    }

ticked : (site : Site) (stops : ℕ) (reply : Reply) (old new : State) → IsKept site old → new ≡ arrived (moved old) →
    Turn site (left_to_do site stops) (added_by site stops) reply Event.Tick old new
ticked site stops reply old new sound e =
    let after = arrived (moved old) in
    let w = span site stops in
    let weighs = ticks-weight site.homes old in
    let fewer = horizon-advanced old.paths in
    let same : length after.tasks ≡ length old.tasks = length-map _ _ in
    let credit : added_by site stops after ≡ added_by site stops old = ap (λ m. 3 * span site stops * m) same in
    subst (λ s. Turn site (left_to_do site stops) (added_by site stops) reply Event.Tick old s) (sym e) (elim (cases_lt 0 (horizon old.paths)) [
      | inl more ↦ brings (let less = less-weight w (weight site.homes after) (weight site.homes old) (horizon after.paths + 1) (horizon old.paths) weighs (omega arith) in omega arith)
      | inr none ↦
          let still : horizon old.paths ≡ 0 = omega arith in
          keeps (let less = less-weight w (weight site.homes after) (weight site.homes old) (horizon after.paths) (horizon old.paths) weighs (omega arith) in omega arith)
          (tick-kept site old sound still)
          (λ agent is finds due. absurd (let clash : Event.Tick ≡ Event.Request agent = is in cc))
    ])

-- nothing changes but the clock of no tick
same-kept : (old new : State) → new.paths ≡ old.paths → new.loads ≡ old.loads → new.tasks ≡ old.tasks → new.clock ≡ old.clock → AreKept old new
same-kept old new p l t c = record {
  paths = p;
  tasks = λ n task is. subst (λ ts. IsTask ts n task) (sym t) is;
  loads = λ agent free. ap (λ ls. get_or ls agent Load.None) l ∙ free;
  clock = λ goes. absurd (omega arith);
}

-- it is that of the paths and the tasks alone
weight-parts : (homes : Bool) (old new : State) → weight homes new ≡ weight homes (record old { paths = new.paths; tasks = new.tasks })
weight-parts false old new = refl
weight-parts true old new = refl

same-left : (site : Site) (stops : ℕ) (old new : State) → new.paths ≡ old.paths → new.tasks ≡ old.tasks → NoMore (left_to_do site stops) (added_by site stops) old new
same-left site stops old new p t =
    let w = span site stops in
    let number : List (List Cell) → List Task → ℕ = λ ps ts. w * weight site.homes (record old { paths = ps; tasks = ts }) + horizon ps in
    let weighs = weight-parts site.homes old new in
    let left : left_to_do site stops new ≡ left_to_do site stops old =
    ap (λ n. w * n + horizon new.paths) weighs ∙ ap (λ ps. number ps new.tasks) p ∙ ap (λ ts. number old.paths ts) t ∙ ap (λ n. w * n + horizon old.paths) (sym (weight-parts site.homes old old)) in
    let credit : added_by site stops new ≡ added_by site stops old = ap (λ (ts : List Task). 3 * w * length ts) t in
    omega arith

same : (site : Site) (stops : ℕ) (reply : Reply) (event : Event) (old new : State) → new.paths ≡ old.paths → new.loads ≡ old.loads → new.tasks ≡ old.tasks → new.clock ≡ old.clock →
    Rests site reply event old → Turn site (left_to_do site stops) (added_by site stops) reply event old new
same site stops reply event old new p l t c rests = keeps (same-left site stops old new p t) (same-kept old new p l t c) rests

added : (site : Site) (stops : ℕ) (reply : Reply) (old new : State) (client : List ℕ) (names : List (List ℕ)) (cells : List Cell) → IsKept site old → new ≡ submitted client cells old →
    Turn site (left_to_do site stops) (added_by site stops) reply (Event.Submit client names) old new
added site stops reply old new client names cells sound e =
    let after = submitted client cells old in
    let w = span site stops in
    let weighs = adds-weight site.homes old client cells (ends-apart site old sound) in
    let more = rises w (weight site.homes after) (weight site.homes old) (horizon old.paths) (horizon old.paths) weighs (omega arith) in
    let one : length after.tasks ≡ length old.tasks + 1 = length-append _ _ in
    let credit : added_by site stops after ≡ added_by site stops old + 3 * w = ap (λ m. 3 * w * m) one ∙ one-credit w (length old.tasks) in
    subst (λ s. Turn site (left_to_do site stops) (added_by site stops) reply (Event.Submit client names) old s) (sym e)
    (keeps (omega arith)
    (record { paths = refl; tasks = λ n task is. slice_get-append old.tasks _ n task is; loads = λ agent free. free; clock = λ goes. absurd (omega arith) })
    (λ agent is finds due. absurd (let clash : Event.Submit client names ≡ Event.Request agent = is in cc)))

-- a due agent is refused for nothing else
not-refused : {A : Type 0} (site : Site) (s : State) (agent : ℕ) (refusal : Refusal) → Refuses site s refusal (Event.Request agent) →
    Reply.Refused refusal ≢ Reply.Refused Refusal.NoPath → IsDue site s agent → A
not-refused site s agent Refusal.Closed why finds due = absurd (false≢true (sym due.known.not_closed ∙ why))
not-refused site s agent (Refusal.UnknownAgent told) why finds due = absurd (let h = why.1 in let k = due.known.known in omega arith)
not-refused site s agent (Refusal.Moving left) why finds due = absurd (why.2 (idle-none site s agent left due.idle why.1))
not-refused site s agent Refusal.NoPath why finds due = absurd (finds refl)
not-refused site s agent refusal why finds due = absurd why

same-agent : (a b : ℕ) → Event.Request a ≡ Event.Request b → a ≡ b
same-agent a b e = cc

-- any step
pub turn : (site : Site) (stops : ℕ) (old : State) (reply : Reply) (event : Event) (new : State) → IsKept site old → AllOnTheirWays site old → HaveAtMost stops old →
    Answers site old reply event new → Turn site (left_to_do site stops) (added_by site stops) reply event old new
turn site stops old (Reply.Refused refusal) event new sound home few step =
    same site stops (Reply.Refused refusal) event old new (ap (λ s. s.paths) step.1) (ap (λ s. s.loads) step.1) (ap (λ s. s.tasks) step.1) (ap (λ s. s.clock) step.1)
    (λ agent is finds due. not-refused site old agent refusal (subst (λ e. Refuses site old refusal e) is step.0) finds due)
turn site stops old (Reply.Accepted n) (Event.Submit client names) new sound home few step = added site stops (Reply.Accepted n) old new client names step.5.0 sound step.5.2
turn site stops old (Reply.Took n path) (Event.Request agent) new sound home few step =
    brings (took site stops old new agent n step.1.0 path few step.0 (next-nearest site old agent n step.1.0 sound home step.0 step.1.1) step.1.2 step.1.3)
turn site stops old Reply.Rested (Event.Request agent) new sound home few step =
    same site stops Reply.Rested (Event.Request agent) old new (ap (λ s. s.paths) step.3) (ap (λ s. s.loads) step.3) (ap (λ s. s.tasks) step.3) (ap (λ s. s.clock) step.3)
    (λ a is finds due. subst (λ b. MayRest site old b) (same-agent agent a is) (record { none = step.1; stays = step.2 }))
turn site stops old (Reply.Parked point path) (Event.Request agent) new sound home few step =
    brings (parked site stops old new agent path sound home few step.0 step.1 step.2 step.4)
turn site stops old (Reply.Clock now first last) Event.Tick new sound home few step = ticked site stops (Reply.Clock now first last) old new sound step.5
turn site stops old (Reply.Replaced slots) (Event.Replace agent (Spare.Fits count)) new sound home few step =
    same site stops (Reply.Replaced slots) (Event.Replace agent (Spare.Fits count)) old new (ap (λ s. s.paths) step.2) (ap (λ s. s.loads) step.2) (ap (λ s. s.tasks) step.2) (ap (λ s. s.clock) step.2)
    (λ a is finds due. absurd (let clash : Event.Replace agent (Spare.Fits count) ≡ Event.Request a = is in cc))
turn site stops old Reply.Closed Event.Close new sound home few step =
    same site stops Reply.Closed Event.Close old new (ap (λ s. s.paths) step.1) (ap (λ s. s.loads) step.1) (ap (λ s. s.tasks) step.1) (ap (λ s. s.clock) step.1)
    (λ a is finds due. absurd (let clash : Event.Close ≡ Event.Request a = is in cc))
turn site stops old reply event new sound home few step = absurd step

-- the replies of a warehouse keep the ranges of a log
use Rattle.std.proofs.Common.{ℕ, ◌<◌, ◌≤◌, ◌^◌, List, [], ◌∷◌, ◌++◌, length, subst, arith}
use Rattle.std.specs.List.{AllByRecursion}
use Rattle.std.proofs.lemmas.List.Elements.{All-contains, All-get_or}
use Rattle.std.proofs.lemmas.List.Sums.{count_by-le-length}
use Rattle.std.proofs.lemmas.Option.{slice_get_within}
use Rattle.wh_path.specs.Paths.{last_index, place_of}
use Rattle.wh_points.specs.declared.points.Point.{Point}
use Rattle.wh_points.specs.Points.{Layout, Site}
use Rattle.wh_tasks.specs.declared.task.Task.{Task}
use Rattle.wh_tasks.specs.Arrivals.{is_picked, is_dropped, arrived_task}
use Rattle.wh_event.specs.Grammar.{IsName}
use Rattle.wh_event.specs.declared.event.Event.{Event}
use Rattle.wh_event.specs.declared.event.Spare.{Spare}
use Rattle.wh_event.specs.declared.reply.Refusal.{Refusal}
use Rattle.wh_event.specs.declared.reply.Reply.{Reply}
use Rattle.wh_core.specs.States.{State, load_of, moved}
use Rattle.wh_core.proofs.Determined.{next-there}
use Rattle.wh_core.specs.Steps.{Answers, Refuses, IsFirstFault, most_tasks}
use Rattle.wh_log.specs.Ranges.{EventKeeps, RefusalKeeps, ReplyKeeps}
use Rattle.wh_judge.specs.Written.{IsInRange}
use Rattle.wh_judge.proofs.Paths.{Short, idle_within, walk_path}

between : (before after : List (List ℕ)) (name : List ℕ) → AllByRecursion IsName (before ++ name ∷ after) → IsName name
between [] after name all = all.0
between (x ∷ before) after name all = between before after name all.1

-- the stop at fault is a name, as each stop
fault_name : (layout : Layout) (stops : List (List ℕ)) (name : List ℕ) → AllByRecursion IsName stops → IsFirstFault layout stops name → IsName name
fault_name layout stops name all fault = between fault.0 fault.1 name (subst (AllByRecursion IsName) fault.2 all)

refusal_keeps : (site : Site) (s : State) (refusal : Refusal) (event : Event) (most : ℕ) → Short most s.paths → most < 2 ^ 64 → EventKeeps 8 event →
    Refuses site s refusal event → RefusalKeeps refusal
refusal_keeps site s (Refusal.UnknownPoint name) (Event.Submit client stops) most short fits keeps why = fault_name site.layout stops name keeps.1 why.1
refusal_keeps site s (Refusal.NotStation name) (Event.Submit client stops) most short fits keeps why = fault_name site.layout stops name keeps.1 why.1
refusal_keeps site s Refusal.TasksFull event most short fits keeps why = tt
refusal_keeps site s (Refusal.UnknownAgent told) (Event.Request agent) most short fits keeps why = let same = why.2 in omega arith
refusal_keeps site s (Refusal.UnknownAgent told) (Event.Replace agent spare) most short fits keeps why =
    let same = why.2 in let small = keeps.0 in omega arith
refusal_keeps site s (Refusal.Moving left) (Event.Request agent) most short fits keeps why =
    let within = idle_within site s agent left why.0.known why.1 in
    let far = All-get_or (λ p. last_index p ≤ most) s.paths agent [] why.0.known short in omega arith
refusal_keeps site s Refusal.NoPath event most short fits keeps why = tt
refusal_keeps site s Refusal.ClockFull event most short fits keeps why = tt
refusal_keeps site s Refusal.Closed event most short fits keeps why = tt
refusal_keeps site s Refusal.ForeignPlanner event most short fits keeps why = tt
refusal_keeps site s Refusal.NoSpare event most short fits keeps why = tt
refusal_keeps site s refusal event most short fits keeps why = absurd why

-- what an event in range is answered is in range
pub reply_keeps : (site : Site) (old : State) (reply : Reply) (event : Event) (new : State) (most : ℕ) → IsInRange site → length old.tasks ≤ most_tasks →
    Short most old.paths → most < 2 ^ 64 → EventKeeps 8 event → Answers site old reply event new → ReplyKeeps reply
reply_keeps site old (Reply.Refused refusal) event new most range few short fits keeps step = refusal_keeps site old refusal event most short fits keeps step.0
reply_keeps site old (Reply.Accepted n) (Event.Submit client stops) new most range few short fits keeps step = let room = step.2 in omega arith
reply_keeps site old (Reply.Took n path) (Event.Request agent) new most range few short fits keeps step =
    let there = slice_get_within old.tasks n step.1.0 (next-there site old agent n step.1.0 (load_of old agent) step.1.1) in (
      omega arith,
      walk_path site.grid path range.width range.height step.1.2.walk,
    )
reply_keeps site old Reply.Rested (Event.Request agent) new most range few short fits keeps step = tt
reply_keeps site old (Reply.Parked point path) (Event.Request agent) new most range few short fits keeps step = (
  All-contains (λ (p : Point). IsName p.name) site.layout.points _ range.names step.3.1,
  walk_path site.grid path range.width range.height step.2.walk,
)
reply_keeps site old (Reply.Clock now first last) Event.Tick new most range few short fits keeps step =
    let at = moved old in
    let before = step.1 in
    let later = step.2 in
    let picks = step.3 in
    let drops = step.4 in
    let first_few = count_by-le-length (λ (task : Task). is_picked task (arrived_task at.clock (place_of at.paths) task)) old.tasks in
    let last_few = count_by-le-length (λ (task : Task). is_dropped task (arrived_task at.clock (place_of at.paths) task)) old.tasks in (
      omega arith,
      omega arith,
      omega arith,
    )
reply_keeps site old (Reply.Replaced slots) (Event.Replace agent (Spare.Fits count)) new most range few short fits keeps step =
    let same = step.1 in let small = keeps.1 in omega arith
reply_keeps site old Reply.Closed Event.Close new most range few short fits keeps step = tt
reply_keeps site old reply event new most range few short fits keeps step = absurd step

use Rattle.std.proofs.Common.{◌≡◌, ℕ, ◌<◌, [], arith, false, Some, length, get_or, ap, ◌∙◌, refl}
use Rattle.std.proofs.lemmas.List.{get_or_default}
use Rattle.std.proofs.lemmas.Option.{slice_get_within}
use Rattle.wh_path.specs.Paths.{path_of, place_of}
use Rattle.wh_tasks.specs.declared.task.Load.{Load}
use Rattle.wh_tasks.specs.Loads.{task_of}
use Rattle.wh_state.specs.Arriving.{visited_by}
use Rattle.wh_state.specs.Dues.{IsAwayFor}
use Rattle.wh_state.proofs.Asking.{absent-tasks, absent-arrives, length-visited}
use Rattle.wh_state.proofs.NextStops.{due-visited}
use Rattle.wh_state.proofs.arrivals.ask_one.Goals as goal

-- an agent that is not due stands elsewhere
pub returns-then-not-is_due-clause-tasks : goal.returns-then-not-is_due-clause-tasks
returns-then-not-is_due-clause-tasks c =
    let i = c.args.agent in
    let load : Load = get_or c.args.loads.now i Load.None in
    let late : c.args.clock < get_or c.args.dues.now i 0 = c.is_due.ensures (let e : c.is_due.result ≡ false = cc in e) in
    absent-tasks c.args.clock (place_of c.args.paths.now i) c.args.tasks.now.tasks i load c.requires.load
    (λ n task there is left. c.requires.due.away i n task 0 there is left (omega arith)) (task_of load) refl

pub returns-then-not-is_due-clause-arrived : goal.returns-then-not-is_due-clause-arrived
returns-then-not-is_due-clause-arrived c =
    let i = c.args.agent in
    let load : Load = get_or c.args.loads.now i Load.None in
    let late : c.args.clock < get_or c.args.dues.now i 0 = c.is_due.ensures (let e : c.is_due.result ≡ false = cc in e) in
    absent-arrives c.args.clock (place_of c.args.paths.now i) c.args.tasks.now.tasks i load c.requires.load
    (λ n task there is left. c.requires.due.away i n task 0 there is left (omega arith)) (task_of load) refl

pub arrive_one-arrived-requires-clause-holds : goal.arrive_one-arrived-requires-clause-holds
arrive_one-arrived-requires-clause-holds c = λ n names. (c.args.agent, c.requires.load.holds n names)

pub due_of-requires : goal.due_of-requires
due_of-requires c = λ n names.
    let holds = c.requires.load.holds n names in
    let within = slice_get_within c.args.tasks.now.tasks n holds.task holds.there in
    let load : Load = get_or c.args.loads.now c.args.agent Load.None in
    let long = ap length c.arrive_one-arrived.ensures.tasks ∙ length-visited c.args.clock c.start.result (task_of load) c.args.tasks.now.tasks in
    omega arith

pub returns-clause-due : goal.returns-clause-due
returns-clause-due c =
    let i = c.args.agent in
    let paths = c.args.paths.now in
    let tasks = c.args.tasks.now.tasks in
    let load : Load = get_or c.args.loads.now i Load.None in
    let on : i < length paths = rw c.requires.each at c.requires.known in
    let path : c.index-paths-agent.result ≡ path_of paths i = c.index-paths-agent.is ∙ get_or_default paths i c.index-paths-agent.result [] on in
    let away : (n : ℕ) → task_of load ≡ Some n → IsAwayFor c.args.clock (path_of paths i) (visited_by c.args.clock c.start.result (task_of load) tasks) c.due_of.result n = rw (path, c.arrive_one-arrived.ensures.tasks) at c.due_of.ensures in
    rw (c.put.ensures, c.arrive_one-arrived.ensures.tasks) (due-visited c.args.clock c.start.result paths tasks c.args.dues.now i load (task_of load) c.due_of.result on refl c.requires.due c.requires.load away)

use Rattle.std.proofs.Common.{◌≡◌, ◌<◌, false, length, get_or, arith, ◌∙◌, refl}
use Rattle.std.proofs.lemmas.List.{get_or_default}
use Rattle.wh_path.specs.Paths.{place_of}
use Rattle.wh_tasks.specs.declared.task.Load.{Load}
use Rattle.wh_tasks.specs.Loads.{task_of}
use Rattle.wh_state.proofs.Asking.{nobody-arrives, nobody-due, next-load-of}
use Rattle.wh_state.proofs.Steps.{HasArrived, arriving-start, arriving-step, arriving-end, byte-bit, next-load, next-in_time}
use Rattle.wh_state.proofs.arrivals.arrive_all.Goals as goal

-- where nobody is due, all stays as it is
stays : (c : goal.Then-not-is_any) → HasArrived c.args.clock (place_of c.args.paths.now) c.args.loads.now c.args.tasks.now.tasks c.args.loads.now c.args.tasks.now.tasks 0 0
stays c =
    nobody-arrives c.args.clock (place_of c.args.paths.now) c.args.loads.now c.args.tasks.now.tasks c.requires.tied
    (nobody-due c.args.clock 0 c.args.clock c.args.paths.now (place_of c.args.paths.now) c.args.loads.now c.args.tasks.now.tasks c.args.dues.now c.requires.each
    (λ agent lt. refl) c.requires.tied c.requires.due (omega arith) (c.is_any.ensures (let e : c.is_any.result ≡ false = cc in e)))

pub returns-then-not-is_any-clause-tasks : goal.returns-then-not-is_any-clause-tasks
returns-then-not-is_any-clause-tasks c = (stays c).tasks_are

pub returns-then-not-is_any-clause-loads : goal.returns-then-not-is_any-clause-loads
returns-then-not-is_any-clause-loads c = (stays c).loads_are

pub returns-then-not-is_any-clause-picked : goal.returns-then-not-is_any-clause-picked
returns-then-not-is_any-clause-picked c = (stays c).picked_is

pub returns-then-not-is_any-clause-dropped : goal.returns-then-not-is_any-clause-dropped
returns-then-not-is_any-clause-dropped c = (stays c).dropped_is

pub loop-agent-init : goal.loop-agent-init
loop-agent-init c = record {
  arriving = arriving-start c.args.clock (place_of c.args.paths.now) c.args.loads.now c.args.tasks.now.tasks;
  room = refl;
  ends = refl;
  due = c.requires.due;
}

pub ask_one-arrived-requires-clause-load : goal.ask_one-arrived-requires-clause-load
ask_one-arrived-requires-clause-load c =
    let i = c.loop-agent.agent in
    let load : Load = get_or c.loop-agent.loads i Load.None in
    let lt : i < length c.loop-agent.loads = rw c.loop-agent.auto.loads c.loop-agent-test.true in
    let read : load ≡ get_or c.loop-agent.loads i load = get_or_default c.loop-agent.loads i Load.None load lt in
    let place = place_of c.args.paths.now in
    let has = next-load c.args.clock place c.args.loads.now c.args.tasks.now.tasks i c.loop-agent.loads c.loop-agent.tasks.tasks c.loop-agent.picked c.loop-agent.dropped
    load c.loop-agent-test.true read c.loop-agent.invariant.arriving in
    next-load-of c.args.clock place c.args.loads.now c.args.tasks.now.tasks i c.loop-agent.loads c.loop-agent.tasks.tasks c.loop-agent.picked c.loop-agent.dropped
    load c.requires.tied has c.loop-agent.invariant.arriving

pub ask_one-arrived-requires-clause-in_time : goal.ask_one-arrived-requires-clause-in_time
ask_one-arrived-requires-clause-in_time c =
    next-in_time c.args.clock (place_of c.args.paths.now) c.args.tasks.now.tasks c.loop-agent.tasks.tasks c.loop-agent.agent c.loop-agent.invariant.arriving.tasks_are c.requires.in_time

pub loop-agent-preserved : goal.loop-agent-preserved
loop-agent-preserved c =
    let picks = c.from-picked.ensures ∙ byte-bit c.ask_one-arrived.result.picked in
    let drops = c.from-dropped.ensures ∙ byte-bit c.ask_one-arrived.result.dropped in
    let i = c.loop-agent.agent in
    let load : Load = get_or c.loop-agent.loads i Load.None in
    let lt : i < length c.loop-agent.loads = rw c.loop-agent.auto.loads c.loop-agent-test.true in
    let read : load ≡ get_or c.loop-agent.loads i load = get_or_default c.loop-agent.loads i Load.None load lt in
    record {
      arriving = rw (picks, drops, c.ask_one-arrived.ensures.loads) (arriving-step c.args.clock (place_of c.args.paths.now) c.args.loads.now c.args.tasks.now.tasks i c.loop-agent.loads c.loop-agent.tasks.tasks c.ask_one-arrived.new.tasks.tasks
          c.loop-agent.picked c.loop-agent.dropped load (task_of load) c.ask_one-arrived.result c.requires.tied c.loop-agent-test.true read refl c.loop-agent.invariant.arriving c.ask_one-arrived.ensures.tasks c.ask_one-arrived.ensures.arrived);
      room = c.ask_one-arrived.ensures.room ∙ c.loop-agent.invariant.room;
      ends = c.ask_one-arrived.ensures.ends ∙ c.loop-agent.invariant.ends;
      due = c.ask_one-arrived.ensures.due;
    }

pub returns-clause-tasks : goal.returns-clause-tasks
returns-clause-tasks c =
    (arriving-end c.args.clock (place_of c.args.paths.now) c.args.loads.now c.args.tasks.now.tasks c.loop-agent.agent c.loop-agent.loads c.loop-agent.tasks.tasks c.loop-agent.picked c.loop-agent.dropped
    c.requires.tied c.loop-agent-test.false c.loop-agent.invariant.arriving).tasks_are

pub returns-clause-loads : goal.returns-clause-loads
returns-clause-loads c =
    (arriving-end c.args.clock (place_of c.args.paths.now) c.args.loads.now c.args.tasks.now.tasks c.loop-agent.agent c.loop-agent.loads c.loop-agent.tasks.tasks c.loop-agent.picked c.loop-agent.dropped
    c.requires.tied c.loop-agent-test.false c.loop-agent.invariant.arriving).loads_are

pub returns-clause-picked : goal.returns-clause-picked
returns-clause-picked c =
    (arriving-end c.args.clock (place_of c.args.paths.now) c.args.loads.now c.args.tasks.now.tasks c.loop-agent.agent c.loop-agent.loads c.loop-agent.tasks.tasks c.loop-agent.picked c.loop-agent.dropped
    c.requires.tied c.loop-agent-test.false c.loop-agent.invariant.arriving).picked_is

pub returns-clause-dropped : goal.returns-clause-dropped
returns-clause-dropped c =
    (arriving-end c.args.clock (place_of c.args.paths.now) c.args.loads.now c.args.tasks.now.tasks c.loop-agent.agent c.loop-agent.loads c.loop-agent.tasks.tasks c.loop-agent.picked c.loop-agent.dropped
    c.requires.tied c.loop-agent-test.false c.loop-agent.invariant.arriving).dropped_is

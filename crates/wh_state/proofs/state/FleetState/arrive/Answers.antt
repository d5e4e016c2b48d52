use Rattle.std.proofs.Common.{◌≡◌, length, map, take, drop, ◌++◌, ap, sym, ◌∙◌}
use Rattle.std.proofs.lemmas.List.{length-map}
use Rattle.wh_path.specs.Paths.{place_of}
use Rattle.wh_tasks.specs.Arrivals.{arrived_tasks, arrived_load}
use Rattle.wh_core.specs.States.{arrived}
use Rattle.wh_state.specs.Standings.{Standing}
use Rattle.wh_state.proofs.StandingLemmas.{refilled, same-state, sound-arrived}
use Rattle.wh_state.proofs.state.FleetState.arrive.Goals as goal

tasks-are : (c : goal.After-self-1) → c.arrive_all.new.tasks.tasks ≡ arrived_tasks c.self.inside.clock (place_of c.self.inside.paths) c.self.inside.tasks.tasks
tasks-are c = c.arrive_all.ensures.tasks ∙ ap (λ ps. arrived_tasks c.self.inside.clock (place_of ps) c.self.inside.tasks.tasks) c.paths.ensures

loads-are : (c : goal.After-self-1) →
    c.arrive_all.new.loads ≡ map (arrived_load (arrived_tasks c.self.inside.clock (place_of c.self.inside.paths) c.self.inside.tasks.tasks)) c.self.inside.loads.items
loads-are c = c.arrive_all.ensures.loads ∙ ap (λ ts. map (arrived_load ts) c.deref_mut.result.now) (tasks-are c)
    ∙ ap (map (arrived_load (arrived_tasks c.self.inside.clock (place_of c.self.inside.paths) c.self.inside.tasks.tasks))) c.deref_mut.ensures.value

loads-kept : (c : goal.After-self-1) →
    take c.self.inside.loads.len (c.arrive_all.new.loads ++ drop (length c.arrive_all.new.loads) c.self.inside.loads.items)
    ≡ map (arrived_load (arrived_tasks c.self.inside.clock (place_of c.self.inside.paths) c.self.inside.tasks.tasks)) c.self.inside.loads.items
loads-kept c =
    let long : length c.arrive_all.new.loads ≡ c.self.inside.loads.len =
    ap length (loads-are c) ∙ length-map c.self.inside.loads.items _ ∙ sym c.self.inside.loads.ok.0 in
    refilled c.self.inside.loads.len c.arrive_all.new.loads c.self.inside.loads.items long ∙ loads-are c

pub invariant_of-self : goal.invariant_of-self
invariant_of-self c = (
  rw (loads-kept c, tasks-are c, c.arrive_all.ensures.ends)
      (sound-arrived c.self.inside.clock c.self.inside.paths c.self.inside.tasks.ends c.self.inside.loads.items c.self.inside.slots.items c.self.inside.tasks.tasks c.self.invariant.0),
  rw c.paths.ensures at c.arrive_all.ensures.due,
)

pub returns-clause-state : goal.returns-clause-state
returns-clause-state c =
    same-state _ _ _ _ _ _ _ _ _ (λ i. c.self.inside.paths) (loads-kept c) (tasks-are c) ∙ ap (λ (v : Standing). arrived v.state) c.self.view_is

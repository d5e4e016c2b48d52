use Rattle.std.proofs.Common.{◌≡◌, ◌++◌, ◌∷◌, [], ℕ, List, length, ap, sym, ◌∙◌, arith}
use Rattle.std.proofs.Math.ListN.{set}
use Rattle.std.specs.Vec.{with_items}
use Rattle.std.proofs.lemmas.List.{with_items_is}
use Rattle.wh_tasks.specs.declared.task.Load.{Load}
use Rattle.wh_tasks.specs.declared.task.Task.{Task}
use Rattle.wh_tasks.specs.Tasks.{load_for}
use Rattle.wh_core.specs.States.{State}
use Rattle.wh_state.specs.Columns.{state_in}
use Rattle.wh_stand.proofs.Telling.{loads_told, told-from, told-size, told-task}
use Rattle.wh_stand.proofs.parts.add_task.Goals as goal

pub take_on-requires : goal.take_on-requires
take_on-requires c = λ agent has.
    let old = state_in c.args.parts.now in
    let known = c.requires.known agent has in
    let size = told-size old c.requires.told in
    let value = ap (λ (ls : List Load). length ls) c.deref_mut.ensures.value in
    omega arith

pub returns-clause-told : goal.returns-clause-told
returns-clause-told c =
    let old = state_in c.args.parts.now in
    let task = c.args.task in
    let n : ℕ = c.len.result in
    let number : n ≡ length old.tasks = omega (arith, c.len.ensures, c.in_ok-reserve.ensures.len, c.args.parts.now.tasks.ok.0) in
    let tasks : c.push_reserved.new.self.items ≡ old.tasks ++ task ∷ [] = c.push_reserved.ensures.items ∙ ap (λ (ts : List Task). ts ++ task ∷ []) c.in_ok-reserve.ensures.items in
    let value = c.deref_mut.ensures.value in
    let loads : c.take_on.new.loads ≡ loads_told (old.tasks ++ task ∷ []) (length old.paths) = told-task old task n c.take_on.new.loads c.requires.told c.requires.known c.requires.alone number
    (λ agent h. c.take_on.ensures.held agent h ∙ ap (λ (ls : List Load). set ls agent (load_for n task)) value)
    (λ free. c.take_on.ensures.free free ∙ value) in
    let new : State = state_in (record {
      clock = c.args.parts.now.clock;
      closed = c.args.parts.now.closed;
      paths = c.args.parts.now.paths;
      loads = with_items c.args.parts.now.loads c.take_on.new.loads;
      slots = c.args.parts.now.slots;
      tasks = c.push_reserved.new.self;
    }) in
    let size : length c.take_on.new.loads ≡ c.args.parts.now.loads.len = omega (arith, c.take_on.auto.loads, c.deref_mut.ensures.len) in
    told-from new (with_items_is c.args.parts.now.loads c.take_on.new.loads size ∙ loads ∙ ap (λ (ts : List Task). loads_told ts (length old.paths)) (sym tasks))

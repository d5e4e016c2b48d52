use Rattle.std.proofs.Common.{◌≡◌, ◌++◌, ◌∷◌, [], List, length, ap, sym, ◌∙◌}
use Rattle.wh_grid.specs.declared.cell.Cell.{Cell}
use Rattle.wh_tasks.specs.declared.task.Load.{Load}
use Rattle.wh_core.specs.States.{State}
use Rattle.wh_state.specs.Columns.{state_in}
use Rattle.wh_stand.proofs.Telling.{loads_told, told-from, told-agent}
use Rattle.wh_stand.proofs.parts.add_agent.Goals as goal

pub returns-clause-told : goal.returns-clause-told
returns-clause-told c =
    let old = state_in c.args.parts.now in
    let paths : c.push_reserved.new.self.items ≡ old.paths ++ c.args.path ∷ [] = c.push_reserved.ensures.items ∙ ap (λ (ps : List (List Cell)). ps ++ c.args.path ∷ []) c.in_ok-reserve.ensures.items in
    let loads : c.push_reserved-2.new.self.items ≡ old.loads ++ Load.None ∷ [] = c.push_reserved-2.ensures.items ∙ ap (λ (ls : List Load). ls ++ Load.None ∷ []) c.in_ok-reserve-2.ensures.items in
    let new : State = state_in (record {
      clock = c.args.parts.now.clock;
      closed = c.args.parts.now.closed;
      paths = c.push_reserved.new.self;
      loads = c.push_reserved-2.new.self;
      slots = c.push_reserved-3.new.self;
      tasks = c.args.parts.now.tasks;
    }) in
    told-from new (loads ∙ told-agent old c.args.path c.requires.told c.requires.known ∙ ap (λ (ps : List (List Cell)). loads_told old.tasks (length ps)) (sym paths))

use Rattle.std.proofs.Common.{List, length, ap}
use Rattle.wh_event.specs.declared.entry.Entry.{Entry}
use Rattle.wh_replay.proofs.Scripting.{clears}
use Rattle.wh_replay.proofs.scripted.ScriptMachine.clear.Goals as goal

pub returns-clause-clear : goal.returns-clause-clear
returns-clause-clear g c s h =
    let m = c.args.self.now in
    let here = ap (λ (entries : List Entry). length entries) c.history.ensures.value in
    clears m.warehouse.ghost_name m.spares.ghost_name m.warehouse.now.book m.spares.now.items m.asker m.most m.replies m.first m.clock (g.A.Answers.waiting m.answers) s _ _ (g.A.Answers.waiting c.clear.new.self)
    here c.clock-self.ensures.value c.clear.ensures.none h

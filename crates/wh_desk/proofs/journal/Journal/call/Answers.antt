use Rattle.wh_desk.proofs.Telling.{called_if, clock_if, state_if, told_if}
use Rattle.wh_desk.proofs.journal.Journal.call.Goals as goal

pub returns-clause-ok : goal.returns-clause-ok
returns-clause-ok g c = called_if g.N.DeskName.origin c.args.self.now c.enter-answer.new.self c.args.pass.now c.enter-answer.new.pass c.args.command c.enter-answer.result.outcome c.enter-answer.ensures.ok c.is_run-2.ensures

pub returns-clause-before : goal.returns-clause-before
returns-clause-before g c = state_if g.N.DeskName.origin c.args.self.now c.enter-answer.new.self c.args.pass.now c.enter-answer.new.pass c.args.command c.enter-answer.result.outcome c.enter-answer.ensures.ok c.is_run.ensures

pub returns-clause-told : goal.returns-clause-told
returns-clause-told g c = told_if g.N.DeskName.origin g.N.DeskName.book c.args.self.now c.enter-answer.new.self c.args.pass.now c.enter-answer.new.pass c.args.command c.enter-answer.result.outcome c.enter-answer.ensures.ok c.enter-answer.ensures.told

pub returns-clause-clock : goal.returns-clause-clock
returns-clause-clock g c = clock_if g.N.DeskName.origin c.args.self.now c.enter-answer.new.self c.args.pass.now c.enter-answer.new.pass c.args.command c.enter-answer.result.outcome c.enter-answer.ensures.ok c.enter-answer.ensures.clock c.is_run.ensures

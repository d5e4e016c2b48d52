use Rattle.std.proofs.Common.{subst}
use Rattle.wh_front.specs.Reading.{Gives}
use Rattle.wh_front.specs.ReadTasks.{line_at}
use Rattle.wh_front.proofs.RowLaws.{result_found, result_only}
use Rattle.wh_front.proofs.one_line.read_line.Goals as goal

pub returns-clause-found : goal.returns-clause-found
returns-clause-found c = result_found c.args.line.now c.line_of.result (subst (λ ws. Gives (λ x. x) c.line_of.result (line_at ws)) c.of.ensures c.line_of.ensures)

pub returns-clause-only : goal.returns-clause-only
returns-clause-only c = λ told fits is. result_only c.args.line.now c.line_of.result told (subst (λ ws. Gives (λ x. x) c.line_of.result (line_at ws)) c.of.ensures c.line_of.ensures) fits is

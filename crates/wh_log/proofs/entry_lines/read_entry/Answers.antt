use Rattle.std.proofs.Common.{subst}
use Rattle.wh_log.specs.Reading.{Gives}
use Rattle.wh_log.specs.ReadReplies.{entry_of}
use Rattle.wh_log.proofs.EntryLaws.{result_found, result_only}
use Rattle.wh_log.proofs.entry_lines.read_entry.Goals as goal

pub returns-clause-found : goal.returns-clause-found
returns-clause-found c = result_found c.args.most c.args.line.now c.entry.result (subst (λ ws. Gives (λ x. x) c.entry.result (entry_of c.args.most ws)) c.of.ensures c.entry.ensures)

pub returns-clause-only : goal.returns-clause-only
returns-clause-only c = λ entry keeps is. result_only c.args.most c.args.line.now c.entry.result entry (subst (λ ws. Gives (λ x. x) c.entry.result (entry_of c.args.most ws)) c.of.ensures c.entry.ensures) keeps is

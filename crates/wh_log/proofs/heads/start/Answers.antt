use Rattle.std.proofs.Common.{subst}
use Rattle.wh_log.specs.Reading.{Gives}
use Rattle.wh_log.specs.Heads.{start_of}
use Rattle.wh_log.proofs.HeadLaws.{start_result_found, start_result_form}
use Rattle.wh_log.proofs.heads.start.Goals as goal

pub returns-clause-found : goal.returns-clause-found
returns-clause-found c = start_result_found c.args.line.now c.start_words.result (subst (λ ws. Gives (λ start. (start.0, start.1.items)) c.start_words.result (start_of ws)) c.of.ensures c.start_words.ensures)

pub returns-clause-form : goal.returns-clause-form
returns-clause-form c = start_result_form c.args.line.now c.start_words.result (subst (λ ws. Gives (λ start. (start.0, start.1.items)) c.start_words.result (start_of ws)) c.of.ensures c.start_words.ensures)

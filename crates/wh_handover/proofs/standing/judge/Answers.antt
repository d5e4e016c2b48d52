use Rattle.std.proofs.Common.{◌∙◌, ap, Err}
use Rattle.wh_restore.specs.declared.reason.RestoreFault.{RestoreFault}
use Rattle.wh_handover.proofs.Standings.{holds_sound, is_unsound}
use Rattle.wh_handover.proofs.standing.judge.Goals as goal

pub returns-in-Ok-clause-ok : goal.returns-in-Ok-clause-ok
returns-in-Ok-clause-ok c =
    let f = c.in-Ok.ensures.found in
    holds_sound c.args.setting.now c.grid.result.now c.points.result.now c.rules_over-rules.result c.args.text.now f.0 c.in-Ok.restored.rest.now c.grid.ensures c.points.ensures c.rules_over-rules.ensures f.1 f.2

pub returns-in-Err-Line-clause-fault : goal.returns-in-Err-Line-clause-fault
returns-in-Err-Line-clause-fault c =
    is_unsound c.args.setting.now c.grid.result.now c.points.result.now c.rules_over-rules.result c.args.text.now c.in-Err-Line.line c.in-Err-Line.reason c.grid.ensures c.points.ensures c.rules_over-rules.ensures
    (c.restore.ensures.line c.in-Err-Line.line c.in-Err-Line.reason (c.in-Err-Line.is ∙ ap (λ (fault : RestoreFault). Err fault) c.in-Err-Line.field-0-is))

use Rattle.wh_log.proofs.UsualLaws.{submit_text}
use Rattle.wh_log.proofs.usual.submit.Goals as goal

pub returns-clause-text : goal.returns-clause-text
returns-clause-text c =
    submit_text c.args.caller c.in_ok-task.task c.in_ok-client.client c.in_ok-first.first c.in_ok-second.second c.in_ok-stops.stops
    c.args.text.now c.in_ok-client.rest.now c.in_ok-first.rest.now c.in_ok-second.rest.now c.in_ok-behind_accepted.field-0.now c.in_ok-task.rest.now
    c.in_ok-client.ensures.0 c.in_ok-first.ensures.0 c.in_ok-second.ensures.0 c.in_ok-behind_accepted.ensures c.in_ok-task.ensures.0 c.in_ok-stops.ensures

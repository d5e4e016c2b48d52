-- The options of `live` behind those of its fleet.
use Rattle.std.proofs.lemmas.Result.{IfOk-weaker}
use Rattle.wh_options.proofs.command.live_command.Goals as goal

pub returns : goal.returns
returns c =
    let below = c.in_ok-command.ensures in
    IfOk-weaker c.with_number-2.result _ _ (λ made added. record {
      planners = below.planners;
      planner_texts = below.words;
      ends = below.ends;
      ends_texts = below.ends_texts;
      is = added;
    }) (c.with_number-2.ensures _ (c.in_ok-command-2.ensures _ below.is))

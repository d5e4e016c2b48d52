-- The shape of the command `replay`, from those of its parts.
use Rattle.std.proofs.Common.{rules}
use Rattle.std.proofs.lemmas.Result.{IfOk-weaker}
use Rattle.wh_options.proofs.command.replay_command.Goals as goal

pub returns : goal.returns
returns c =
    let below = c.in_ok-command.ensures in
    IfOk-weaker c.with_deliver.result _ _ (λ made added. record {
      planners = below.planners;
      tails = c.as_slice.result;
      replies = c.as_slice-2.result;
      planner_texts = below.words;
      ends = below.ends;
      ends_texts = below.ends_texts;
      tail_texts = search rules;
      replies_texts = search rules;
      is = added;
    }) (c.with_deliver.ensures _ (c.in_ok-command-4.ensures _ (c.in_ok-command-3.ensures _ (c.in_ok-command-2.ensures _ below.is))))

-- The options of `serve` behind those of its fleet.
use Rattle.std.proofs.Common.{rules}
use Rattle.std.proofs.lemmas.Result.{IfOk-weaker}
use Rattle.wh_options.proofs.command.serve_command.Goals as goal

pub returns : goal.returns
returns c =
    let below = c.in_ok-command.ensures in
    IfOk-weaker c.with_clients.result _ _ (λ made added. record {
      planners = below.planners;
      replies = c.as_slice.result;
      planner_texts = below.words;
      ends = below.ends;
      ends_texts = below.ends_texts;
      replies_texts = search rules;
      is = added;
    }) (c.with_clients.ensures _ (c.in_ok-command-4.ensures _ (c.in_ok-command-3.ensures _ (c.in_ok-command-2.ensures _ below.is))))

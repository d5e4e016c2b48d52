-- The options of a fleet, one after the other.
use Rattle.std.proofs.Common.{rules}
use Rattle.std.proofs.lemmas.Result.{IfOk-weaker}
use Rattle.wh_options.proofs.command.fleet_command.Goals as goal

pub returns : goal.returns
returns c = IfOk-weaker c.with_ends.result _ _ (λ made added. record {
  planners = c.as_slice.result;
  ends = c.as_slice-2.result;
  words = search rules;
  ends_texts = search rules;
  is = added;
})
    (c.with_ends.ensures _ (c.in_ok-command-6.ensures _ (c.in_ok-command-5.ensures _ (c.in_ok-command-4.ensures _ (c.in_ok-command-3.ensures _ (c.in_ok-command-2.ensures _ (c.in_ok-command.ensures _ c.plain_command-command.ensures)))))))

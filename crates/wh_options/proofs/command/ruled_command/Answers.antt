-- The one option behind the name.
use Rattle.std.proofs.Common.{rules}
use Rattle.std.proofs.lemmas.Result.{IfOk-weaker}
use Rattle.wh_options.proofs.command.ruled_command.Goals as goal

pub returns : goal.returns
returns c = IfOk-weaker c.with_ends.result _ _ (λ made added. record {
  ends = c.as_slice.result;
  ends_texts = search rules;
  is = added;
}) (c.with_ends.ensures _ c.plain_command-command.ensures)

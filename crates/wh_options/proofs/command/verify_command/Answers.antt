-- The shape of the command `verify`, from that of its part.
use Rattle.std.proofs.lemmas.Result.{IfOk-weaker}
use Rattle.wh_options.proofs.command.verify_command.Goals as goal

pub returns : goal.returns
returns c =
    let below = c.in_ok-command.ensures in
    IfOk-weaker c.with_switch-2.result _ _ (λ made added. record {
      ends = below.ends;
      ends_texts = below.ends_texts;
      is = added;
    }) (c.with_switch-2.ensures _ (c.in_ok-command-3.ensures _ (c.in_ok-command-2.ensures _ below.is)))

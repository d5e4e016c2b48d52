use Rattle.wh_core.proofs.WrongRows.{no_refusal_with_a_clear_way}
use Rattle.wh_core.proofs.rows.no_refusal_with_a_clear_way.Goals as goal

pub returns : goal.returns
returns c = no_refusal_with_a_clear_way

use Rattle.std.proofs.Common.{refl, arith}
use Rattle.wh_continue.proofs.Fronts.{whole_front}
use Rattle.wh_continue.proofs.beside.part_of.Goals as goal

pub returns-else-held-text-clause-some : goal.returns-else-held-text-clause-some
returns-else-held-text-clause-some c = whole_front c.args.held.now c.args.text.now (c.if-not-is_front.ensures.front refl) (omega (arith, c.if-held-text.false))

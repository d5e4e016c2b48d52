use Rattle.std.proofs.Common.{inr, refl}
use Rattle.wh_attend.proofs.ready.read_alone.Goals as goal

pub returns-else-ended-clause-fault : goal.returns-else-ended-clause-fault
returns-else-ended-clause-fault g c = inr (
  refl,
  record { site = c.in-Ok.kept.setting; text = c.in-Ok.kept.text.items; site_read = c.in-Ok.ensures.ok; more = cc },
)

use Rattle.wh_dispatch.proofs.Together as together
use Rattle.wh_dispatch.proofs.laws.each_visit_is_told.Goals as goal

pub returns : goal.returns
returns g c = together.each_visit_is_told g.P.Plans.fits_map g.P.Plans.slot_count c.args.asker

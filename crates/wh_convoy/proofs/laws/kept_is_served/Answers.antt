use Rattle.wh_dispatch.proofs.Kept.{kept_is_served}
use Rattle.wh_convoy.proofs.laws.kept_is_served.Goals as goal

pub returns : goal.returns
returns g c = kept_is_served g.P.Plans.fits_map g.P.Plans.slot_count c.args.asker

use Rattle.wh_attend.proofs.SharesFit.{fits}
use Rattle.wh_attend.proofs.laws.shares_fit.Goals as goal

pub returns : goal.returns
returns c = fits

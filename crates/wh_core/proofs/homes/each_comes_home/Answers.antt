use Rattle.wh_core.proofs.GoingHome.{each_comes_home}
use Rattle.wh_core.proofs.homes.each_comes_home.Goals as goal

pub returns : goal.returns
returns c = each_comes_home

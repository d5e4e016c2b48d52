use Rattle.wh_serve.proofs.Beginnings.{own_served}
use Rattle.wh_serve.proofs.laws.serves_own.Goals as goal

pub returns : goal.returns
returns c = own_served

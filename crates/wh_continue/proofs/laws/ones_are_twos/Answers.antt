use Rattle.wh_continue.proofs.Renewed.{cut_ones_are_twos, ones_are_twos}
use Rattle.wh_continue.proofs.laws.ones_are_twos.Goals as goal

pub returns-clause-whole : goal.returns-clause-whole
returns-clause-whole c = ones_are_twos

pub returns-clause-cut : goal.returns-clause-cut
returns-clause-cut c = cut_ones_are_twos

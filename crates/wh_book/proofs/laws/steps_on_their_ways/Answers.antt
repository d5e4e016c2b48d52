use Rattle.wh_book.proofs.OnTheirWays as ways
use Rattle.wh_book.proofs.laws.steps_on_their_ways.Goals as goal

pub returns : goal.returns
returns c = ways.steps_on_their_ways

use Rattle.wh_stand.proofs.StationLemmas.{inserted}
use Rattle.wh_stand.proofs.stations.add.Goals as goal

pub returns-in-Ok-clause-station : goal.returns-in-Ok-clause-station
returns-in-Ok-clause-station c = λ is cell. inserted c.args.cells.now.keys c.insert.new.self.keys c.args.point.now.cell c.in-Ok.ensures.keys cell

use Rattle.std.proofs.Common.{arith}
use Rattle.std.proofs.lemmas.Bool.{lt-ltb, ltb-true}
use Rattle.wh_tasks.proofs.Tallies.{contains-times, times-contains}
use Rattle.wh_tasks.proofs.ends.PathEnds.is_end.Goals as goal

pub returns-in-Some : goal.returns-in-Some
returns-in-Some c = (
  λ more. times-contains c.args.cell c.args.self.now (let h = ltb-true 0 c.in-Some.count more in let e = c.in-Some.ensures in omega arith),
  λ has. lt-ltb 0 c.in-Some.count (let h = contains-times c.args.cell c.args.self.now has in let e = c.in-Some.ensures in omega arith),
)

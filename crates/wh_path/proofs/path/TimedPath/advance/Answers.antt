use Rattle.std.proofs.Common.{◌<◌, ◌≤◌, ◌+◌, suc, length, arith, add-one}
use Rattle.wh_path.proofs.Advance.{drop-advanced, drop-rests}
use Rattle.wh_path.proofs.path.TimedPath.advance.Goals as goal

pub returns-then-self-len : goal.returns-then-self-len
returns-then-self-len c =
    let h : suc c.self.inside.passed < length c.self.inside.cells.items = omega arith in
    rw (← c.self.view_is, add-one) (drop-advanced c.self.inside.cells.items c.self.inside.passed h)

pub returns-else-self-len : goal.returns-else-self-len
returns-else-self-len c =
    let h : length c.self.inside.cells.items ≤ c.self.inside.passed + 1 = omega arith in
    rw (← c.self.view_is) (drop-rests c.self.inside.cells.items c.self.inside.passed c.self.invariant h)

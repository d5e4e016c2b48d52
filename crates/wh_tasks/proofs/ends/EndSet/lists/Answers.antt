use Rattle.std.proofs.Common.{◌∙◌}
use Rattle.wh_tasks.proofs.Ending.{lists-before, lists-after}
use Rattle.wh_tasks.proofs.ends.EndSet.lists.Goals as goal

pub returns-then-is_among : goal.returns-then-is_among
returns-then-is_among c =
    let e = c.self.inside in
    let cells = rw (c.as_slice-cells.ensures.value, c.all.view_is) at (c.is_among.ensures.0 c.if-is_among.true) in
    let has = lists-before e.all.now e.but c.args.cell c.self.invariant.0 cells in
    rw (← c.self.view_is) (λ _. has, λ _. c.if-is_among.true)

pub returns-else-is_among : goal.returns-else-is_among
returns-else-is_among c =
    let e = c.self.inside in
    let all = c.as_slice-cells.ensures.value ∙ c.all.view_is in
    let before = rw all at c.is_among.ensures in
    let after = rw all at c.is_among-else-is_among.ensures in
    rw (← c.self.view_is) (lists-after e.all.now e.but c.args.cell c.is_among-else-is_among.result c.self.invariant.0
    (λ has. (let yes = before.1 has in let no = c.if-is_among.false in cc)) after)

use Rattle.std.proofs.Common.{◌*◌, ◌≤◌, arith}
use Rattle.std.proofs.lemmas.Nat.{mul-le}
use Rattle.std.proofs.lemmas.List.Sums.{count_by-le-length}
use Rattle.wh_grid.proofs.grid.Grid.new.Goals as goal

pub overflow_cast-passable_cells : goal.overflow_cast-passable_cells
overflow_cast-passable_cells c =
    let few : c.args.width * c.args.height ≤ 4096 * 4096 = mul-le c.args.width c.args.height 4096 4096 c.requires.width c.requires.height in
    omega (arith, count_by-le-length (λ b. b) c.deref.result.now, c.requires.size)

use Rattle.std.proofs.Common.{◌++◌, [], ◌≤◌, sym}
use Rattle.std.specs.Prelude.{IfNone}
use Rattle.wh_grid.specs.Candidates.{listed, AreOpen}
use Rattle.wh_grid.proofs.OpenCells.{none_open, fresh_up, fresh_down, fresh_left, fresh_right, neighbours_are}
use Rattle.wh_grid.proofs.grid.Grid.neighbours.Goals as goal

below_none : (c : goal.After-add_open-4) → IfNone c.below.result (c.args.self.now.height ≤ c.args.cell.y)
below_none c = rw (sym c.height.ensures.value) c.below.ensures.none

right_none : (c : goal.After-add_open-4) → IfNone c.right.result (c.args.self.now.width ≤ c.args.cell.x)
right_none c = rw (sym c.width.ensures.value) c.right.ensures.none

all_open : (c : goal.After-add_open-4) → AreOpen c.args.self.now (((listed c.above.result ++ listed c.below.result) ++ listed c.left.result) ++ listed c.right.result) c.add_open-4.new.found.items
all_open c =
    let g = c.args.self.now in
    let cell = c.args.cell in
    let up = c.above.result in
    let down = c.below.result in
    let left = c.left.result in
    let right = c.right.result in
    let us = c.above.ensures.some in
    let un = c.above.ensures.none in
    let ds = c.below.ensures.some in
    let dn = below_none c in
    let ls = c.left.ensures.some in
    let ln = c.left.ensures.none in
    let rs = c.right.ensures.some in
    let rn = right_none c in
    let none : AreOpen g [] c.new-found.result.items = rw c.new-found.ensures (none_open g) in
    let one = c.add_open.ensures.open [] none (fresh_up g cell up down left right us un ds dn ls ln rs rn) in
    let two = c.add_open-2.ensures.open (listed up) one (fresh_down g cell up down left right us un ds dn ls ln rs rn) in
    let three = c.add_open-3.ensures.open (listed up ++ listed down) two (fresh_left g cell up down left right us un ds dn ls ln rs rn) in
    c.add_open-4.ensures.open ((listed up ++ listed down) ++ listed left) three (fresh_right g cell up down left right us un ds dn ls ln rs rn)

pub returns-clause-exact : goal.returns-clause-exact
returns-clause-exact c =
    neighbours_are c.args.self.now c.args.cell c.above.result c.below.result c.left.result c.right.result
    c.above.ensures.some c.above.ensures.none c.below.ensures.some (below_none c) c.left.ensures.some c.left.ensures.none c.right.ensures.some (right_none c)
    c.add_open-4.new.found.items (all_open c)

pub returns-clause-apart : goal.returns-clause-apart
returns-clause-apart c = (all_open c).apart

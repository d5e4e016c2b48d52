use Rattle.std.proofs.Common.{◌≡◌, ◌<◌, false, length, sym, subst, arith}
use Rattle.wh_points.specs.Points.{Layout}
use Rattle.wh_points.specs.PointLines.{has_name, has_cell}
use Rattle.wh_points.proofs.Additions.{apart_point, keys_pushed, parkings_pushed, longer}
use Rattle.wh_points.proofs.layout.Points.with_point.Goals as goal

pub invariant_of-result : goal.invariant_of-result
invariant_of-result c =
    let h = c.self.invariant in
    let v = sym c.self.view_is in
    let layout : Layout = record { points = c.self.inside.points.items; agents = c.self.inside.agents.items; nofollow = c.self.inside.nofollow } in
    let name = subst (λ (l : Layout). has_name c.args.point.name l.points ≡ false) v c.requires.name in
    let cell = subst (λ (l : Layout). has_cell c.args.point.cell.x c.args.point.cell.y l.points ≡ false) v c.requires.cell in
    let room = subst (λ (l : Layout). length l.points < 4096) v c.requires.room in
    let count = longer c.self.inside.points.items c.args.point in
    let keys = keys_pushed c.self.inside.names.keys c.insert.new.self.keys c.self.inside.points.items c.args.point c.copy.result h.0 c.copy.ensures c.in_ok-insert.ensures.keys name in
    let parkings = parkings_pushed c.self.inside.points.items c.args.point c.self.inside.parkings c.weight.result h.1 c.weight.ensures in
    rw c.in_ok-push.ensures.items (keys, parkings, omega arith, h.3, apart_point layout c.args.point h.4 name cell)

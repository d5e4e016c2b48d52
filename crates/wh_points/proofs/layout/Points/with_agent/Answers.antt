use Rattle.std.proofs.Common.{◌≡◌, ◌<◌, ◌==◌, false, length, sym, subst, arith}
use Rattle.std.specs.List.{list_any}
use Rattle.wh_points.specs.Points.{Layout}
use Rattle.wh_points.proofs.Additions.{apart_agent, longer}
use Rattle.wh_points.proofs.layout.Points.with_agent.Goals as goal

pub invariant_of-result : goal.invariant_of-result
invariant_of-result c =
    let h = c.self.invariant in
    let v = sym c.self.view_is in
    let layout : Layout = record { points = c.self.inside.points.items; agents = c.self.inside.agents.items; nofollow = c.self.inside.nofollow } in
    let known = subst (λ (l : Layout). c.args.number < length l.points) v c.requires.known in
    let new = subst (λ (l : Layout). list_any (λ m. m == c.args.number) l.agents ≡ false) v c.requires.new in
    let room = subst (λ (l : Layout). length l.agents < 256) v c.requires.room in
    let count = longer c.self.inside.agents.items c.args.number in
    rw c.in_ok-push.ensures.items (h.0, h.1, h.2, omega arith, apart_agent layout c.args.number h.4 known new)

use Rattle.std.proofs.Common.{◌≢◌, ◌+◌, ◌<◌, List, length, subst, sym, arith}
use Rattle.std.specs.List.{AllPairs}
use Rattle.wh_grid.specs.declared.cell.Cell.{Cell}
use Rattle.wh_drive.specs.Drives.{Drive, MayTick, ticked, opened}
use Rattle.wh_order.specs.Orders.{Order, Represents}
use Rattle.wh_order.proofs.Resuming.{so_far, row-differs, may-go-on, first-row, next-row, ready-same}
use Rattle.wh_order.proofs.visit_order.VisitOrder.replayed.Goals as goal

pub loop-time-init : goal.loop-time-init
loop-time-init c =
    let d = c.args.plan.now in
    let o = c.in_ok-order.order in
    let opening = c.in_ok-order.ensures.represents d.nofollow in
    let ahead = subst (λ n. Represents o (opened d.nofollow n c.row.result.now)) c.ahead.ensures opening in
    let row = subst (λ (cells : List Cell). Represents o (opened d.nofollow d.ahead cells)) c.row.ensures ahead in
    subst (Represents o) (first-row d c.keeps_order.ensures.sound) row

pub tick-requires-clause-differ : goal.tick-requires-clause-differ
tick-requires-clause-differ c =
    let d = c.args.plan.now in
    let t = c.loop-time.time in
    let test = c.loop-time-test.true in
    let within = c.clock-time-end.ensures.within in
    let h : t + 1 < length d.rows = omega arith in
    subst (λ (cells : List Cell). AllPairs (λ a b. a ≢ b) cells) (sym c.row-in-loop-time.ensures) (row-differs d (t + 1) c.keeps_order.ensures.sound h)

pub loop-time-preserved : goal.loop-time-preserved
loop-time-preserved c =
    let d = c.args.plan.now in
    let t = c.loop-time.time in
    let test = c.loop-time-test.true in
    let within = c.clock-time-end.ensures.within in
    let h : t + 1 < length d.rows = omega arith in
    let s = so_far (t + 1) d in
    let new = c.tick.new.self in
    let row = c.row-in-loop-time.ensures in
    let ready = subst (λ (o : Order). Represents o s) (sym c.in_ok-reserve.ensures.ok) (ready-same c.loop-time.order s c.loop-time.invariant) in
    let may = subst (λ (cells : List Cell). MayTick s cells) (sym row) (may-go-on d t c.keeps_order.ensures.sound h) in
    let next = subst (λ (cells : List Cell). Represents new (ticked cells s)) row (c.tick.ensures.drive s ready may) in
    subst (λ (e : Drive). Represents new e) (next-row d (t + 1) h) next

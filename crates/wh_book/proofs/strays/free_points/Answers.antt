use Rattle.std.proofs.Common.{◌≡◌, ◌<◌, ◌≤◌, length, get_or, sym, ◌∙◌}
use Rattle.std.proofs.lemmas.Bool.{false≢true}
use Rattle.wh_core.specs.Steps.{IsAllowed}
use Rattle.wh_stand.specs.Ways.{site_at}
use Rattle.wh_book.proofs.Straying.{listed-none, listed-more, listed-kept, listed-end}
use Rattle.wh_book.proofs.strays.free_points.Goals.{then-may_end+in_ok-push, else-may_end}
use Rattle.wh_book.proofs.strays.free_points.Goals as goal

pub loop-point-init : goal.loop-point-init
loop-point-init c = λ grid.
    listed-none c.args.points.now.points (IsAllowed (site_at grid c.args.points.now c.args.homes) c.args.floor.now.state c.args.agent) c.new-cells.result.items c.new-cells.ensures.items

pub loop-point-preserved : goal.loop-point-preserved
loop-point-preserved c = λ grid.
    let layout = c.args.points.now in
    let May = IsAllowed (site_at grid layout c.args.homes) c.args.floor.now.state c.args.agent in
    let lt : c.loop-point.point-index < length layout.points = rw (← c.as_slice-point-items.ensures.value) c.loop-point-test.true in
    let read : c.point-item.result ≡ get_or layout.points c.loop-point.point-index c.point-item.result = rw (← c.as_slice-point-items.ensures.value) c.point-item.is in
    elim c.if-may_end.branch [
      | then-may_end+in_ok-push w ↦
          rw (w.cells-is, w.push.ensures.items, w.in_ok-push.was) (listed-more layout.points May c.loop-point.point-index c.loop-point.cells.items c.point-item.result lt read
          ((c.may_end.ensures grid).0 w.if-may_end.true) (c.loop-point.invariant grid))
      | else-may_end w ↦
          rw w.cells-is (listed-kept layout.points May c.loop-point.point-index c.loop-point.cells.items c.point-item.result lt read
          (λ m. false≢true (sym w.if-may_end.false ∙ (c.may_end.ensures grid).1 m)) (c.loop-point.invariant grid))
    ]

pub returns : goal.returns
returns c = λ grid cell.
    let layout = c.args.points.now in
    let May = IsAllowed (site_at grid layout c.args.homes) c.args.floor.now.state c.args.agent in
    let all : length layout.points ≤ c.loop-point.point-index = rw (← c.as_slice-point-items.ensures.value) c.loop-point-test.false in (
      (c.loop-point.invariant grid).sound cell,
      λ may. listed-end layout May c.loop-point.point-index c.loop-point.cells.items cell all (c.loop-point.invariant grid) may.rest.berth.point may,
    )

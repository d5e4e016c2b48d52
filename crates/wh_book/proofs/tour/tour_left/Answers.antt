use Rattle.std.proofs.Common.{◌≡◌, ◌≢◌, ◌≤◌, List, length, ap, ◌∙◌, subst, sym, arith}
use Rattle.std.specs.Prelude.{◌↔◌}
use Rattle.arrayvec.specs.ArrayVec.{ArrayVec}
use Rattle.wh_grid.specs.declared.cell.Cell.{Cell}
use Rattle.wh_tasks.specs.Tasks.{stops_left}
use Rattle.wh_planner.specs.Duties.{Delivers}
use Rattle.wh_core.specs.Steps.{homeward}
use Rattle.wh_book.proofs.Straying.{doubled, tour-left, tour-on, tour-off, tour-few, tour-some}
use Rattle.wh_book.proofs.tour.tour_left.Goals.{then-homes, else-homes}
use Rattle.wh_book.proofs.tour.tour_left.Goals as goal

pub returns-then-len-eq1-clause-same : goal.returns-then-len-eq1-clause-same
returns-then-len-eq1-clause-same c = λ path.
    let left = tour-left c.args.task.now c.as_slice.result.now c.as_slice-seen.result.now c.loop-stop.stop-index c.loop-stop.cells.items c.as_slice.ensures.value c.as_slice-seen.ensures.value c.loop-stop.invariant c.loop-stop-test.false in
    let same : c.if-homes.cells.items ≡ homeward c.args.homes c.args.home (stops_left c.args.task.now) = elim c.if-homes.branch [
      | then-homes w ↦
          tour-on c.args.homes c.args.home c.loop-stop.cells.items (stops_left c.args.task.now) c.if-homes.cells.items w.if-homes.true left
          (ap (λ (v : ArrayVec Cell). v.items) w.cells-is ∙ w.push-then-homes.ensures.items)
      | else-homes w ↦
          tour-off c.args.homes c.args.home c.loop-stop.cells.items (stops_left c.args.task.now) c.if-homes.cells.items w.if-homes.false left (ap (λ (v : ArrayVec Cell). v.items) w.cells-is)
    ] in
    let one : length c.if-homes.cells.items ≡ 1 = sym c.len.ensures.value ∙ c.if-len-eq1.true in
    rw (c.push-then-len-eq1.ensures.items, c.deref.ensures.0) (doubled c.if-homes.cells.items (homeward c.args.homes c.args.home (stops_left c.args.task.now)) _ one same path)

pub returns-else-len-eq1-clause-same : goal.returns-else-len-eq1-clause-same
returns-else-len-eq1-clause-same c = λ path.
    let left = tour-left c.args.task.now c.as_slice.result.now c.as_slice-seen.result.now c.loop-stop.stop-index c.loop-stop.cells.items c.as_slice.ensures.value c.as_slice-seen.ensures.value c.loop-stop.invariant c.loop-stop-test.false in
    let same : c.if-homes.cells.items ≡ homeward c.args.homes c.args.home (stops_left c.args.task.now) = elim c.if-homes.branch [
      | then-homes w ↦
          tour-on c.args.homes c.args.home c.loop-stop.cells.items (stops_left c.args.task.now) c.if-homes.cells.items w.if-homes.true left
          (ap (λ (v : ArrayVec Cell). v.items) w.cells-is ∙ w.push-then-homes.ensures.items)
      | else-homes w ↦
          tour-off c.args.homes c.args.home c.loop-stop.cells.items (stops_left c.args.task.now) c.if-homes.cells.items w.if-homes.false left (ap (λ (v : ArrayVec Cell). v.items) w.cells-is)
    ] in
    subst (λ (cells : List Cell). Delivers c.if-homes.cells.items path ↔ Delivers cells path) same (λ d. d, λ d. d)

pub returns-else-len-eq1-clause-few : goal.returns-else-len-eq1-clause-few
returns-else-len-eq1-clause-few c =
    let left = tour-left c.args.task.now c.as_slice.result.now c.as_slice-seen.result.now c.loop-stop.stop-index c.loop-stop.cells.items c.as_slice.ensures.value c.as_slice-seen.ensures.value c.loop-stop.invariant c.loop-stop-test.false in
    let same : c.if-homes.cells.items ≡ homeward c.args.homes c.args.home (stops_left c.args.task.now) = elim c.if-homes.branch [
      | then-homes w ↦
          tour-on c.args.homes c.args.home c.loop-stop.cells.items (stops_left c.args.task.now) c.if-homes.cells.items w.if-homes.true left
          (ap (λ (v : ArrayVec Cell). v.items) w.cells-is ∙ w.push-then-homes.ensures.items)
      | else-homes w ↦
          tour-off c.args.homes c.args.home c.loop-stop.cells.items (stops_left c.args.task.now) c.if-homes.cells.items w.if-homes.false left (ap (λ (v : ArrayVec Cell). v.items) w.cells-is)
    ] in
    rw same (tour-few c.args.homes c.args.home c.args.task.now)

pub returns-else-len-eq1-clause-two : goal.returns-else-len-eq1-clause-two
returns-else-len-eq1-clause-two c =
    let left = tour-left c.args.task.now c.as_slice.result.now c.as_slice-seen.result.now c.loop-stop.stop-index c.loop-stop.cells.items c.as_slice.ensures.value c.as_slice-seen.ensures.value c.loop-stop.invariant c.loop-stop-test.false in
    let same : c.if-homes.cells.items ≡ homeward c.args.homes c.args.home (stops_left c.args.task.now) = elim c.if-homes.branch [
      | then-homes w ↦
          tour-on c.args.homes c.args.home c.loop-stop.cells.items (stops_left c.args.task.now) c.if-homes.cells.items w.if-homes.true left
          (ap (λ (v : ArrayVec Cell). v.items) w.cells-is ∙ w.push-then-homes.ensures.items)
      | else-homes w ↦
          tour-off c.args.homes c.args.home c.loop-stop.cells.items (stops_left c.args.task.now) c.if-homes.cells.items w.if-homes.false left (ap (λ (v : ArrayVec Cell). v.items) w.cells-is)
    ] in
    let some = tour-some c.args.homes c.args.home c.args.task.now c.requires.left in
    let size : length c.if-homes.cells.items ≡ length (homeward c.args.homes c.args.home (stops_left c.args.task.now)) = ap length same in
    let more : length c.if-homes.cells.items ≢ 1 = λ e. c.if-len-eq1.false (c.len.ensures.value ∙ e) in
    omega arith

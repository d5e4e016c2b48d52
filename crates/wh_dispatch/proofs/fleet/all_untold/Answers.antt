use Rattle.std.proofs.Common.{rules, ◌≡◌, ◌≤◌, length, arith, []}
use Rattle.wh_dispatch.proofs.SettingOut.{listed_start, listed_step, listed_all}
use Rattle.wh_dispatch.proofs.fleet.all_untold.Goals as goal

pub loop-n-init : goal.loop-n-init
loop-n-init g c =
    let empty : c.new-row.result.items ≡ [] = search rules in
    listed_start c.args.warehouse.now.book.state c.new-row.result.items empty

pub loop-n-preserved : goal.loop-n-preserved
loop-n-preserved g c =
    listed_step c.args.warehouse.now.book.state c.loop-n.n c.loop-n.row.items c.add_untold.new.row.items c.task.result.now c.loop-n.invariant c.task.ensures c.in_ok-add_untold.ensures

pub returns : goal.returns
returns g c =
    let s = c.args.warehouse.now.book.state in
    let count = c.task_count-n-end.ensures in
    let end = c.loop-n.auto.n-end in
    let test = c.loop-n-test.false in
    let most : length s.tasks ≤ c.loop-n.n = omega arith in
    listed_all s c.loop-n.n c.loop-n.row.items c.loop-n.invariant most

use Rattle.wh_dispatch.proofs.SettingOut.{Listed}
use Rattle.wh_dispatch.proofs.fleet.all_untold.Given as goal

abbrev pub invariant-loop-n : goal.invariant-loop-n
invariant-loop-n g l = Listed l.warehouse.book.state l.n l.row.items

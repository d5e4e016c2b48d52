use Rattle.std.proofs.Common.{◌≡◌, length}
use Rattle.wh_detours.specs.Barred.{AreBarred, cell_before}
use Rattle.wh_detours.proofs.barred.barred_ways.Given as goal

abbrev pub invariant-loop-i : goal.invariant-loop-i
invariant-loop-i l = record { size : length l.barred ≡ 9; from_is : l.from ≡ cell_before l.fn.loc l.stops l.i; told : AreBarred l.grid l.others l.fn.loc l.stops l.sights l.barred l.i }

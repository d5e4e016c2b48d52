use Rattle.std.proofs.Common.{◌≡◌}
use Rattle.wh_detours.specs.Barred.{cell_before}
use Rattle.wh_detours.specs.Filled.{AreFilled}
use Rattle.wh_detours.proofs.fields.fields_over.Given as goal

abbrev pub invariant-loop-i : goal.invariant-loop-i
invariant-loop-i l = record { before_is : l.before ≡ cell_before l.fn.loc l.stops l.i; filled : AreFilled l.grid l.fn.loc l.stops l.wanted l.i l.kept.items }

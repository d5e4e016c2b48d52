use Rattle.std.proofs.Common.{◌≡◌, ◌<◌, ◌^◌, drop, max}
use Rattle.wh_path.specs.Paths.{horizon}
use Rattle.wh_path.proofs.ends.greatest_end.Given as goal

abbrev pub invariant-loop-q : goal.invariant-loop-q
invariant-loop-q l = (max l.most (horizon (drop l.q-index l.paths)) ≡ horizon l.paths) × (l.most < 2 ^ 61)

use Rattle.std.proofs.Common.{◌≡◌, take}
use Rattle.std.specs.List.{All}
use Rattle.wh_crew.proofs.threads.none_other.Given as goal

-- none of those so far
abbrev pub invariant-loop-each : goal.invariant-loop-each
invariant-loop-each l = All (λ n. n.other ≡ 0) (take l.each-index l.missed)

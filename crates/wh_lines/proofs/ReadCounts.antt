-- How often a reader was asked, over several reads.
use Rattle.std.proofs.Common.{◌≤◌, inl, inr, arith, ap}
use Rattle.wh_lines.specs.Input.{Input, GoesOn}

-- reads only grow
pub more_reads : (i j : Input) → GoesOn i j → i.reads ≤ j.reads
more_reads i j (inl waits) = (let same = ap (λ (x : Input). x.reads) waits.0 in omega (arith, same))
more_reads i j (inr asked) = omega (arith, asked.0)

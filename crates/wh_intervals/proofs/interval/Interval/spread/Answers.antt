use Rattle.std.proofs.Common.{ℕ, ◌*◌, ◌/◌, ◌%◌, ◌^◌, ap}
use Rattle.wh_intervals.specs.Places.{spread}
use Rattle.wh_intervals.proofs.interval.Interval.spread.Goals as goal

pub returns-clause-value : goal.returns-clause-value
unfolding spread
returns-clause-value c = ap (λ (n : ℕ). n * 11400714819323198485 % 2 ^ 64 / 2 ^ 32) c.number.ensures

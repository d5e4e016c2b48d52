use Rattle.std.proofs.Common.{arith}
use Rattle.wh_intervals.proofs.least.over_intervals.Goals as goal

pub search-requires-clause-errand : goal.search-requires-clause-errand
search-requires-clause-errand c =
    let h = c.requires.errand in
    record {
      inside = h.inside;
      arrives = h.arrives;
      limit_is = h.limit_is;
      small = h.small;
      guided = h.guided;
      none_before = λ q t. omega (arith, c.saturating_add.ensures, c.max.ensures, h.none_before q t, c.requires.least q t);
    }

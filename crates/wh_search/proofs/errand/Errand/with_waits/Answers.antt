use Rattle.std.proofs.Common.{arith}
use Rattle.wh_search.proofs.errand.Errand.with_waits.Goals as goal

pub returns-clause-errand : goal.returns-clause-errand
returns-clause-errand c =
    let h = c.requires.errand in
    record {
      inside = h.inside;
      arrives = h.arrives;
      horizon_is = h.horizon_is;
      limit_is = h.limit_is;
      small = h.small;
      guided = h.guided;
      not_sooner = h.not_sooner;
      exact = h.exact;
      none_before = λ q t. omega (arith, c.max.ensures, h.none_before q t, c.least_by_stops.ensures q t);
    }

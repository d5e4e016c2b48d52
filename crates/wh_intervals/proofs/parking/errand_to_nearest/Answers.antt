use Rattle.std.proofs.Common.{refl, arith}
use Rattle.wh_search.proofs.Nearest.{field_estimates}
use Rattle.wh_intervals.proofs.parking.errand_to_nearest.Goals as goal

pub returns : goal.returns
returns c =
    record {
      errand = record {
        inside = c.requires.inside;
        arrives = record { forward = omega arith; few = omega arith; visited = λ j a b. absurd (omega arith); stuck = λ a. absurd (omega arith) };
        horizon_is = c.horizon-horizon.ensures.value;
        limit_is = omega (arith, c.horizon-horizon.ensures.value, c.cells.ensures.value);
        small = omega (arith, c.horizon-horizon.ensures.bound);
        guided = field_estimates c.args.grid.now c.args.allowed.now c.args.field.now c.requires.grid c.requires.ends;
        not_sooner = λ k s e. omega arith;
        exact = λ t. cc;
        none_before = λ q t. omega arith;
      };
      parks = record { grid_is = refl; others_are = refl; from = refl; through = refl; to = refl };
      estimate = refl;
    }

-- A verdict is of the grid and the points, whatever the rule of a run.
use Rattle.std.proofs.Common.{Bool}
use Rattle.wh_grid.specs.Grids.{Floor}
use Rattle.wh_grid.specs.declared.cell.Cell.{Cell}
use Rattle.wh_points.specs.Points.{Layout, Site}
use Rattle.wh_formed.specs.Verdicts.{IsVerdict, JoinedBy}
use Rattle.wh_formed.specs.declared.verdict.Verdict.{Verdict}
use Rattle.wh_formed.specs.declared.verdict.Verdict.TheVariants.{FewParkings, Cut, Formed}

module _ (grid : Floor) (layout : Layout) (homes other : Bool) where
  abbrev site : Bool → Site
  site rule = record { grid = grid; layout = layout; homes = rule }

  joined : (one two : Bool) (c d : Cell) → JoinedBy (site one) c d → JoinedBy (site two) c d
  joined one two c d by = (by.0, record { between = by.1.between; no_third = by.1.no_third })

  pub same_verdict : (verdict : Verdict) → IsVerdict (site homes) verdict → IsVerdict (site other) verdict
  same_verdict (FewParkings have need) is = is
  same_verdict (Cut a b) is = (
    is.0,
    record {
      in_order = is.1.in_order;
      inside = is.1.inside;
      cut = λ by. is.1.cut (joined other homes _ _ by);
      first = λ k l order inside before. joined homes other _ _ (is.1.first k l order inside before);
    },
  )
  same_verdict Formed is = record {
    enough = is.enough;
    joined = λ c d one two apart. joined homes other c d (is.joined c d one two apart);
  }

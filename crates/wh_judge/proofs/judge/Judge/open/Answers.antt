use Rattle.std.proofs.Common.{◌∙◌, ap}
use Rattle.wh_field.specs.Fields.{Seeking}
use Rattle.wh_judge.proofs.judge.Judge.open.Goals as goal

pub invariant_of-result : goal.invariant_of-result
invariant_of-result c = (c.in_ok-floor.ensures.reached, ap (λ (f : Seeking). f.grid) c.in_ok-near.ensures ∙ c.grid-grid.ensures.value, λ e. c.in_ok-floor.ensures.ways)

use Rattle.std.proofs.Common.{◌-◌, sym, ◌∙◌, arith}
use Rattle.wh_intervals.proofs.errand.first_end.Goals as goal

pub returns-then-soonest-gt0 : goal.returns-then-soonest-gt0
returns-then-soonest-gt0 c = λ k e.
    let rule = sym c.nofollow.ensures ∙ c.if-nofollow.true in
    omega (arith, c.requires k e.rests, c.requires (k - 1) (e.follows_none rule), c.if-soonest-gt0.true, c.saturating_add.ensures)

use Rattle.std.proofs.Common.{None, inl, inr, refl}
use Rattle.std.proofs.KnownBytes.{Keeps-refl}
use Rattle.wh_program.proofs.Stated.{stated_over_both}
use Rattle.wh_program.proofs.stating.stand_by_name.Goals as goal

-- files tell no bytes
pub returns : goal.returns
returns g c = inl (None, None, stated_over_both c.args.options.now None None _ _ _ _ _ c.state_standing.ensures.ok c.state_standing.ensures.fault)

-- out of memory for the name
pub returns-in_default : goal.returns-in_default
returns-in_default g c = inr (refl, refl, Keeps-refl _)

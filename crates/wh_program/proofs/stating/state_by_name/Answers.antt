use Rattle.std.proofs.Common.{None}
use Rattle.wh_program.proofs.Stated.{stated_over}
use Rattle.wh_program.proofs.stating.state_by_name.Goals as goal

-- a file tells no bytes
pub returns : goal.returns
returns g c = (None, stated_over c.args.options.now None _ _ _ _ _ c.state.ensures.ok c.state.ensures.fault)

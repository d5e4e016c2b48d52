use Rattle.wh_program.proofs.Screens.{attended_over}
use Rattle.wh_program.proofs.attending.attend_by_name.Goals as goal

-- over the log file, the one beside it and the file of the board, of whatever these tell
pub returns : goal.returns
returns g c = λ told. attended_over _ _ _ _ _ c.args.options.now _ _ _ _ _ _ _ told c.in-Ok-screen_over.ensures c.attend_over.ensures

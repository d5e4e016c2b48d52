use Rattle.wh_program.proofs.Screens.{served_guests}
use Rattle.wh_program.proofs.running.obey.Goals as goal

pub returns-in-Serve : goal.returns-in-Serve
returns-in-Serve g c = served_guests _ _ _ _ _ c.in-Serve.options _ _ _ _ _ _ c.in-Serve.is (c.attend_by_name.ensures (g.W.Write.contents c.args.output.now)) c.requires.none

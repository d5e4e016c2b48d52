use Rattle.wh_resume.proofs.Assembly.{begins_of}
use Rattle.wh_resume.proofs.judging.judge_behind.Goals as goal

pub at-requires : goal.at-requires
at-requires c = begins_of c.args.instance c.requires.0 c.args.begun.now c.requires.1

use Rattle.wh_resume.proofs.Resumes.{fronts_are_resumed}
use Rattle.wh_resume.proofs.laws.fronts_are_resumed.Goals as goal

pub returns : goal.returns
returns c = fronts_are_resumed

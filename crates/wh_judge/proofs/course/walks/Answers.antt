use Rattle.std.proofs.Common.{refl, arith}
use Rattle.wh_judge.proofs.Courses.{walk-all}
use Rattle.wh_judge.proofs.course.walks.Goals as goal

pub returns : goal.returns
returns c = (λ _. walk-all c.args.grid.now c.args.path.now c.loop-k.k (omega arith) (omega arith) c.loop-k.invariant, λ _. refl)

use Rattle.wh_stand.proofs.Freeness.{conflict-not_free}
use Rattle.wh_stand.proofs.motion.are_free.Goals as goal

pub returns-in-Some : goal.returns-in-Some
returns-in-Some c = (λ e. cc, λ free. absurd (conflict-not_free c.args.nofollow c.args.p.now c.args.q.now _ c.in-Some.ensures.first free))

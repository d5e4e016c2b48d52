use Rattle.wh_judge.proofs.judge.Judge.reopen.Goals as goal

pub invariant_of-self : goal.invariant_of-self
invariant_of-self c = (c.in_ok-self-inside.ensures.reached, c.self.invariant.1, λ e. c.in_ok-self-inside.ensures.ways)

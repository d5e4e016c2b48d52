use Rattle.wh_judge.proofs.judge.answer.Goals as goal

pub returns-in-Clock-Tick-clause-answer : goal.returns-in-Clock-Tick-clause-answer
returns-in-Clock-Tick-clause-answer c = rw (c.in-Clock-Tick.is-0, c.in-Clock-Tick.is-1) (c.tick.ensures.answer c.args.instance.now)

pub returns-in-Replaced-Replace-clause-answer : goal.returns-in-Replaced-Replace-clause-answer
returns-in-Replaced-Replace-clause-answer c = rw (c.in-Replaced-Replace.is-0, c.in-Replaced-Replace.is-1) (c.replace.ensures.answer c.args.instance.now)

pub returns-in-Closed-Close-clause-answer : goal.returns-in-Closed-Close-clause-answer
returns-in-Closed-Close-clause-answer c = rw (c.in-Closed-Close.is-0, c.in-Closed-Close.is-1) (c.close.ensures.answer c.args.instance.now)

use Rattle.wh_session.proofs.Taking.{takes_front}
use Rattle.wh_session.proofs.stepping.take_front.Goals as goal

pub returns-in-Some-clause-took : goal.returns-in-Some-clause-took
returns-in-Some-clause-took g c u s h =
    let f = c.in-Some.ensures.some in
    let t = f.2 s h in (
      t.0,
      t.1,
      takes_front g.M.Machine.serves c.args.lines.now c.take.new.self s t.0 (g.M.Machine.says c.args.machine.now s) (g.M.Machine.says c.serve_front.new.self t.0) (g.M.Machine.logs c.args.machine.now s) (g.M.Machine.logs c.serve_front.new.self t.0)
          c.waiting.result.now f.0 c.in-Some.count c.waiting.ensures f.1 c.take.ensures t.2,
    )

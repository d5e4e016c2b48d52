use Rattle.std.proofs.Common.{◌+◌, refl, arith}
use Rattle.std.proofs.lemmas.Bool.{false≢true}
use Rattle.wh_resv.proofs.Telling.{agent_known, bars_not, none_bars, time_grows}
use Rattle.wh_resv.proofs.questions.is_open.Goals as goal

pub bars-requires-clause-within : goal.bars-requires-clause-within
bars-requires-clause-within c =
    agent_known c.args.stays.now c.args.paths.now c.requires.told c.args.except c.args.from c.args.to c.args.k
    c.list-list.result.now c.list-list.ensures c.time-time.result c.time-next.result c.time-time.ensures c.time-next.ensures c.loop-stay.stay-index c.loop-stay-test.true

pub returns-then-bars : goal.returns-then-bars
returns-then-bars c = (
  λ no. absurd (false≢true no),
  λ free. absurd (bars_not c.args.stays.now c.args.paths.now c.requires.told c.args.except c.args.from c.args.to c.args.k
      c.list-list.result.now c.list-list.ensures c.time-time.result c.time-next.result c.time-time.ensures c.time-next.ensures c.loop-stay.stay-index c.loop-stay-test.true
      (c.bars.ensures.0 c.if-bars.true) free),
)

pub returns : goal.returns
returns c =
    let done = c.loop-stay-test.false in
    let free = none_bars c.args.stays.now c.args.paths.now c.requires.told c.args.except c.args.from c.args.to c.args.k
    c.list-list.result.now c.list-list.ensures c.time-time.result c.time-next.result c.time-time.ensures c.time-next.ensures
    (λ j h. c.loop-stay.invariant j (omega arith)) in
    (λ _. free, λ _. refl)

pub bars-requires-clause-grows : goal.bars-requires-clause-grows
bars-requires-clause-grows c =
    let grows = time_grows c.args.stays.now.clock c.args.k (c.args.k + 1) (omega arith) in
    omega (arith, grows, c.time-time.ensures, c.time-next.ensures)

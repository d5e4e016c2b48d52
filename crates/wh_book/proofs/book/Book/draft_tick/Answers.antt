use Rattle.std.proofs.Common.{◌<◌, ◌∙◌, ap, arith}
use Rattle.wh_core.specs.States.{moved, picked, dropped}
use Rattle.wh_core.specs.Steps.{last_clock}
use Rattle.wh_book.specs.Drafts.{Seen}
use Rattle.wh_book.proofs.Kept.{tick-drafts}
use Rattle.wh_book.proofs.book.Book.draft_tick.Goals as goal

pub returns : goal.returns
returns c =
    let book = c.args.self.now in
    let early : book.state.clock < last_clock = omega (arith, c.clock-clock.ensures.value, c.clock-clock.ensures.fits, c.if-clock-eq-LAST_CLOCK.false) in
    let picks = c.next_arrivals-arrivals.ensures.picked ∙ ap (λ (s : Seen). picked (moved s.state)) c.self.view_is in
    let drops = c.next_arrivals-arrivals.ensures.dropped ∙ ap (λ (s : Seen). dropped (moved s.state)) c.self.view_is in
    tick-drafts book c.args.caller c.clock-clock.result c.next_arrivals-arrivals.result.picked c.next_arrivals-arrivals.result.dropped c.requires.not_closed early c.clock-clock.ensures.value picks drops c.requires.room

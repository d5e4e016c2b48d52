use Rattle.wh_token.proofs.Runs.{moved-at-once, moved-by-tick}
use Rattle.wh_token.proofs.warehouse.Warehouse.run_event.Goals as goal

pub returns-in-Some : goal.returns-in-Some
returns-in-Some g c = record {
  runs = rw c.in-Token.is (moved-at-once g.P.Plans.fits_map g.P.Plans.slot_count c.args.caller _ c.in-Some.reply c.args.self.now.book c.args.spares.now.items _
      c.add_answer.result c.add_answer.ensures.step c.add_answer.ensures.state c.add_answer.ensures.stays c.add_answer.ensures.history);
}

pub returns-in-None : goal.returns-in-None
returns-in-None g c = record { runs = rw c.in-Token.is (c.add_choice.ensures.runs c.args.spares.now.items) }

pub returns-in-Tick : goal.returns-in-Tick
returns-in-Tick g c =
    let may = c.may_tick.ensures c.if-may_tick.true in
    record {
      runs = rw c.in-Tick.is (moved-by-tick g.P.Plans.fits_map g.P.Plans.slot_count c.args.caller c.args.self.now.book c.args.spares.now.items _
          c.add_tick.result may.0 may.1 c.add_tick.ensures.state c.add_tick.ensures.stays c.add_tick.ensures.history);
    }

use Rattle.std.proofs.Common.{inl, inr}
use Rattle.wh_service.proofs.Undelivered.{plain_short}
use Rattle.wh_service.proofs.Playing.{opened_with}
use Rattle.wh_service.proofs.program.play.Goals as goal

pub returns-in-Err-clause-fault : goal.returns-in-Err-clause-fault
returns-in-Err-clause-fault g c = inr (inl (
  c.in-Err.fault,
  c.trouble_of.ensures,
  record {
    book = c.in-Ok.warehouse.book;
    opened = opened_with _ _ _ _ c.in-Ok.warehouse.planners _ c.in-Ok.ensures.site c.in-Ok.ensures.opening c.in-Ok.ensures.history c.in-Ok.ensures.planners c.in-Ok.ensures.tied;
    final = c.replay.new.warehouse.book;
    rest = c.replay.new.spares.items;
    stops = c.in-Err.ensures.fault;
  },
))

pub returns-in-Err-may_deliver-clause-fault : goal.returns-in-Err-may_deliver-clause-fault
returns-in-Err-may_deliver-clause-fault g c =
    let short = c.in-Err-may_deliver.ensures.fault in
    inr (inr (inl (
      c.in-Err-may_deliver.ensures.asked,
      c.in-Err-may_deliver.fault,
      c.deliver_trouble.ensures,
      record {
        book = c.in-Ok.warehouse.book;
        opened = opened_with _ _ _ _ c.in-Ok.warehouse.planners _ c.in-Ok.ensures.site c.in-Ok.ensures.opening c.in-Ok.ensures.history c.in-Ok.ensures.planners c.in-Ok.ensures.tied;
        rest = c.replay.new.spares.items;
        served = c.replay.new.warehouse.book;
        answered = g.W.Write.contents c.replay.new.writer;
        written = c.in-Ok-replay.replayed.replies;
        replays = c.in-Ok-replay.ensures.ok;
        final = c.may_deliver.new.warehouse.book;
        added = short.0;
        stops = short.1;
        no_keeper = plain_short _ _ _ _ _ short.2;
      },
    )))

pub returns-in-Ok-finished-clause-ok : goal.returns-in-Ok-finished-clause-ok
returns-in-Ok-finished-clause-ok g c = record {
  final = c.may_deliver.new.warehouse.book;
  replied = g.W.Write.contents c.may_deliver.new.writer;
  plays = record {
    book = c.in-Ok.warehouse.book;
    opened = opened_with _ _ _ _ c.in-Ok.warehouse.planners _ c.in-Ok.ensures.site c.in-Ok.ensures.opening c.in-Ok.ensures.history c.in-Ok.ensures.planners c.in-Ok.ensures.tied;
    rest = c.replay.new.spares.items;
    served = c.replay.new.warehouse.book;
    answered = g.W.Write.contents c.replay.new.writer;
    replays = c.in-Ok-replay.ensures.ok;
    added = c.in-Ok-may_deliver.ensures.ok.0;
    delivers = c.in-Ok-may_deliver.ensures.ok.1;
  };
  follows = c.in-Ok-finished.ensures.ok;
  open_is = c.in-Ok-finished.ensures.report;
}

pub returns-in-Err-finished-clause-fault : goal.returns-in-Err-finished-clause-fault
returns-in-Err-finished-clause-fault g c = inr (inr (inr record {
  final = c.may_deliver.new.warehouse.book;
  replied = g.W.Write.contents c.may_deliver.new.writer;
  written = c.in-Ok-replay.replayed.replies;
  plays = record {
    book = c.in-Ok.warehouse.book;
    opened = opened_with _ _ _ _ c.in-Ok.warehouse.planners _ c.in-Ok.ensures.site c.in-Ok.ensures.opening c.in-Ok.ensures.history c.in-Ok.ensures.planners c.in-Ok.ensures.tied;
    rest = c.replay.new.spares.items;
    served = c.replay.new.warehouse.book;
    answered = g.W.Write.contents c.replay.new.writer;
    replays = c.in-Ok-replay.ensures.ok;
    added = c.in-Ok-may_deliver.ensures.ok.0;
    delivers = c.in-Ok-may_deliver.ensures.ok.1;
  };
  why = c.in-Err-finished.ensures.fault;
}))

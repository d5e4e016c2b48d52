use Rattle.std.proofs.Common.{inr}
use Rattle.wh_convoy.specs.Convoys.{Held}
use Rattle.wh_convoy.specs.Riding.{RidesFrom}
use Rattle.wh_convoy.proofs.Ridden.{rides_over, stops_over, whole_of}
use Rattle.wh_convoy.proofs.riding.ride_on.Goals as goal
use Rattle.wh_journal.specs.Journals.{log_asker}

pub returns-in-Ok-ride-clause-runs : goal.returns-in-Ok-ride-clause-runs
returns-in-Ok-ride-clause-runs g c =
    let fits = g.P.Plans.fits_map in
    let count = g.P.Plans.slot_count in
    let text = log_asker c.args.form in
    let before = c.args.lines.now in
    let after = c.ride.new.lines in
    let book = c.args.start.book in
    let spares = c.args.spares.now.items in
    let rest = c.ride.new.spares.items in
    let new = c.ride.new.warehouse.book in
    let last = c.ride.new.vehicles in
    let counted = g.W.Write.contents c.begin_all.new.writer in
    let has = g.W.Write.contents c.ride.new.writer in
    let begun : Held = record { log = g.L.Journal.contents c.begin_all.new.log; arrivals = g.L.Journal.contents c.begin_all.new.arrivals } in
    let holds : Held = record { log = g.L.Journal.contents c.ride.new.log; arrivals = g.L.Journal.contents c.ride.new.arrivals } in
    let synced : Held = record { log = g.L.Journal.synced c.ride.new.log; arrivals = g.L.Journal.synced c.ride.new.arrivals } in
    let manned = c.in-Ok-man.ensures in
    let rides : RidesFrom fits count text c.args.behind before after book spares c.args.stood.order new rest last counted has begun holds synced =
    rides_over fits count text c.in-Ok-man.manned.1.bound c.args.behind manned.bound c.in-Ok-man.manned.0.book book manned.book c.in-Ok-man.manned.1.order c.args.stood.order manned.order
    before after spares rest counted has begun holds synced new last c.in-Ok-ride.ensures.ok in
    record {
      counted = counted;
      begun = begun;
      begins = c.in-Ok.ensures.begins;
      rides = rides;
      whole = whole_of fits count text c.args.behind before after book spares c.requires.stand.0 new rest last counted has (g.L.Journal.contents c.args.log.now) begun holds synced
          c.in-Ok.ensures.begins.counts.begins c.in-Ok.ensures.holds (rides c.requires.stand.0 c.requires.stand.1);
    }

pub returns-in-Err-ride-clause-fault : goal.returns-in-Err-ride-clause-fault
returns-in-Err-ride-clause-fault g c =
    let begun : Held = record { log = g.L.Journal.contents c.begin_all.new.log; arrivals = g.L.Journal.contents c.begin_all.new.arrivals } in
    let holds : Held = record { log = g.L.Journal.contents c.ride.new.log; arrivals = g.L.Journal.contents c.ride.new.arrivals } in
    let synced : Held = record { log = g.L.Journal.synced c.ride.new.log; arrivals = g.L.Journal.synced c.ride.new.arrivals } in
    let manned = c.in-Ok-man.ensures in
    inr (inr (
      g.W.Write.contents c.begin_all.new.writer,
      begun,
      c.in-Ok.ensures.begins,
      stops_over g.P.Plans.fits_map g.P.Plans.slot_count (log_asker c.args.form) c.in-Ok-man.manned.1.bound c.args.behind manned.bound c.in-Ok-man.manned.0.book c.args.start.book manned.book
          c.in-Ok-man.manned.1.order c.args.stood.order manned.order c.args.lines.now c.ride.new.lines c.args.spares.now.items c.ride.new.spares.items
          (g.W.Write.contents c.begin_all.new.writer) (g.W.Write.contents c.ride.new.writer) begun holds synced c.in-Err-ride.fault (g.L.Journal.failed c.ride.new.log) (g.L.Journal.failed c.ride.new.arrivals)
          c.in-Err-ride.ensures.fault,
    ))

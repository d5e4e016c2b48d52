use Rattle.std.proofs.Common.{ℕ, length}
use Rattle.wh_event.specs.declared.entry.Entry.{Entry}
use Rattle.wh_host.proofs.Turning.{share_more, share_tick, stops_tick, ticks_received, used_ticking}
use Rattle.wh_host.proofs.pacing.tick.Goals as goal

pub returns-then-is_used-clause-err : goal.returns-then-is_used-clause-err
returns-then-is_used-clause-err g c = used_ticking (length g.N.DeskName.cells) c.args.entries c.args.pass.now (c.is_used.ensures.used c.if-is_used.true)

pub returns-in-Ok-clause-ok : goal.returns-in-Ok-clause-ok
returns-in-Ok-clause-ok g c =
    let x : ℕ × Entry = (c.in-Ok.receipt.position, c.in-Ok.receipt.entry) in
    record {
      receipt = x;
      ticks = ticks_received g.P.Plans.fits_map g.P.Plans.slot_count g.N.DeskName.origin.site.grid x c.in-Ok.ensures.ok;
      outcome_is = c.receive.ensures;
    }

pub returns-in-Ok-clause-share : goal.returns-in-Ok-clause-share
returns-in-Ok-clause-share g c =
    let x : ℕ × Entry = (c.in-Ok.receipt.position, c.in-Ok.receipt.entry) in
    let t = ticks_received g.P.Plans.fits_map g.P.Plans.slot_count g.N.DeskName.origin.site.grid x c.in-Ok.ensures.ok in
    share_more c.args.entries x t.gains (c.is_used.ensures.left c.if-is_used.false)

pub returns-clause-err : goal.returns-clause-err
returns-clause-err g c =
    stops_tick g.P.Plans.fits_map g.P.Plans.slot_count g.N.DeskName.origin.site.grid (length g.N.DeskName.cells) c.args.entries c.args.pass.now c.new-spares.result.items c.in-Err.fault c.call.new.pass c.call.new.spares.items c.in-Err.ensures.left

pub returns-clause-share : goal.returns-clause-share
returns-clause-share g c =
    share_tick g.P.Plans.fits_map g.P.Plans.slot_count g.N.DeskName.origin.site.grid (length g.N.DeskName.cells) c.args.entries c.args.pass.now c.new-spares.result.items c.in-Err.fault c.call.new.pass c.call.new.spares.items c.in-Err.ensures.left
    (c.is_used.ensures.left c.if-is_used.false)

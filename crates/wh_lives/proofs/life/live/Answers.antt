use Rattle.std.proofs.Common.{refl}
use Rattle.wh_lives.proofs.Living.{no_deeds, short_over, sound_of, start_of, whole_over}
use Rattle.wh_lives.proofs.life.live.Goals as goal

pub returns-in-Err : goal.returns-in-Err
returns-in-Err g c = (no_deeds c.args.equipment.setting, (c.in-Err.ensures.fault, (refl, refl)))

pub run_on-ran-requires-clause-starts : goal.run_on-ran-requires-clause-starts
run_on-ran-requires-clause-starts g c κs within = start_of _ _ _ _ _ c.in-Ok.ensures.ok c.find_start.ensures.same

pub returns-in-Ok-ran : goal.returns-in-Ok-ran
returns-in-Ok-ran g c =
    whole_over g.P.Plans.fits_map g.P.Plans.slot_count _ c.args.equipment.setting c.args.equipment.slots.items _ c.args.equipment.planners.items c.args.equipment.spares.items c.run_on-ran.new.spares.items _ _ _ _ _ _ _
    c.in-Ok.ensures.ok (sound_of _ _ _ _ c.in-Ok.ensures.ok c.history-history.ensures.opening c.history-history.ensures.run) _ c.find_start.ensures.same c.in-Ok-ran.warehouse.book c.in-Ok-ran.ensures.runs

pub returns-in-Err-ran : goal.returns-in-Err-ran
returns-in-Err-ran g c =
    short_over g.P.Plans.fits_map g.P.Plans.slot_count _ c.args.equipment.setting c.args.equipment.slots.items _ c.args.equipment.planners.items c.args.equipment.spares.items c.run_on-ran.new.spares.items _ _ _ _ _ _ _
    c.in-Ok.ensures.ok (sound_of _ _ _ _ c.in-Ok.ensures.ok c.history-history.ensures.opening c.history-history.ensures.run) _ c.find_start.ensures.same c.in-Err-ran.fault _ c.ended.ensures _ c.in-Err-ran.ensures.fault

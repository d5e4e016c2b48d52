use Rattle.std.proofs.Common.{ap, lit<, subst}
use Rattle.std.proofs.KnownBytes.{Keeps-refl}
use Rattle.wh_grid.specs.Grids.{Floor}
use Rattle.wh_points.specs.Points.{Site}
use Rattle.wh_replay.specs.Fleet.{AllFit}
use Rattle.wh_replay.specs.Scripts.{script_asker}
use Rattle.wh_service.proofs.Playing.{equipped_at, members_fit, answer_by_fleet, answer_fleet, answer_serves, answer_unserved, unequipped, unequipped_fleet}
use Rattle.wh_service.proofs.program.replay.Goals as goal

pub returns-in-Err-equip-clause-fault : goal.returns-in-Err-equip-clause-fault
returns-in-Err-equip-clause-fault g c off = unequipped _ c.args.options.now.fleet c.in-Ok.setting _ _ _ _ _ _ c.in-Ok.ensures.ok c.in-Err-equip.ensures.fault (Keeps-refl _)

pub returns-in-Err-equip-clause-unserved : goal.returns-in-Err-equip-clause-unserved
returns-in-Err-equip-clause-unserved g c = unequipped_fleet _ _ _ _ c.args.options.now.fleet c.in-Ok.setting _ _ _ _ _ _ _ c.in-Ok.ensures.ok c.in-Err-equip.ensures.fault (Keeps-refl _)

pub play-requires-clause-fit : goal.play-requires-clause-fit
play-requires-clause-fit g c κs within =
    let fit = members_fit _ _ _ c.args.options.now.fleet _ c.in-Ok-equip.ensures.ok.bank c.in-Ok-equip.equipped.0.items c.requires.makes c.requires.range c.in-Ok-equip.ensures.ok.planners_are in
    subst (λ (f : Floor). AllFit g.P.Plans.fits_map f c.in-Ok-equip.equipped.0.items) c.shared_grid.ensures fit

pub returns-clause-ok : goal.returns-clause-ok
returns-clause-ok g c off =
    let site : Site = c.in-Ok.setting in
    answer_serves _ _ _ _ _ c.args.options.now.fleet site c.in-Ok-equip.equipped.0.items c.in-Ok-equip.equipped.1.items c.args.options.now.deliver c.args.options.now.tail _ _ _ _ _ c.play.result
    c.in-Ok.ensures.ok (equipped_at c.shared_grid.ensures c.agents-agents.ensures.value c.in-Ok-equip.ensures.ok)
    (lit< tt) (ap script_asker c.form_of-form.ensures) c.requires.makes c.requires.range c.play.ensures.ok off

pub returns-clause-fault : goal.returns-clause-fault
returns-clause-fault g c off =
    let site : Site = c.in-Ok.setting in
    answer_unserved _ _ _ _ _ c.args.options.now.fleet site c.in-Ok-equip.equipped.0.items c.in-Ok-equip.equipped.1.items c.args.options.now.deliver c.args.options.now.tail _ _ _ _ _ c.play.result
    c.in-Ok.ensures.ok (equipped_at c.shared_grid.ensures c.agents-agents.ensures.value c.in-Ok-equip.ensures.ok)
    (lit< tt) (ap script_asker c.form_of-form.ensures) c.requires.makes c.requires.range c.play.ensures.fault off

pub returns-clause-fleet : goal.returns-clause-fleet
returns-clause-fleet g c =
    let site : Site = c.in-Ok.setting in
    answer_fleet _ _ _ _ _ c.args.options.now.fleet site c.in-Ok-equip.equipped.0.items c.in-Ok-equip.equipped.1.items c.args.options.now.deliver c.args.options.now.tail _ _ _ _ _ c.play.result
    c.in-Ok.ensures.ok (equipped_at c.shared_grid.ensures c.agents-agents.ensures.value c.in-Ok-equip.ensures.ok)
    (lit< tt) (ap script_asker c.form_of-form.ensures) c.play.ensures.ok

pub returns-clause-unserved : goal.returns-clause-unserved
returns-clause-unserved g c =
    let site : Site = c.in-Ok.setting in
    answer_by_fleet _ _ _ _ _ c.args.options.now.fleet site c.in-Ok-equip.equipped.0.items c.in-Ok-equip.equipped.1.items c.args.options.now.deliver c.args.options.now.tail _ _ _ _ _ c.play.result
    c.in-Ok.ensures.ok (equipped_at c.shared_grid.ensures c.agents-agents.ensures.value c.in-Ok-equip.ensures.ok)
    (lit< tt) (ap script_asker c.form_of-form.ensures) c.play.ensures.fault

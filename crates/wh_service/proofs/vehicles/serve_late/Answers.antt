use Rattle.std.proofs.Common.{rules, ◌≡◌, false, inl, inr, ap, refl, subst}
use Rattle.std.proofs.KnownBytes.{Keeps-refl}
use Rattle.wh_grid.specs.Grids.{Floor}
use Rattle.wh_points.specs.Points.{Site}
use Rattle.wh_replay.specs.Fleet.{AllFit}
use Rattle.wh_replay.specs.Scripts.{script_asker}
use Rattle.wh_service.proofs.Drove.{answer_late, answer_unserved_late}
use Rattle.wh_service.proofs.Playing.{equipped_at, members_fit}
use Rattle.wh_service.proofs.vehicles.serve_late.Goals as goal

pub play_late-requires-clause-fit : goal.play_late-requires-clause-fit
play_late-requires-clause-fit g c κs within =
    let fit = members_fit _ _ _ c.args.options.now.fleet _ c.in-Ok-equip.ensures.ok.bank c.in-Ok-equip.equipped.0.items c.requires.makes c.requires.range c.in-Ok-equip.ensures.ok.planners_are in
    subst (λ (f : Floor). AllFit g.P.Plans.fits_map f c.in-Ok-equip.equipped.0.items) c.shared_grid.ensures fit

pub returns-in-Err-equip-clause-fault : goal.returns-in-Err-equip-clause-fault
returns-in-Err-equip-clause-fault g c =
    inr (inr (inl (record { site = c.in-Ok.setting; site_read = c.in-Ok.ensures.ok; why = c.in-Err-equip.ensures.fault }, Keeps-refl _)))

pub returns-clause-ok : goal.returns-clause-ok
returns-clause-ok g c =
    let site : Site = c.in-Ok.setting in
    answer_late _ _ _ _ _ c.args.options.now.fleet site c.in-Ok-equip.equipped.0.items c.in-Ok-equip.equipped.1.items c.args.options.now.tail c.args.pace _ _ _ _ _ c.play_late.result
    c.in-Ok.ensures.ok (search rules)
    (equipped_at c.shared_grid.ensures c.agents-agents.ensures.value c.in-Ok-equip.ensures.ok)
    (ap script_asker c.form_of-form.ensures) c.play_late.ensures.ok

pub returns-clause-fault : goal.returns-clause-fault
returns-clause-fault g c =
    let site : Site = c.in-Ok.setting in
    answer_unserved_late _ _ _ _ _ c.args.options.now.fleet site c.in-Ok-equip.equipped.0.items c.in-Ok-equip.equipped.1.items c.args.options.now.tail c.args.pace _ _ _ _ _ c.play_late.result
    c.in-Ok.ensures.ok (search rules)
    (equipped_at c.shared_grid.ensures c.agents-agents.ensures.value c.in-Ok-equip.ensures.ok)
    (ap script_asker c.form_of-form.ensures) c.play_late.ensures.fault

pub returns-then-not-nofollow-clause-fault : goal.returns-then-not-nofollow-clause-fault
returns-then-not-nofollow-clause-fault g c =
    let rule : c.in-Ok.setting.layout.nofollow ≡ false = search rules in
    inr (inl (record { is = refl; site = c.in-Ok.setting; site_read = c.in-Ok.ensures.ok; rule = rule }, Keeps-refl _))

use Rattle.std.proofs.Common.{ap, arith}
use Rattle.wh_lives.proofs.Twice.{lives_twice}
use Rattle.wh_lives.proofs.lives.two_lives.Goals as goal

pub returns : goal.returns
returns g c =
    lives_twice c.told_survives.ensures c.told_survives_behind.ensures g.P.Plans.fits_map g.P.Plans.slot_count _ (omega arith) c.args.first.setting c.args.second.setting c.requires.same c.args.first.slots.items c.requires.equipped.range c.args.first.spares.items
    c.args.second.slots.items c.args.second.spares.items _ _ _ _ (g.G.Journal.contents c.kill-left.result) _ _ (ap g.F.Journal.contents c.new-dying.ensures.file) _ _ _ _ _ _ _ _ c.live-early.result c.live-late.result
    c.live-early.ensures (c.requires.leaves c.live-early.new.file c.kill-left.result c.kill-left.ensures) c.live-late.ensures

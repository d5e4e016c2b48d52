use Rattle.wh_dispatch.proofs.Texts.{on_ok}
use Rattle.wh_dispatch.proofs.SettingOut.{stand_untold, sets_out}
use Rattle.wh_dispatch.proofs.line.set_out.Goals as goal

pub go_on-requires : goal.go_on-requires
go_on-requires g c = record { stand = (stand_untold c.args.warehouse.now.book c.args.vehicles.now c.requires.untold c.requires.stand) }

pub returns-clause-ok : goal.returns-clause-ok
returns-clause-ok g c =
    on_ok c.go_on.result (λ did d in_step.
    let r = did d in_step.represents in
    let t = sets_out c.args.warehouse.now.book c.args.vehicles.now c.requires.untold c.go_on.new.vehicles d r.0 (g.W.Write.contents c.args.writer.now) (g.W.Write.contents c.go_on.new.writer) in_step r.1 r.2 in
    (r.0, t.0, t.1))
    c.go_on.ensures.ok

use Rattle.wh_dispatch.proofs.Texts.{on_ok, if_err}
use Rattle.wh_dispatch.proofs.Serving.{served_as, begun_as, from_report, from_report_some}
use Rattle.wh_dispatch.proofs.Stands.{standing_now}
use Rattle.wh_dispatch.proofs.line.serve.Goals as goal

pub returns-in-Some-clause-ok : goal.returns-in-Some-clause-ok
returns-in-Some-clause-ok g c = on_ok c.hear.result (λ h. served_as g.P.Plans.fits_map g.P.Plans.slot_count c.args.asker c.args.vehicles.now.bound _ _ _ _ _ _ _ _ _ _ c.in-Some.ensures
    (from_report g.P.Plans.fits_map g.P.Plans.slot_count c.args.asker c.args.vehicles.now.bound c.in-Some.report c.args.warehouse.now.book c.args.spares.now.items c.args.vehicles.now (g.W.Write.contents c.args.writer.now) (g.W.Write.contents c.hear.new.writer)
    c.hear.new.vehicles h)) c.hear.ensures.ok

pub returns-in-Some-clause-err : goal.returns-in-Some-clause-err
returns-in-Some-clause-err g c = if_err c.hear.result _ _ (λ fault h. begun_as g.P.Plans.fits_map g.P.Plans.slot_count c.args.asker c.args.vehicles.now.bound _ _ fault _ _ _ _ _ _ _ c.in-Some.ensures
    (from_report_some g.P.Plans.fits_map g.P.Plans.slot_count c.args.asker c.args.vehicles.now.bound c.in-Some.report c.args.warehouse.now.book c.args.spares.now.items c.args.vehicles.now (g.W.Write.contents c.args.writer.now) (g.W.Write.contents c.hear.new.writer)
    fault h)) c.hear.ensures.err

pub returns-in-None-clause-ok : goal.returns-in-None-clause-ok
returns-in-None-clause-ok g c = on_ok c.serve_command.result (λ s. served_as g.P.Plans.fits_map g.P.Plans.slot_count c.args.asker c.args.vehicles.now.bound _ _ _ _ _ _ _ _ _ _ c.in-None.ensures s) c.serve_command.ensures.ok

pub returns-in-None-clause-err : goal.returns-in-None-clause-err
returns-in-None-clause-err g c = if_err c.serve_command.result _ _ (λ fault s. begun_as g.P.Plans.fits_map g.P.Plans.slot_count c.args.asker c.args.vehicles.now.bound _ _ fault _ _ _ _ _ _ _ c.in-None.ensures s) c.serve_command.ensures.err

pub hear-requires : goal.hear-requires
hear-requires g c = record { stand = (standing_now c.args.warehouse.now.book c.args.vehicles.now c.requires.manned) }

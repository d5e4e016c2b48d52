use Rattle.std.proofs.Common.{length}
use Rattle.wh_serve.specs.Texts.{receipt_text}
use Rattle.wh_serve.proofs.Rows.{fared_of}
use Rattle.wh_serve.proofs.Owning.{fared_first}
use Rattle.wh_serve.proofs.client.serve_client.Goals as goal

pub returns-clause-own : goal.returns-clause-own
returns-clause-own g c = λ stale own before came history begins.
    fared_first c.args.may (length g.N.DeskName.cells) g.P.Plans.fits_map g.P.Plans.slot_count g.N.DeskName.origin.site.grid (receipt_text c.args.form g.N.DeskName.origin history) c.args.tag stale own before
    c.args.lines.now c.serve_in.new.lines came c.args.pass.now c.args.spares.now.items c.serve_in.new.pass c.serve_in.new.spares.items
    (g.W.Write.contents c.args.writer.now) (g.W.Write.contents c.serve_in.new.writer) c.serve_in.result
    (fared_of c.args.may (length g.N.DeskName.cells) g.P.Plans.fits_map g.P.Plans.slot_count g.N.DeskName.origin.site.grid (receipt_text c.args.form g.N.DeskName.origin) c.args.tag c.serve_in.result c.args.lines.now c.serve_in.new.lines
    c.args.pass.now c.args.spares.now.items c.serve_in.new.pass c.serve_in.new.spares.items
    (g.W.Write.contents c.args.writer.now) (g.W.Write.contents c.serve_in.new.writer)
    c.serve_in.ensures.ok c.serve_in.ensures.fault history begins)

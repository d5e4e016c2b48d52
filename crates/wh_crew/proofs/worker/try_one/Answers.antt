use Rattle.std.proofs.Common.{length, subst, sym}
use Rattle.wh_event.specs.declared.event.Command.{Command}
use Rattle.wh_crew.specs.Work.{Tried}
use Rattle.wh_crew.proofs.Trying.{tried_as}
use Rattle.wh_crew.proofs.worker.try_one.Goals as goal

pub returns-in-Submit : goal.returns-in-Submit
returns-in-Submit g c =
    tried_as g.P.Plans.fits_map g.P.Plans.slot_count g.N.DeskName.origin.site.grid (length g.N.DeskName.cells) g.N.DeskName.origin c.args.command (Command.Submit c.in-Submit.client c.in-Submit.stops) c.args.pass.now c.submit.new.pass c.args.spares.now.items c.submit.result c.err.result
    c.in-Submit.is c.err.ensures.value c.submit.ensures.ok c.submit.ensures.err tt

pub returns-in-Token : goal.returns-in-Token
returns-in-Token g c =
    tried_as g.P.Plans.fits_map g.P.Plans.slot_count g.N.DeskName.origin.site.grid (length g.N.DeskName.cells) g.N.DeskName.origin c.args.command (Command.Token c.in-Token.agent) c.args.pass.now c.request.new.pass c.args.spares.now.items c.request.result c.err-in-Token.result
    c.in-Token.is c.err-in-Token.ensures.value c.request.ensures.ok c.request.ensures.err tt

pub returns-in-Tick : goal.returns-in-Tick
returns-in-Tick g c =
    tried_as g.P.Plans.fits_map g.P.Plans.slot_count g.N.DeskName.origin.site.grid (length g.N.DeskName.cells) g.N.DeskName.origin c.args.command Command.Tick c.args.pass.now c.tick.new.pass c.args.spares.now.items c.tick.result c.err-in-Tick.result
    c.in-Tick.is c.err-in-Tick.ensures.value c.tick.ensures.ok c.tick.ensures.err tt

pub returns-in-Close : goal.returns-in-Close
returns-in-Close g c =
    tried_as g.P.Plans.fits_map g.P.Plans.slot_count g.N.DeskName.origin.site.grid (length g.N.DeskName.cells) g.N.DeskName.origin c.args.command Command.Close c.args.pass.now c.close.new.pass c.args.spares.now.items c.close.result c.err-in-Close.result
    c.in-Close.is c.err-in-Close.ensures.value c.close.ensures.ok c.close.ensures.err tt

pub returns-in-Replace : goal.returns-in-Replace
returns-in-Replace g c =
    subst (λ (k : Command). Tried g.P.Plans.fits_map g.P.Plans.slot_count g.N.DeskName.origin.site.grid (length g.N.DeskName.cells) k c.args.pass.now c.args.spares.now.items c.lend.result c.lend.new.pass c.lend.new.spares.items) (sym c.in-Replace.is) c.lend.ensures

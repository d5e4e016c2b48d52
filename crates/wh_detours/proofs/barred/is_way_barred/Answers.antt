use Rattle.std.proofs.Common.{Option, Some, sym, subst}
use Rattle.wh_grid.specs.declared.cell.Cell.{Cell}
use Rattle.wh_field.specs.declared.sight.Sight.{Sight}
use Rattle.wh_search.specs.Sights.{IsSightAt}
use Rattle.wh_detours.specs.Barred.{IsShut, IsClearWithin, IsClearBy}
use Rattle.wh_detours.proofs.barred.is_way_barred.Goals as goal

pub returns-in-Some-clause-shut : goal.returns-in-Some-clause-shut
returns-in-Some-clause-shut c = λ yes.
    let g = c.args.grid.now in
    let o = c.args.others.now in
    let there : IsSightAt g (Some c.in-Some.sight) c.args.stop = subst (λ (x : Option Sight). IsSightAt g x c.args.stop) c.in-Some.is c.requires in
    subst (λ (d : Cell). IsShut g o c.args.loc c.args.from d) there.1 (c.is_leg_barred.ensures.shut yes)

pub returns-in-Some-clause-clear : goal.returns-in-Some-clause-clear
returns-in-Some-clause-clear c = λ no.
    let g = c.args.grid.now in
    let o = c.args.others.now in
    let s = c.in-Some.sight in
    let there : IsSightAt g (Some s) c.args.stop = subst (λ (x : Option Sight). IsSightAt g x c.args.stop) c.in-Some.is c.requires in
    subst (λ (x : Option Sight). IsClearBy g o c.args.loc c.args.from c.args.stop x) (sym c.in-Some.is)
    (subst (λ (d : Cell). IsClearWithin g o c.args.loc c.args.from d s.level) there.1 (c.is_leg_barred.ensures.clear no))

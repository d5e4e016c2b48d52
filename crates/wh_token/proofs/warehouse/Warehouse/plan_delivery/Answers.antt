use Rattle.std.proofs.Common.{◌≡◌, ◌<◌, length, ap}
use Rattle.wh_token.proofs.Duties.{path-next, no_path-next}
use Rattle.wh_planner.specs.declared.planner.PlanFault.{PlanFault}
use Rattle.wh_token.specs.Houses.{House}
use Rattle.wh_token.proofs.Fleet.{tied-read}
use Rattle.wh_token.proofs.Seats.{others_asked}
use Rattle.wh_token.proofs.Furnished.{furnished-asked}
use Rattle.wh_token.proofs.warehouse.Warehouse.plan_delivery.Goals as goal

pub plan-requires-clause-fits : goal.plan-requires-clause-fits
plan-requires-clause-fits g c =
    let self = c.self.inside in
    let same_book : self.book ≡ c.args.self.now.book = ap (λ (h : House g.row.P.Denot). h.book) c.self.view_is in
    let there : c.args.agent < length self.planners.items = rw (c.self.invariant.seats, same_book) c.requires.due.known.known in
    rw (c.grid.ensures, c.setting.ensures) (tied-read _ _ self.book.site.grid self.planners.items self.book.state.slots c.args.agent c.index_mut.result.now there
    c.index_mut.ensures.value c.self.invariant.tied)

pub invariant_of-self : goal.invariant_of-self
invariant_of-self g c =
    let self = c.self.inside in
    let same_book : self.book ≡ c.args.self.now.book = ap (λ (h : House g.row.P.Denot). h.book) c.self.view_is in
    furnished-asked _ _ self.book self.planners.items self.near _ _ c.args.agent c.index_mut.result.now c.plan.new.self (rw same_book c.requires.due.known.known)
    c.index_mut.ensures.value c.plan.ensures.fits_stays c.plan.ensures.slots_stay c.plan.ensures.stored_stays c.self.invariant

pub returns-clause-others : goal.returns-clause-others
returns-clause-others g c =
    others_asked c.args.agent _ c.self.inside.planners.items c.plan.new.self (ap (λ (h : House g.row.P.Denot). h.planners) c.self.view_is)

pub plan-requires-clause-walk : goal.plan-requires-clause-walk
plan-requires-clause-walk g c =
    let self = c.self.inside in
    let same_book : self.book ≡ c.args.self.now.book = ap (λ (h : House g.row.P.Denot). h.book) c.self.view_is in
    rw (c.grid.ensures, c.setting.ensures, c.timetable.ensures.value) (c.timetable.ensures.walks c.args.agent (rw same_book c.requires.due.known.known))

pub returns-clause-no_path : goal.returns-clause-no_path
returns-clause-no_path g c =
    let same_book : c.self.inside.book ≡ c.args.self.now.book = ap (λ (h : House g.row.P.Denot). h.book) c.self.view_is in
    let book = c.args.self.now.book in
    no_path-next c.plan.result PlanFault.NoPath book.site book.state c.args.agent c.args.task c.tour-tour.result.items c.requires.next (rw same_book at c.tour-tour.ensures.same)
    (rw (c.grid.ensures, c.setting.ensures, c.timetable.ensures.value, c.as_slice.ensures.value, same_book) at c.plan.ensures.no_path)

pub returns-clause-lawful : goal.returns-clause-lawful
returns-clause-lawful g c =
    let same_book : c.self.inside.book ≡ c.args.self.now.book = ap (λ (h : House g.row.P.Denot). h.book) c.self.view_is in
    let book = c.args.self.now.book in
    path-next c.plan.result book.site book.state c.args.agent c.args.task c.tour-tour.result.items c.requires.next (rw same_book at c.tour-tour.ensures.same)
    (rw (c.grid.ensures, c.nofollow.ensures, c.setting.ensures, c.setting-2.ensures, c.timetable.ensures.value, c.as_slice.ensures.value, same_book) at c.plan.ensures.lawful)

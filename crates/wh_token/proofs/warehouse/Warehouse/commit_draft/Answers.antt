use Rattle.std.proofs.Common.{◌≡◌, ◌∙◌, ap, sym, subst}
use Rattle.wh_token.specs.Houses.{House}
use Rattle.wh_token.specs.Fleet.{IsTied}
use Rattle.wh_grid.specs.Grids.{Floor}
use Rattle.wh_points.specs.Points.{Site}
use Rattle.wh_token.proofs.Fleet.{tied-step}
use Rattle.wh_token.proofs.warehouse.Warehouse.commit_draft.Goals as goal

-- The planners stay tied, also where the one handed in takes a seat.
pub invariant_of-self : goal.invariant_of-self
invariant_of-self g c =
    let old = c.self.inside in
    let new = c.commit.new.self in
    let entry = c.args.draft.entry in
    let same_book : old.book ≡ c.args.self.now.book = ap (λ (h : House g.row.P.Denot). h.book) c.self.view_is in
    let step = c.commit.ensures.step in
    let grid : old.book.site.grid ≡ new.site.grid = ap (λ (s : Site). s.grid) (sym c.commit.ensures.site) in
    let swaps = rw c.replaced-agent.ensures at c.swap.ensures.swaps in
    let tied = tied-step g.P.Plans.fits_map g.P.Plans.slot_count old.book.site old.book.state entry.reply entry.event new.state
    old.planners.items c.args.spare c.swap.new.planners.items c.swap.result
    c.self.invariant.seats step (rw same_book c.requires.tells) swaps c.self.invariant.tied in
    record {
      seats = c.swap.ensures.len ∙ c.self.invariant.seats ∙ sym c.commit.ensures.seats;
      tied = subst (λ (f : Floor). IsTied g.P.Plans.fits_map g.P.Plans.slot_count f c.swap.new.planners.items new.state.slots) grid tied;
      over = c.self.invariant.over ∙ grid;
      lent = c.self.invariant.lent ∙ grid;
    }

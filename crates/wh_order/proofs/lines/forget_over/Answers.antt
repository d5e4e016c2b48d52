use Rattle.std.proofs.Common.{◌≡◌, ◌∙◌, List, Option, Some, None, Bool, true, false, cond, not, nat_lt, rules, refl, ap}
use Rattle.std.proofs.lemmas.Map.Entries.{lookup-filter-values, option_filter}
use Rattle.std.proofs.lemmas.Map.Made.{filter_same_pairs}
use Rattle.wh_grid.specs.declared.cell.Cell.{Cell}
use Rattle.wh_drive.specs.declared.vehicle.Vehicle.{Vehicle}
use Rattle.wh_order.specs.declared.visit.Visit.{Visit}
use Rattle.wh_order.specs.Orders.{latest_at, reached_of, unless_over}
use Rattle.wh_grid.proofs.Cells.{is_cell_equiv}
use Rattle.wh_order.proofs.lines.forget_over.Goals as goal

turned : {X : Type 0} (b : Bool) (x y : X) → cond (not b) x y ≡ cond b y x
turned true x y = refl
turned false x y = refl

left : (vehicles : List Vehicle) (v : Option Visit) → option_filter (λ w. not (nat_lt w.time (reached_of vehicles w.agent))) v ≡ unless_over vehicles v
left vehicles None = refl
left vehicles (Some v) = turned (nat_lt v.time (reached_of vehicles v.agent)) (Some v) None

pub returns : goal.returns
returns c =
    let vehicles = c.args.vehicles.now in
    let kept : Visit → Bool = λ v. not (nat_lt v.time (reached_of vehicles v.agent)) in
    let es = c.args.latest.now.entries in
    let is = filter_same_pairs _ (λ p. kept p.1) _ (λ k v b w f' t. search rules) _ _ c.retain.ensures.filtered in
    λ cell. ap (λ (l : List (Cell × Visit)). latest_at l cell) is ∙ lookup-filter-values is_cell_equiv kept cell es c.len-entries.ensures.unique ∙ left vehicles (latest_at es cell)

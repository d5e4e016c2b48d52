use Rattle.std.proofs.Common.{◌≢◌, ℕ, ◌≤◌, ◌↔◌, List, subst}
use Rattle.wh_grid.specs.declared.cell.Cell.{Cell}
use Rattle.wh_timetable.specs.declared.stay.Stay.{Stay}
use Rattle.wh_timetable.specs.Stays.{IsThere}
use Rattle.wh_timetable.proofs.StayLemmas.{left_others, left_gone}
use Rattle.wh_timetable.proofs.place_stays.PlaceStays.leave.Goals as goal

pub returns-clause-others : goal.returns-clause-others
returns-clause-others c =
    let new = c.keep_others.new.list.items in
    subst (λ (old : List Stay). (i : ℕ) (d : Cell) (t : ℕ) → c.args.now ≤ t → i ≢ c.args.agent → IsThere new i d t ↔ IsThere old i d t) c.self.view_is
    (left_others c.args.agent c.args.now c.self.inside.list.items new c.keep_others.ensures)

pub returns-clause-gone : goal.returns-clause-gone
returns-clause-gone c = left_gone c.args.agent c.args.now c.self.inside.list.items c.keep_others.new.list.items c.keep_others.ensures

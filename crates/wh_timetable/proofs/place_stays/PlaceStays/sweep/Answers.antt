use Rattle.std.proofs.Common.{ℕ, ◌≤◌, ◌↔◌, ◌∙◌, List, subst}
use Rattle.wh_grid.specs.declared.cell.Cell.{Cell}
use Rattle.wh_timetable.specs.declared.stay.Stay.{Stay}
use Rattle.wh_timetable.specs.Stays.{IsThere}
use Rattle.wh_timetable.proofs.StayLemmas.{swept}
use Rattle.wh_timetable.proofs.place_stays.PlaceStays.sweep.Goals as goal

pub returns : goal.returns
returns c =
    let new = c.give_back.new.list.items in
    subst (λ (old : List Stay). (i : ℕ) (d : Cell) (t : ℕ) → c.args.now ≤ t → IsThere new i d t ↔ IsThere old i d t) c.self.view_is
    (swept c.args.now c.self.inside.list.items new (c.give_back.ensures ∙ c.keep_later.ensures))

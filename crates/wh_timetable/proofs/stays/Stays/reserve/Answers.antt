use Rattle.std.proofs.Common.{List, sym, subst, ◌∙◌}
use Rattle.std.proofs.lemmas.List.{with_items_is}
use Rattle.wh_timetable.specs.declared.stay.Stay.{Stay}
use Rattle.wh_timetable.specs.Places.{AreSame}
use Rattle.wh_timetable.specs.Timetables.{Noted, IsTold}
use Rattle.wh_timetable.proofs.ToldLemmas.{told_same}
use Rattle.wh_timetable.proofs.stays.Stays.reserve.Goals as goal

pub returns : goal.returns
returns c = λ paths told.
    let s = c.self.inside in
    let new = c.make_room.new.places in
    let items = with_items_is s.places new (c.make_room.auto.places ∙ c.deref_mut.ensures.len) in
    let same : AreSame s.clock s.places.items new = subst (λ (places : List (List Stay)). AreSame s.clock places new) c.deref_mut.ensures.value c.make_room.ensures in
    subst (λ (places : List (List Stay)). IsTold (record { clock = s.clock; places = places }) paths) (sym items)
    (told_same s.clock s.places.items new same paths (subst (λ (n : Noted). IsTold n paths) (sym c.self.view_is) told))

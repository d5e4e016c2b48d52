use Rattle.std.proofs.Common.{◌≡◌, ◌∙◌, List, Bool, false, length, replicate, map, nat_eq, ap, arith}
use Rattle.std.proofs.lemmas.List.{with_items_is}
use Rattle.wh_field.specs.Fields.{Seeking}
use Rattle.wh_field.specs.Lazy.{nowhere}
use Rattle.wh_field.specs.Places.{places}
use Rattle.wh_field.proofs.Sought.{none_marked}
use Rattle.wh_field.proofs.lazy.LazyField.seek_none.Goals as goal

pub returns : goal.returns
returns c =
    let f = c.self.inside in
    let i = c.self.invariant in
    let g = f.grid.value in
    let next = c.next_mark-self-inside in
    let marks = next.new.marks in
    let same = next.auto.marks in
    let len = c.deref_mut.ensures.len in
    let items = with_items_is f.marks marks (omega arith) in
    let value = c.deref_mut.ensures.value in
    let size : length marks ≡ places g = same ∙ ap length value ∙ i.marked in
    let none = ap (λ ms. map (λ m. nat_eq m next.result) ms) items ∙ none_marked marks next.result next.ensures.later ∙ ap (λ n. replicate n false) size in
    ap (λ (bs : List Bool). let s : Seeking = record { grid = g; cell = f.source; sought = bs } in s) none
    ∙ ap (λ (s : Seeking). let r : Seeking = record s { sought = nowhere s.grid } in r) c.self.view_is

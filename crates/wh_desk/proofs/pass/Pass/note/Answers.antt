use Rattle.std.proofs.Common.{arith, ap, sym, ◌∙◌, ◌≡◌, length, Some, slice_get}
use Rattle.std.proofs.lemmas.Option.{slice_get_read, slice_get-map}
use Rattle.std.proofs.lemmas.List.{length-map}
use Rattle.std.specs.Option.{option_map}
use Rattle.wh_desk.specs.Kept.{pair_of, NoteKnows}
use Rattle.wh_desk.proofs.pass.Pass.note.Goals as goal

pub returns-clause-note : goal.returns-clause-note
returns-clause-note g c =
    let held = c.self.inside.held.items in
    let at = c.args.at in
    let x = c.index_mut.result.now in
    let is : slice_get held at ≡ Some x = slice_get_read held (length held) at x (omega arith) (omega (arith, ap (λ v. length v.list) c.self.view_is, length-map held pair_of, c.requires)) c.index_mut.ensures.value in
    let knows : NoteKnows g.N.DeskName.cells x = c.self.invariant.notes at x is in
    let again = c.again.ensures.1 in
    record {
      position = x.position.value;
      entry = x.entry.value;
      held = ap (λ v. slice_get v.list at) (sym c.self.view_is) ∙ slice_get-map pair_of held at ∙ ap (option_map pair_of) is;
      cell = knows.cell ∙ ap (λ n. Some n.cell) (sym again);
      known = ap (λ n. n.known) again ∙ knows.known;
    }

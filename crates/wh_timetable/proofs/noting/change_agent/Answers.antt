use Rattle.std.proofs.Common.{◌≡◌, ℕ, ◌+◌, ◌<◌, ◌≤◌, List, [], length, subst, ◌∙◌}
use Rattle.std.proofs.lemmas.List.{get_or_read}
use Rattle.wh_grid.specs.declared.cell.Cell.{Cell}
use Rattle.wh_path.specs.Paths.{path_of, cell_at, last_index}
use Rattle.wh_timetable.specs.Stays.{endless, IsThere}
use Rattle.wh_timetable.specs.Places.{stays_for, IsLeft, IsNoted}
use Rattle.wh_timetable.proofs.ToldLemmas.{told_changed}
use Rattle.wh_timetable.proofs.noting.change_agent.Goals as goal

pub returns : goal.returns
returns c = λ done.
    let paths = c.args.paths.now in
    let agent = c.args.agent in
    let number = c.in-Ok.number in
    let clock = c.args.clock in
    let left = c.leave_all.new.places in
    let own = path_of paths agent in
    let same : number ≡ agent = c.in-Ok.ensures.1 in
    let before : c.cells.result.now ≡ own = c.cells.ensures.value ∙ get_or_read paths agent c.index-paths-agent.result c.requires.known c.index-paths-agent.is [] in
    let some : 1 ≤ length own = subst (λ (p : List Cell). 1 ≤ length p) before c.cells.ensures.some in
    let parts : IsLeft agent clock c.args.places.now left = subst (λ n. IsLeft n clock c.args.places.now left) same c.leave_all.ensures.left in
    let gone : (k t : ℕ) → k < length own → clock ≤ t → IsThere (stays_for left (cell_at own k)) agent (cell_at own k) t → ⊥ =
    subst (λ (p : List Cell). (k t : ℕ) → k < length p → clock ≤ t → IsThere (stays_for left (cell_at p k)) agent (cell_at p k) t → ⊥) before
    (subst (λ n. (k t : ℕ) → k < length c.cells.result.now → clock ≤ t → IsThere (stays_for left (cell_at c.cells.result.now k)) n (cell_at c.cells.result.now k) t → ⊥) same c.leave_all.ensures.gone) in
    let noted = subst (λ n. IsNoted c.args.path.now n clock endless left c.note_all.new.places) same
    (subst (λ (p : List Cell). IsNoted p number clock endless left c.note_all.new.places) c.cells-2.ensures.value (c.note_all.ensures.noted done)) in
    let short = subst (λ (p : List Cell). clock + last_index p < endless) c.cells-2.ensures.value (c.note_all.ensures.short done) in
    told_changed clock paths c.args.places.now c.requires.told agent c.args.path.now short c.requires.known some left parts gone c.note_all.new.places noted

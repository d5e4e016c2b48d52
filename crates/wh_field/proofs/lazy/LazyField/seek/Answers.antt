use Rattle.std.proofs.Common.{◌≡◌, ◌∙◌, ℕ, ◌+◌, ◌*◌, ◌<◌, ◌⊎◌, ◌↔◌, IsTrue, set, ap, subst, arith}
use Rattle.wh_field.specs.Fields.{Seeking}
use Rattle.wh_field.specs.Lazy.{is_sought}
use Rattle.wh_field.specs.Places.{place}
use Rattle.wh_field.proofs.Places.{row_ends}
use Rattle.wh_field.proofs.Sought.{sought_one, marked_field}
use Rattle.wh_field.proofs.lazy.LazyField.seek.Goals as goal

pub returns-in-Some-clause-sought : goal.returns-in-Some-clause-sought
returns-in-Some-clause-sought c = λ other.
    let f = c.self.inside in
    let i = c.self.invariant in
    let g = f.grid.value in
    let cell = c.args.cell in
    let v = i.width in
    let h = i.height in
    let e = c.in-Some.ensures.inside in
    let wx = e.0 in
    let wy = e.1 in
    let here : c.in-Some.place ≡ place g cell = e.2 ∙ ap (λ (w : ℕ). (cell.y + 1) * (w + 1) + cell.x) v in
    let ends = row_ends g cell (omega arith) (omega arith) in
    let size = i.marked in
    let now : Seeking = marked_field g f.source (set f.marks.items c.in-Some.place f.mark) f.mark in
    let P : Seeking → Type 0 = λ s. IsTrue (is_sought now other) ↔ (IsTrue (is_sought s other) ⊎ ((other ≡ cell) × (other.x < s.grid.width) × (other.y < s.grid.height))) in
    subst P c.self.view_is (sought_one g f.source f.marks.items f.mark cell c.in-Some.place i.positive (omega arith) (omega arith) (omega arith) here other)

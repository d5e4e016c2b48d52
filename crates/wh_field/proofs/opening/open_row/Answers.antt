use Rattle.std.proofs.Common.{◌≡◌, ℕ, ◌+◌, ◌*◌, ◌∙◌, inl, inr, List, [], Bool, true, false, get_or, sym, refl, subst, arith}
use Rattle.std.proofs.lemmas.Option.{get_or_from_slice_get}
use Rattle.wh_grid.specs.declared.cell.Cell.{Cell}
use Rattle.wh_field.specs.Places.{IsOpenBelow}
use Rattle.wh_field.proofs.Places.{open_next, none_beside, next_row, entry_open, entry_blocked, true_there}
use Rattle.wh_field.proofs.opening.open_row.Goals as goal
use Rattle.wh_field.proofs.opening.open_row.Goals.{then-cells-before, else-cells-before}

pub loop-x-preserved : goal.loop-x-preserved
loop-x-preserved c =
    let g = c.args.grid.now in
    let cell : Cell = record { x = c.loop-x.x; y = c.args.y } in
    let n = (c.args.y + 1) * (g.width + 1) + c.loop-x.x in
    let m = (c.args.y + 1) * (g.width + 1) + (c.loop-x.x + 1) in
    let wide = c.width-width.ensures.value in
    let inside = c.loop-x-test.true in
    let low = c.requires.inside in
    let there : (d : Bool) → get_or c.rows-cells.result.now (c.args.y * c.width-width.result + c.loop-x.x) d ≡ get_or g.walkable (c.args.y * g.width + c.loop-x.x) d = λ d. rw (c.rows-cells.ensures.rows, wide) refl in
    let O : List ℕ → Type 0 = λ t. IsOpenBelow g m t in
    record {
      open_so_far = subst O (sym c.push_reserved.ensures.items) (open_next g n m c.loop-x.table.items c.if-cells-before.push_reserved c.loop-x.invariant.open_so_far (omega arith)
          (elim c.if-cells-before.branch [
            | then-cells-before w ↦ inr (w.push_reserved-is, entry_open g cell n refl (record { in_width = omega arith; in_height = low; is_walkable = true_there g.walkable (c.args.y * g.width + c.loop-x.x) (sym (there false) ∙ w.if-cells-before.true) }))
            | else-cells-before w ↦ inl (w.push_reserved-is, entry_blocked g cell n refl (omega arith) (λ p. let set = get_or_from_slice_get g.walkable (c.args.y * g.width + c.loop-x.x) true false p.is_walkable in let not = w.if-cells-before.false in let same = there false in cc))
          ]));
      room = c.push_reserved.ensures.capacity ∙ c.loop-x.invariant.room;
    }

pub returns-clause-open : goal.returns-clause-open
returns-clause-open c =
    let g = c.args.grid.now in
    let n = (c.args.y + 1) * (g.width + 1) + c.loop-x.x in
    let m = (c.args.y + 1 + 1) * (g.width + 1) in
    let wide = c.width-width.ensures.value in
    let past = c.loop-x-test.false in
    let most = c.loop-x.auto.x-end in
    let all : c.loop-x.x ≡ g.width = omega arith in
    let O : List ℕ → Type 0 = λ t. IsOpenBelow g m t in
    subst O (sym c.push_reserved-2.ensures.items) (open_next g n m c.loop-x.table.items 4294967294 c.loop-x.invariant.open_so_far (omega (arith, next_row c.args.y (g.width + 1))) (inl (refl, none_beside g [] c.args.y n (omega arith))))

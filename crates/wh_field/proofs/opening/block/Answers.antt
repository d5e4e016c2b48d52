use Rattle.std.proofs.Common.{◌≡◌, ℕ, ◌+◌, ◌*◌, List, [], ◌∷◌, ◌++◌, get_or, take, ◌∙◌, sym, ap, subst, arith}
use Rattle.std.proofs.lemmas.List.{take_more}
use Rattle.wh_grid.specs.declared.cell.Cell.{Cell}
use Rattle.wh_field.specs.Places.{IsOpen, place}
use Rattle.wh_field.proofs.Starts.{block_one, block_none}
use Rattle.wh_field.proofs.opening.block.Goals as goal
use Rattle.wh_field.proofs.opening.block.Goals.{in-Some, in_default}

pub loop-cell-preserved : goal.loop-cell-preserved
loop-cell-preserved c =
    let g = c.args.grid.now in
    let l = c.loop-cell in
    let cell : Cell = get_or c.args.avoid.now l.cell-index (record { x = 0; y = 0 }) in
    let before : List Cell = take l.cell-index c.args.avoid.now in
    let more : take (l.cell-index + 1) c.args.avoid.now ≡ before ++ cell ∷ [] = take_more c.args.avoid.now l.cell-index (record { x = 0; y = 0 }) c.loop-cell-test.true in
    let P : List Cell → Type 0 = λ xs. IsOpen g xs c.match-place_of.table in
    let Q : List ℕ → Type 0 = λ t. IsOpen g (before ++ cell ∷ []) t in
    subst P (sym more) (elim c.match-place_of.branch [
      | in-Some w ↦ (let e = w.in-Some.ensures.inside in
          let here : w.in-Some.place ≡ place g cell = e.2 ∙ ap (λ (n : ℕ). (cell.y + 1) * (n + 1) + cell.x) c.width-width.ensures.value in
          let v = c.width-width.ensures.value in
          let h = c.height-height.ensures.value in
          let a = e.0 in
          let b = e.1 in
          subst Q (sym w.table-is) (block_one g before l.table cell w.in-Some.place (omega arith) (omega arith) here l.invariant))
      | in_default w ↦ subst Q (sym w.table-is) (block_none g before l.table cell (λ p. w.in_default.ensures.outside (let v = c.width-width.ensures.value in let h = c.height-height.ensures.value in let a = p.0 in let b = p.1 in (omega arith, omega arith))) l.invariant)
    ])

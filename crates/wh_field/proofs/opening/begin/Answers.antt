use Rattle.std.proofs.Common.{◌≡◌, ℕ, ◌+◌, ◌*◌, List, [], ◌∷◌, ◌++◌, length, get_or, take, ◌∙◌, sym, ap, subst, arith}
use Rattle.std.proofs.lemmas.List.{take_more}
use Rattle.wh_grid.specs.declared.cell.Cell.{Cell}
use Rattle.wh_field.specs.Places.{IsStarted}
use Rattle.wh_field.proofs.Starts.{start_none, started_ground, ground_walls}
use Rattle.wh_field.proofs.opening.begin.Goals as goal

pub loop-source-init : goal.loop-source-init
loop-source-init c =
    let g = c.args.grid.now in
    let avoid = c.args.avoid.now in
    let P : List ℕ → Type 0 = λ xs. IsStarted g avoid [] c.block.new.table xs in
    let none = start_none g avoid c.block.new.table c.block.ensures in
    let few = none.room in
    let empty = ap length c.requires.empty in
    (subst P (sym c.requires.empty) none, record { room = omega arith })

pub loop-source-preserved : goal.loop-source-preserved
loop-source-preserved c =
    let g = c.args.grid.now in
    let avoid = c.args.avoid.now in
    let l = c.loop-source in
    let cell : Cell = get_or c.args.sources.now l.source-index (record { x = 0; y = 0 }) in
    let before : List Cell = take l.source-index c.args.sources.now in
    let more : take (l.source-index + 1) c.args.sources.now ≡ before ++ cell ∷ [] = take_more c.args.sources.now l.source-index (record { x = 0; y = 0 }) c.loop-source-test.true in
    let P : List Cell → Type 0 = λ xs. IsStarted g avoid xs c.start.new.table c.start.new.queue.items in (
      subst P (sym more) (c.start.ensures.started g avoid before (sym c.width-width.ensures.value) (sym c.height-height.ensures.value) l.invariant.0),
      c.start.ensures.room,
    )

pub start-requires-clause-few : goal.start-requires-clause-few
start-requires-clause-few c =
    let g = c.args.grid.now in
    let l = c.loop-source in
    let v = c.width-width.ensures in
    let h = c.height-height.ensures in
    let a = v.value in
    let b = v.bound in
    let d = h.value in
    let e = h.bound in
    let before = take l.source-index c.args.sources.now in
    (ground_walls g c.args.avoid.now before l.table (omega arith) (omega arith) (started_ground g c.args.avoid.now before l.table l.queue.items l.invariant.0)).few

pub start-requires-clause-size : goal.start-requires-clause-size
start-requires-clause-size c =
    let v = c.width-width.ensures.value in
    let h = c.height-height.ensures.value in
    c.loop-source.invariant.0.size ∙ ap (λ (w : ℕ). (w + 1) * (c.args.grid.now.height + 2)) (sym v) ∙ ap (λ (k : ℕ). (c.width-width.result + 1) * (k + 2)) (sym h)

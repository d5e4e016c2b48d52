use Rattle.std.proofs.Common.{◌≡◌, ℕ, ◌+◌, ◌-◌, ◌∙◌, List, [], ◌∷◌, ◌++◌, ap, sym, subst, arith}
use Rattle.wh_grid.specs.declared.cell.Cell.{Cell}
use Rattle.wh_field.specs.Places.{IsDescent}
use Rattle.wh_field.proofs.Descents.{descent_start, descent_step, descent_end}
use Rattle.wh_field.proofs.routes.walk_down.Goals as goal

pub loop-k-init : goal.loop-k-init
loop-k-init c =
    let g = c.args.grid.now in
    let t = c.args.table.now in
    let from = c.args.from in
    let one : c.push.new.self.items ≡ from ∷ [] = c.in_ok-push.ensures.items ∙ ap (λ xs. xs ++ from ∷ []) c.in_ok-cells.ensures.items in
    let P : List Cell → Type 0 = λ xs. IsDescent g c.args.avoid.now t from from 0 (c.args.steps - 0) xs in
    subst P (sym one) (descent_start g c.args.avoid.now t from (c.args.steps - 0) c.requires.allowed (let e = c.requires.steps in omega arith))

pub loop-k-preserved : goal.loop-k-preserved
loop-k-preserved c =
    let g = c.args.grid.now in
    let t = c.args.table.now in
    let l = c.loop-k in
    let next = c.nearer-cell.result in
    let left = c.args.steps - (l.k + 1) in
    let P : List Cell → Type 0 = λ xs. IsDescent g c.args.avoid.now t c.args.from next (l.k + 1) left xs in
    let Q : ℕ → Type 0 = λ n. IsDescent g c.args.avoid.now t c.args.from next (l.k + 1) n (l.cells.items ++ next ∷ []) in
    subst P (sym c.in_ok-push-2.ensures.items)
    (subst Q (let e : c.args.steps - l.k - 1 ≡ left = omega arith in e)
    (descent_step g c.args.avoid.now t c.args.from l.cell next l.k (c.args.steps - l.k) (c.args.steps - l.k - 1) l.cells.items l.invariant c.nearer-cell.ensures))

pub returns : goal.returns
returns c =
    let g = c.args.grid.now in
    let t = c.args.table.now in
    let l = c.loop-k in
    let at_k : ℕ → Type 0 = λ k. IsDescent g c.args.avoid.now t c.args.from l.cell k 0 l.cells.items in
    let at_left : ℕ → Type 0 = λ n. IsDescent g c.args.avoid.now t c.args.from l.cell l.k n l.cells.items in
    let at_cell : Cell → Type 0 = λ d. IsDescent g c.args.avoid.now t c.args.from d c.args.steps 0 l.cells.items in
    let at_path : List Cell → Type 0 = λ xs. IsDescent g c.args.avoid.now t c.args.from c.args.to c.args.steps 0 xs in
    let done : IsDescent g c.args.avoid.now t c.args.from l.cell l.k 0 l.cells.items = subst at_left (let e : c.args.steps - l.k ≡ 0 = omega arith in e) l.invariant in
    subst at_path (sym c.over.ensures)
    (subst at_cell (descent_end g c.args.avoid.now t c.args.from c.args.to l.cell l.k l.cells.items c.requires.surveyed done)
    (subst at_k (let e : l.k ≡ c.args.steps = omega arith in e) done))

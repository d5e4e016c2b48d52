use Rattle.std.proofs.Common.{◌≡◌, ℕ, ◌+◌, List, [], ◌∷◌, ◌++◌, get_or, set, take, sym, subst, arith}
use Rattle.std.proofs.lemmas.List.{take_more}
use Rattle.wh_field.specs.Tables.{unseen, IsForgotten}
use Rattle.wh_field.proofs.Forgets.{forgotten_none, forgotten_one, numbered_inside}
use Rattle.wh_field.proofs.table.forget.Goals as goal

pub loop-place-init : goal.loop-place-init
loop-place-init c = forgotten_none c.args.table.now

pub bounds-table-place : goal.bounds-table-place
bounds-table-place c =
    let l = c.loop-place in
    let place = get_or c.args.places.now l.place-index 0 in
    let size = l.invariant.size in
    let low = numbered_inside c.args.table.now place (c.requires l.place-index 0 c.loop-place-test.true) in
    omega arith

pub loop-place-preserved : goal.loop-place-preserved
loop-place-preserved c =
    let old = c.args.table.now in
    let l = c.loop-place in
    let done = take l.place-index c.args.places.now in
    let place = get_or c.args.places.now l.place-index 0 in
    let more : take (l.place-index + 1) c.args.places.now ≡ done ++ place ∷ [] = take_more c.args.places.now l.place-index 0 c.loop-place-test.true in
    let P : List ℕ → Type 0 = λ xs. IsForgotten old xs (set l.table place unseen) in
    subst P (sym more) (forgotten_one old done l.table place (c.requires l.place-index 0 c.loop-place-test.true) l.invariant)

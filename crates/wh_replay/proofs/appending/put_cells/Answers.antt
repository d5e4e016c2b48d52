use Rattle.std.proofs.Common.{◌≡◌, ◌<◌, ◌∷◌, ◌++◌, ℕ, List, length, subst, arith, ◌∙◌}
use Rattle.wh_log.specs.Spelling.{cell_word}
use Rattle.wh_replay.specs.Appending.{Moves, FailsAt}
use Rattle.wh_replay.proofs.Appended.{moves_nil, cell_waits, cell_fails}
use Rattle.wh_replay.proofs.appending.put_cells.Goals as goal

pub loop-k-init : goal.loop-k-init
loop-k-init g c =
    moves_nil g.K.Keeper.is_safe g.K.Keeper.adds g.K.Keeper.leaves g.met.K.Keeper.adds_none g.met.K.Keeper.adds_both (g.K.Keeper.holds c.args.keeper.now) c.args.waiting.now.items

pub returns-in-Err-clause-err : goal.returns-in-Err-clause-err
returns-in-Err-clause-err g c =
    let below : c.loop-k.k < length c.args.path.now = omega (arith, c.loop-k-test.true, c.remaining-k-end.ensures.value, c.remaining-k-end.ensures.some) in
    let piece : c.as_slice.result.now ≡ 32 ∷ cell_word c.at.result = c.as_slice.ensures.value ∙ c.cell_piece.ensures in
    cell_fails g.K.Keeper.is_safe g.K.Keeper.adds g.K.Keeper.leaves g.met.K.Keeper.adds_none g.met.K.Keeper.adds_both (g.K.Keeper.holds c.args.keeper.now) (g.K.Keeper.holds c.loop-k.keeper) (g.K.Keeper.holds c.put.new.keeper)
    c.args.waiting.now.items c.loop-k.waiting.items c.args.path.now c.loop-k.k c.at.result below c.at.ensures c.loop-k.invariant
    (subst (λ (l : List ℕ). FailsAt g.K.Keeper.is_safe g.K.Keeper.adds g.K.Keeper.leaves (g.K.Keeper.holds c.loop-k.keeper) (g.K.Keeper.holds c.put.new.keeper) (c.loop-k.waiting.items ++ l)) piece c.in-Err.ensures.err)

pub loop-k-preserved : goal.loop-k-preserved
loop-k-preserved g c =
    let below : c.loop-k.k < length c.args.path.now = omega (arith, c.loop-k-test.true, c.remaining-k-end.ensures.value, c.remaining-k-end.ensures.some) in
    let piece : c.as_slice.result.now ≡ 32 ∷ cell_word c.at.result = c.as_slice.ensures.value ∙ c.cell_piece.ensures in
    cell_waits g.K.Keeper.is_safe g.K.Keeper.adds g.K.Keeper.leaves g.met.K.Keeper.adds_none g.met.K.Keeper.adds_both (g.K.Keeper.holds c.args.keeper.now) (g.K.Keeper.holds c.loop-k.keeper) (g.K.Keeper.holds c.put.new.keeper)
    c.args.waiting.now.items c.loop-k.waiting.items c.args.path.now c.loop-k.k c.at.result below c.at.ensures c.loop-k.invariant c.put.new.waiting.items
    (subst (λ (l : List ℕ). Moves g.K.Keeper.adds (g.K.Keeper.holds c.loop-k.keeper) (g.K.Keeper.holds c.put.new.keeper) c.loop-k.waiting.items c.put.new.waiting.items l) piece c.in-Ok.ensures.ok)

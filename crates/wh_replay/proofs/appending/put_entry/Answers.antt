use Rattle.std.proofs.Common.{◌≡◌, ◌++◌, ℕ, List, map, ap, sym, ◌∙◌}
use Rattle.std.proofs.lemmas.Result.{on_ok_weaker, on_err_weaker}
use Rattle.wh_log.specs.Spaced.{spaced}
use Rattle.wh_log.specs.Spelling.{cell_word, entry_line}
use Rattle.wh_log.specs.Told.{cells_of}
use Rattle.wh_replay.proofs.Appended.{head_fails, tail_fails, line_waits, feed_fails}
use Rattle.wh_replay.proofs.appending.put_entry.Goals as goal

pub returns-in-Err-clause-err : goal.returns-in-Err-clause-err
returns-in-Err-clause-err g c =
    let cells = spaced (map cell_word (cells_of c.args.entry.now.reply)) in
    let is : entry_line c.args.entry.now ≡ c.as_slice.result.now ++ cells = c.entry_head.ensures ∙ ap (λ (l : List ℕ). l ++ cells) (sym c.as_slice.ensures.value) in
    head_fails g.K.Keeper.is_safe g.K.Keeper.adds g.K.Keeper.leaves g.met.K.Keeper.adds_none g.met.K.Keeper.adds_both (entry_line c.args.entry.now) c.as_slice.result.now cells is
    (g.K.Keeper.holds c.args.keeper.now) (g.K.Keeper.holds c.put.new.keeper) c.args.waiting.now.items c.in-Err.ensures.err

pub returns-in-Err-put_path-clause-err : goal.returns-in-Err-put_path-clause-err
returns-in-Err-put_path-clause-err g c =
    let cells = spaced (map cell_word (cells_of c.args.entry.now.reply)) in
    let is : entry_line c.args.entry.now ≡ c.as_slice.result.now ++ cells = c.entry_head.ensures ∙ ap (λ (l : List ℕ). l ++ cells) (sym c.as_slice.ensures.value) in
    tail_fails g.K.Keeper.is_safe g.K.Keeper.adds g.K.Keeper.leaves g.met.K.Keeper.adds_none g.met.K.Keeper.adds_both (entry_line c.args.entry.now) c.as_slice.result.now cells is
    (g.K.Keeper.holds c.args.keeper.now) (g.K.Keeper.holds c.put.new.keeper) c.args.waiting.now.items c.put.new.waiting.items c.in-Ok.ensures.ok (g.K.Keeper.holds c.put_path.new.keeper) c.in-Err-put_path.ensures.err

pub returns-clause-ok : goal.returns-clause-ok
returns-clause-ok g c =
    let cells = spaced (map cell_word (cells_of c.args.entry.now.reply)) in
    let is : entry_line c.args.entry.now ≡ c.as_slice.result.now ++ cells = c.entry_head.ensures ∙ ap (λ (l : List ℕ). l ++ cells) (sym c.as_slice.ensures.value) in
    on_ok_weaker c.put-2.result
    (λ o. line_waits g.K.Keeper.is_safe g.K.Keeper.adds g.K.Keeper.leaves g.met.K.Keeper.adds_none g.met.K.Keeper.adds_both (entry_line c.args.entry.now) c.as_slice.result.now cells is
    (g.K.Keeper.holds c.args.keeper.now) (g.K.Keeper.holds c.put.new.keeper) c.args.waiting.now.items c.put.new.waiting.items c.in-Ok.ensures.ok (g.K.Keeper.holds c.put_path.new.keeper) c.put_path.new.waiting.items c.in-Ok-put_path.ensures.ok
    (g.K.Keeper.holds c.put-2.new.keeper) c.put-2.new.waiting.items o)
    c.put-2.ensures.ok

pub returns-clause-err : goal.returns-clause-err
returns-clause-err g c =
    let cells = spaced (map cell_word (cells_of c.args.entry.now.reply)) in
    let is : entry_line c.args.entry.now ≡ c.as_slice.result.now ++ cells = c.entry_head.ensures ∙ ap (λ (l : List ℕ). l ++ cells) (sym c.as_slice.ensures.value) in
    on_err_weaker c.put-2.result
    (λ w. feed_fails g.K.Keeper.is_safe g.K.Keeper.adds g.K.Keeper.leaves g.met.K.Keeper.adds_none g.met.K.Keeper.adds_both (entry_line c.args.entry.now) c.as_slice.result.now cells is
    (g.K.Keeper.holds c.args.keeper.now) (g.K.Keeper.holds c.put.new.keeper) c.args.waiting.now.items c.put.new.waiting.items c.in-Ok.ensures.ok (g.K.Keeper.holds c.put_path.new.keeper) c.put_path.new.waiting.items c.in-Ok-put_path.ensures.ok
    (g.K.Keeper.holds c.put-2.new.keeper) w)
    c.put-2.ensures.err

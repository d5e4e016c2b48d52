use Rattle.std.proofs.Common.{rules, ◌≡◌, ℕ, true, List, [], ◌∷◌, ◌++◌, drop, nat_le, refl, sym, ◌∙◌}
use Rattle.std.proofs.lemmas.List.{take_rest}
use Rattle.wh_grid.specs.declared.cell.Cell.{Cell}
use Rattle.wh_log.specs.Reading.{apart}
use Rattle.wh_log.proofs.UsualLaws.{path_goes, text_more}
use Rattle.wh_log.proofs.usual.cells.Goals as goal

pub loop-rest-preserved : goal.loop-rest-preserved
loop-rest-preserved c =
    let path : List Cell = c.loop-rest.path in
    let next : Cell = c.in_ok-next.next in
    let rest : List ℕ = c.loop-rest.rest.now in
    let space : rest ≡ 32 ∷ drop 1 rest = search rules in
    let near : nat_le (apart c.loop-rest.last next) 1 ≡ true = search rules in
    let longer : c.push.new.self ≡ path ++ next ∷ [] = search rules in
    rw longer (record {
      text = text_more path next (32 ∷ c.args.text.now) rest (drop 1 rest) c.in_ok-next.behind.now c.loop-rest.invariant.text space (sym (take_rest rest 1) ∙ c.in_ok-next.ensures.0);
      ends = (path, refl);
      path = path_goes path c.loop-rest.invariant.ends.0 c.loop-rest.last next c.loop-rest.invariant.ends.1 c.loop-rest.invariant.path c.in_ok-next.ensures.1 near;
    })

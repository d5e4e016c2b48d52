use Rattle.std.proofs.Common.{◌<◌, List, [], ◌∷◌, ◌++◌, length, take, sym, ap, subst, ◌∙◌, arith}
use Rattle.std.proofs.lemmas.List.{get_or_read, take_more}
use Rattle.wh_grid.specs.declared.cell.Cell.{Cell}
use Rattle.wh_timetable.specs.Timetables.{IsTold}
use Rattle.wh_timetable.proofs.stays.Stays.note_paths.Goals as goal

pub add-requires : goal.add-requires
add-requires c = c.reserve.ensures (take c.loop-i.i c.args.paths.now) c.loop-i.invariant

pub loop-i-preserved : goal.loop-i-preserved
loop-i-preserved c =
    let paths = c.args.paths.now in
    let i = c.loop-i.i in
    let h : i < length paths = omega arith in
    let path = c.index-paths-i-in-loop-i.result in
    let read = get_or_read paths i path h c.index-paths-i-in-loop-i.is [] in
    subst (λ (ps : List (List Cell)). IsTold c.add.new.self ps) (ap (λ (p : List Cell). take i paths ++ p ∷ []) read ∙ sym (take_more paths i [] h)) (c.add.ensures c.if-not-add.false)

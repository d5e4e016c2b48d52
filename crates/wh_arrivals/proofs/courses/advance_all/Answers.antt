use Rattle.std.proofs.Common.{◌<◌, length, arith}
use Rattle.std.proofs.lemmas.List.Edits.{map_over_more}
use Rattle.wh_path.specs.Paths.{advanced}
use Rattle.wh_arrivals.proofs.courses.advance_all.Goals as goal

pub loop-path-preserved : goal.loop-path-preserved
loop-path-preserved c =
    let h : c.loop-path.path-index < length c.args.paths.now = omega arith in
    rw (c.advance.ensures, ← c.path-item.is) (map_over_more advanced c.args.paths.now c.loop-path.paths c.loop-path.path-index c.path-item.result h c.loop-path.invariant c.path-item.is)

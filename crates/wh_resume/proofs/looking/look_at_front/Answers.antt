use Rattle.std.proofs.Common.{◌≡◌, ◌<◌, ◌^◌, length, refl, rules, sym, subst, arith}
use Rattle.wh_resume.proofs.LookLaws.{looks_result}
use Rattle.wh_resume.proofs.looking.look_at_front.Goals as goal

pub returns-in-Ok : goal.returns-in-Ok
returns-in-Ok c =
    let found = c.in-Ok.ensures.found in
    looks_result c.args.grid.now c.args.points.now c.args.homes c.args.text.now _ _ found.0 c.look_at_state.result found.1 found.2 found.3 refl (search rules) c.requires.version c.look_at_state.ensures

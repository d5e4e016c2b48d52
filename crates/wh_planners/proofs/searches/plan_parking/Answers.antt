use Rattle.std.proofs.Common.{sym, subst, Contains}
use Rattle.wh_grid.specs.Grids.{IsPassable}
use Rattle.wh_planner.specs.Duties.{ParksAt}
use Rattle.wh_planners.proofs.Services.{loc_is, no_path, no_service, here_vacant, lawful_parking, late_parking, no_parking}
use Rattle.wh_planners.proofs.searches.plan_parking.Goals as goal

pub returns-then-not-passable-clause-none : goal.returns-then-not-passable-clause-none
returns-then-not-passable-clause-none c = λ e.
    let scene = c.args.scene.now in
    let paths = scene.paths.now in
    let here = loc_is c.paths-paths.result.now paths scene.agent c.index-paths-scene.result c.at-loc.result c.requires.agent c.paths-paths.ensures c.index-paths-scene.is c.at-loc.ensures in
    no_service scene.grid.now scene.nofollow paths scene.agent (ParksAt (Contains c.args.allowed.now)) (λ p. let t = c.passable.ensures.1 (subst (IsPassable scene.grid.now) (sym here) p) in let f = c.if-not-passable.true in cc)

pub park_in-requires-clause-clear : goal.park_in-requires-clause-clear
park_in-requires-clause-clear c =
    let scene = c.args.scene.now in
    let paths = scene.paths.now in
    let here = loc_is c.paths-paths.result.now paths scene.agent c.index-paths-scene.result c.at-loc.result c.requires.agent c.paths-paths.ensures c.index-paths-scene.is c.at-loc.ensures in
    here_vacant scene.grid.now scene.nofollow paths scene.agent c.requires.agent c.requires.walk c.requires.free c.in-Ok.others c.at-loc.result c.in-Ok.ensures here

pub returns-in-Ok-park_in-clause-lawful : goal.returns-in-Ok-park_in-clause-lawful
returns-in-Ok-park_in-clause-lawful c =
    let scene = c.args.scene.now in
    let paths = scene.paths.now in
    let here = loc_is c.paths-paths.result.now paths scene.agent c.index-paths-scene.result c.at-loc.result c.requires.agent c.paths-paths.ensures c.index-paths-scene.is c.at-loc.ensures in
    lawful_parking scene.grid.now scene.nofollow paths scene.agent c.in-Ok.others c.at-loc.result c.in-Ok.ensures here c.args.allowed.now c.args.slack c.in-Ok-park_in.path c.in-Ok-park_in.ensures.late

pub returns-in-Ok-park_in-clause-late : goal.returns-in-Ok-park_in-clause-late
returns-in-Ok-park_in-clause-late c =
    let scene = c.args.scene.now in
    let paths = scene.paths.now in
    let here = loc_is c.paths-paths.result.now paths scene.agent c.index-paths-scene.result c.at-loc.result c.requires.agent c.paths-paths.ensures c.index-paths-scene.is c.at-loc.ensures in
    late_parking scene.grid.now scene.nofollow paths scene.agent c.in-Ok.others c.at-loc.result c.in-Ok.ensures here c.args.allowed.now c.args.slack c.in-Ok-park_in.path c.in-Ok-park_in.ensures.late

pub returns-in-Err-NoPath-clause-none : goal.returns-in-Err-NoPath-clause-none
returns-in-Err-NoPath-clause-none c = λ e.
    let scene = c.args.scene.now in
    let paths = scene.paths.now in
    let here = loc_is c.paths-paths.result.now paths scene.agent c.index-paths-scene.result c.at-loc.result c.requires.agent c.paths-paths.ensures c.index-paths-scene.is c.at-loc.ensures in
    no_parking scene.grid.now scene.nofollow paths scene.agent c.in-Ok.others c.at-loc.result c.in-Ok.ensures here c.args.allowed.now (no_path c.in-Err-NoPath.field-0 _ c.in-Err-NoPath.field-0-is c.in-Err-NoPath.ensures.none)

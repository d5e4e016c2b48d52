use Rattle.std.proofs.Common.{rules, ◌≡◌, List, get_or, sym, subst, ap, ◌∙◌}
use Rattle.wh_path.specs.Paths.{end}
use Rattle.wh_tasks.specs.declared.task.Load.{Load}
use Rattle.wh_core.specs.States.{load_of}
use Rattle.wh_stand.specs.Ways.{site_at}
use Rattle.wh_stand.proofs.Strays.{path_seen}
use Rattle.wh_book.proofs.Straying.{stray-by}
use Rattle.wh_book.proofs.strays.is_stray.Goals as goal

pub returns : goal.returns
returns c = λ grid.
    let s = c.args.floor.now.state in
    let site = site_at grid c.args.points.now c.args.homes in
    let ends = c.end.ensures ∙ ap end (path_seen s.paths c.paths.result.now c.args.agent c.index-paths-agent.result c.requires.known c.paths.ensures.value c.index-paths-agent.is) in
    let none : load_of s c.args.agent ≡ Load.None =
    let read : get_or c.loads.result.now c.args.agent Load.None ≡ Load.None = search rules in
    ap (λ (loads : List Load). get_or loads c.args.agent Load.None) (sym c.loads.ensures.value) ∙ read in
    stray-by site s c.args.agent c.end.result c.is_berth.result ends (c.is_berth.ensures grid) none

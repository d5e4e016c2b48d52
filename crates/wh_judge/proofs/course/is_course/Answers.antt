use Rattle.std.proofs.Common.{◌≡◌, ◌<◌, ap, sym, subst, ◌∙◌, ◌*◌, length, arith, List}
use Rattle.wh_grid.specs.declared.cell.Cell.{Cell}
use Rattle.wh_path.specs.Paths.{at, path_of, others, horizon}
use Rattle.wh_judge.proofs.Courses.{path-read}
use Rattle.wh_judge.proofs.course.is_course.Goals as goal

pub returns : goal.returns
returns c =
    let agent = c.args.agent in
    let list = c.paths-list.result.now in
    let told : list ≡ c.args.paths.now = c.paths-list.ensures in
    let known = subst (λ (ps : List (List Cell)). agent < length ps) (sym told) c.requires.known in
    let own = path-read list agent c.index-list-agent.result known c.index-list-agent.is ∙ ap (λ (ps : List (List Cell)). path_of ps agent) told in (
      λ free. record {
        walk = c.walks.ensures.0 c.if-not-walks.false;
        starts_here = sym c.at.ensures ∙ c.is-starts.ensures.0 c.if-not-starts.false ∙ c.at-2.ensures ∙ ap (λ (p : List Cell). at p 0) own;
        free = c.free_of_others.ensures.0 free;
        bounded =
            let value = ap (λ (ps : List (List Cell)). horizon (others ps agent)) told in
            let cells = ap (λ n. c.args.legs * n) c.cells.ensures.value in
            let soon = c.is_soon.ensures.0 c.if-not-is_soon.false in
            omega arith;
        serves = tt;
      },
      λ lawful. c.free_of_others.ensures.1 lawful.free,
    )

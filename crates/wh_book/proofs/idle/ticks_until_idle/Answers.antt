use Rattle.std.proofs.Common.{◌≡◌, ◌∙◌, [], List, ap, false}
use Rattle.std.proofs.lemmas.List.{get_or_default}
use Rattle.wh_grid.specs.declared.cell.Cell.{Cell}
use Rattle.wh_path.specs.Paths.{last_index, steps_left}
use Rattle.wh_core.proofs.Idle.{steps-idle}
use Rattle.wh_book.proofs.idle.ticks_until_idle.Goals as goal

pub returns-else-homes : goal.returns-else-homes
returns-else-homes c = λ site is.
    let s = c.args.floor.now.state in
    let agent = c.args.agent in
    let off : site.homes ≡ false = is ∙ c.if-homes.false in
    let read = c.index-paths-agent.is ∙ get_or_default c.paths.result.now agent c.index-paths-agent.result [] (rw c.paths.ensures.value c.requires) in
    let left : c.remaining.result ≡ steps_left s.paths agent =
    c.remaining.ensures.value ∙ ap (λ (p : List Cell). last_index p) read ∙ ap (λ (ps : List (List Cell)). steps_left ps agent) c.paths.ensures.value in
    steps-idle c.remaining.result site s agent off c.requires left

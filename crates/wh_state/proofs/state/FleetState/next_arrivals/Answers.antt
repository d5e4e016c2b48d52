use Rattle.std.proofs.Common.{◌+◌, ap, ◌∙◌, map}
use Rattle.wh_path.specs.Paths.{place_of, advanced}
use Rattle.wh_tasks.specs.Arrivals as arrivals
use Rattle.wh_core.specs.States.{moved, picked, dropped}
use Rattle.wh_state.specs.Standings.{Standing}
use Rattle.wh_state.proofs.state.FleetState.next_arrivals.Goals as goal

pub returns-clause-picked : goal.returns-clause-picked
returns-clause-picked c =
    c.foretell_all.ensures.picked
    ∙ ap (λ ps. arrivals.picked (c.self.inside.clock + 1) (place_of (map advanced ps)) c.self.inside.tasks.tasks) c.paths.ensures
    ∙ ap (λ (v : Standing). picked (moved v.state)) c.self.view_is

pub returns-clause-dropped : goal.returns-clause-dropped
returns-clause-dropped c =
    c.foretell_all.ensures.dropped
    ∙ ap (λ ps. arrivals.dropped (c.self.inside.clock + 1) (place_of (map advanced ps)) c.self.inside.tasks.tasks) c.paths.ensures
    ∙ ap (λ (v : Standing). dropped (moved v.state)) c.self.view_is

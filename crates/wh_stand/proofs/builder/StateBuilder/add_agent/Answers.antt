use Rattle.std.proofs.Common.{sym, subst}
use Rattle.wh_points.specs.Points.{Site}
use Rattle.wh_stand.specs.Parts.{Built}
use Rattle.wh_state.specs.Columns.{state_in}
use Rattle.wh_stand.specs.Flawless.{IsFitAgent}
use Rattle.wh_stand.proofs.Built.{well-known, well-agent}
use Rattle.wh_stand.proofs.Contradicting.{agent-flaw-none}
use Rattle.wh_stand.proofs.builder.StateBuilder.add_agent.Goals as goal

pub returns-in-Some-clause-complete : goal.returns-in-Some-clause-complete
returns-in-Some-clause-complete c = agent-flaw-none c.args.self.now.site c.args.self.now.parts c.args.path c.in-Some.flaw c.in-Some.ensures.some

pub add_agent-requires-clause-known : goal.add_agent-requires-clause-known
add_agent-requires-clause-known c =
    let site : Site = record { grid = c.self.inside.grid.now; layout = c.self.inside.stations; homes = c.self.inside.homes } in
    well-known site (state_in c.self.inside.parts) c.self.invariant

pub invariant_of-self-2 : goal.invariant_of-self-2
invariant_of-self-2 c =
    let site : Site = record { grid = c.self.inside.grid.now; layout = c.self.inside.stations; homes = c.self.inside.homes } in
    well-agent site (state_in c.self.inside.parts) (state_in c.add_agent.new.parts) c.args.slots c.args.path c.self.invariant
    (subst (λ (b : Built). IsFitAgent b.site b.parts c.args.path) (sym c.self.view_is) c.in_default.ensures.none) c.in_ok-add_agent.ensures.ok c.in_ok-add_agent.ensures.told

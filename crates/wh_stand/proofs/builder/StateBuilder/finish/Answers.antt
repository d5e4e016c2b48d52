use Rattle.std.proofs.Common.{◌≡◌, List, ℕ, length, ap, subst, arith}
use Rattle.wh_points.specs.Points.{Site}
use Rattle.wh_core.specs.Laws.{IsBeginning}
use Rattle.wh_stand.specs.Parts.{Built}
use Rattle.wh_state.specs.Columns.{state_in}
use Rattle.wh_stand.proofs.Built.{well-beginning}
use Rattle.wh_stand.proofs.builder.StateBuilder.finish.Goals as goal

pub returns-clause-beginning : goal.returns-clause-beginning
returns-clause-beginning c =
    let s = state_in c.self.inside.parts in
    let site : Site = record { grid = c.self.inside.grid.now; layout = c.self.inside.stations; homes = c.self.inside.homes } in
    let agents = ap (λ (ns : List ℕ). length ns) c.agents.ensures.value in
    let points : length c.points.result.now.agents ≡ length site.layout.agents = rw c.points.ensures in
    let size : length s.paths ≡ length site.layout.agents = omega (arith, c.self.inside.parts.paths.ok.0) in
    subst (λ (b : Built). IsBeginning b.site s) c.self.view_is (well-beginning site s c.self.invariant size)

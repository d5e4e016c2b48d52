use Rattle.std.proofs.Common.{◌≡◌, ◌∙◌, false, ap, length, arith, sym}
use Rattle.wh_formed.proofs.VerdictLemmas.{one_verdict}
use Rattle.wh_formed.proofs.checker.check.Goals as goal

pub returns-clause-verdict : goal.returns-clause-verdict
returns-clause-verdict g c =
    let agents : length c.agents.result.now ≡ length c.args.points.now.agents = ap length c.agents.ensures.value in
    c.in_ok-verdict.ensures c.args.points.now (sym (c.deref-2.ensures.value ∙ c.in_ok-cells.ensures.cells)) (omega arith)

pub returns-clause-only : goal.returns-clause-only
returns-clause-only g c = λ v h.
    one_verdict (record { grid = c.args.grid.now; layout = c.args.points.now; homes = false }) c.are_apart.ensures c.in_ok-verdict.verdict v (returns-clause-verdict g c) h

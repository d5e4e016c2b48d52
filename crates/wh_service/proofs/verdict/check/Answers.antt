use Rattle.std.proofs.Common.{false, subst, sym, ◌∙◌}
use Rattle.std.specs.Io.KnownBytes.{Appends}
use Rattle.wh_edge.specs.declared.trouble.Trouble.{Trouble}
use Rattle.wh_lines.specs.Output.{WritesFront}
use Rattle.wh_service.specs.Checks.{IsWhyUnjudged}
use Rattle.wh_service.proofs.Verdicts.{same_verdict}
use Rattle.wh_service.proofs.verdict.check.Goals as goal

pub returns-in-Ok-write_text-clause-ok : goal.returns-in-Ok-write_text-clause-ok
returns-in-Ok-write_text-clause-ok g c = record {
  site = record { grid = c.in_ok-grid.field-0.grid; layout = c.in_ok-grid.field-0.points; homes = c.in_ok-grid.field-0.homes };
  site_read = c.in_ok-grid.ensures.ok;
  verdict = c.in-Ok.verdict;
  verdict_is = same_verdict c.in_ok-grid.field-0.grid c.in_ok-grid.field-0.points false c.in_ok-grid.field-0.homes c.in-Ok.verdict c.in-Ok.ensures.verdict;
  appends = subst (Appends (g.W.Write.contents c.args.output.now) (g.W.Write.contents c.write_text.new.output)) (c.as_slice.ensures.value ∙ c.text-line.ensures) c.in-Ok-write_text.ensures.ok;
  ended_is = c.status.ensures;
}

pub returns-clause-fault : goal.returns-clause-fault
returns-clause-fault g c =
    let had = g.W.Write.contents c.args.output.now in
    let has = g.W.Write.contents c.write_text.new.output in
    subst (λ (told : Trouble). IsWhyUnjudged c.args.options.homes told c.args.lines.now c.read_site.new.lines had has) (sym c.in-Err-write_text.ensures.fault)
    (record {
      site = record { grid = c.in_ok-grid.field-0.grid; layout = c.in_ok-grid.field-0.points; homes = c.in_ok-grid.field-0.homes };
      site_read = c.in_ok-grid.ensures.ok;
      verdict = c.in-Ok.verdict;
      verdict_is = same_verdict c.in_ok-grid.field-0.grid c.in_ok-grid.field-0.points false c.in_ok-grid.field-0.homes c.in-Ok.verdict c.in-Ok.ensures.verdict;
      front = subst (WritesFront had has) (c.as_slice.ensures.value ∙ c.text-line.ensures) c.in-Err-write_text.ensures.front;
    })

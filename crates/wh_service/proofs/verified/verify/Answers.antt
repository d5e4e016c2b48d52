use Rattle.std.proofs.Common.{subst, sym, ◌∙◌, ℕ, List}
use Rattle.std.specs.Io.KnownBytes.{Appends}
use Rattle.wh_points.specs.Points.{Site}
use Rattle.wh_edge.specs.declared.trouble.Trouble.{Trouble}
use Rattle.wh_lines.specs.Output.{WritesFront}
use Rattle.wh_service.specs.Verifies.{IsVerdict, IsWhyUnverified}
use Rattle.wh_service.proofs.Unverified.{no_log}
use Rattle.wh_service.proofs.verified.verify.Goals as goal

pub returns-in-Err-log_section-clause-fault : goal.returns-in-Err-log_section-clause-fault
returns-in-Err-log_section-clause-fault g c = no_log _ _ _ _ _ (record {
  site = record { grid = c.in-Ok.site.grid; layout = c.in-Ok.site.points; homes = c.in-Ok.site.homes };
  between = c.read_site.new.lines;
  site_read = c.in-Ok.ensures.ok;
  why = c.in-Err-log_section.ensures.fault;
})

pub returns-in-Ok-write_text-clause-ok : goal.returns-in-Ok-write_text-clause-ok
returns-in-Ok-write_text-clause-ok g c =
    let site : Site = record { grid = c.in-Ok.site.grid; layout = c.in-Ok.site.points; homes = c.in-Ok.site.homes } in
    let told = c.in-Ok-verdict.front in
    let had = g.W.Write.contents c.args.output.now in
    let has = g.W.Write.contents c.write_text.new.output in
    record {
      site = site;
      log = c.in-Ok-log_section.log.items;
      log_read = record {
        between = c.read_site.new.lines;
        site_read = c.in-Ok.ensures.ok;
        section = c.in-Ok-log_section.ensures.ok;
        within = c.in-Ok-log_section.ensures.within;
      };
      said = told;
      says = subst (λ (l : List ℕ). IsVerdict c.args.options site l told) c.as_slice.ensures.value
          (subst (λ (x : Site). IsVerdict c.args.options x c.as_slice.result.now told) c.with_homes-instance.ensures c.in-Ok-verdict.ensures);
      appends = subst (λ (l : List ℕ). Appends had has l) (c.as_slice-2.ensures.value ∙ c.text-line.ensures) c.in-Ok-write_text.ensures.ok;
      ended_is = c.status.ensures;
    }

pub returns-clause-fault : goal.returns-clause-fault
returns-clause-fault g c =
    let site : Site = record { grid = c.in-Ok.site.grid; layout = c.in-Ok.site.points; homes = c.in-Ok.site.homes } in
    let told = c.in-Ok-verdict.front in
    let had = g.W.Write.contents c.args.output.now in
    let has = g.W.Write.contents c.write_text.new.output in
    subst (λ (told : Trouble). IsWhyUnverified c.args.options told c.args.lines.now c.log_section.new.lines had has) (sym c.in-Err-write_text.ensures.fault)
    (record {
      site = site;
      log = c.in-Ok-log_section.log.items;
      log_read = record {
        between = c.read_site.new.lines;
        site_read = c.in-Ok.ensures.ok;
        section = c.in-Ok-log_section.ensures.ok;
        within = c.in-Ok-log_section.ensures.within;
      };
      said = told;
      says = subst (λ (l : List ℕ). IsVerdict c.args.options site l told) c.as_slice.ensures.value
          (subst (λ (x : Site). IsVerdict c.args.options x c.as_slice.result.now told) c.with_homes-instance.ensures c.in-Ok-verdict.ensures);
      front = subst (WritesFront had has) (c.as_slice-2.ensures.value ∙ c.text-line.ensures) c.in-Err-write_text.ensures.front;
    })

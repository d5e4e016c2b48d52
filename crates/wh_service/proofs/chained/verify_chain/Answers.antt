use Rattle.std.proofs.Common.{List, ℕ, subst, sym, ◌∙◌}
use Rattle.std.specs.Io.KnownBytes.{Appends}
use Rattle.wh_lines.specs.Output.{WritesFront}
use Rattle.wh_edge.specs.declared.trouble.Trouble.{Trouble}
use Rattle.wh_service.specs.Chained.{IsWhyUnchained}
use Rattle.wh_service.proofs.chained.verify_chain.Goals as goal

pub returns-in-Ok-write_text-clause-ok : goal.returns-in-Ok-write_text-clause-ok
returns-in-Ok-write_text-clause-ok g c =
    let had = g.W.Write.contents c.args.output.now in
    let has = g.W.Write.contents c.write_text.new.output in
    record {
      site = c.in-Ok.setting;
      between = c.read_setting.new.lines;
      site_read = c.in-Ok.ensures.ok;
      told = c.in-Ok-chained.told;
      is = c.in-Ok-chained.ensures.ok;
      appends = subst (λ (l : List ℕ). Appends had has l) (c.as_slice.ensures.value ∙ c.in-Ok-text.ensures) c.in-Ok-write_text.ensures.ok;
      ended_is = c.status-status.ensures;
    }

pub returns-clause-fault : goal.returns-clause-fault
returns-clause-fault g c =
    let had = g.W.Write.contents c.args.output.now in
    let has = g.W.Write.contents c.write_text.new.output in
    subst (λ (told : Trouble). IsWhyUnchained c.args.options told c.args.lines.now c.chained.new.lines had has) (sym c.in-Err-write_text.ensures.fault)
    (record {
      site = c.in-Ok.setting;
      between = c.read_setting.new.lines;
      site_read = c.in-Ok.ensures.ok;
      told = c.in-Ok-chained.told;
      is = c.in-Ok-chained.ensures.ok;
      front = subst (WritesFront had has) (c.as_slice.ensures.value ∙ c.in-Ok-text.ensures) c.in-Err-write_text.ensures.front;
    })

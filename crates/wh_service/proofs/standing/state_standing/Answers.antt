use Rattle.std.proofs.Common.{List, ℕ, inl, inr, refl, ap, subst}
use Rattle.std.proofs.KnownBytes.{Keeps-refl}
use Rattle.std.specs.Io.KnownBytes.{Appends}
use Rattle.wh_lines.specs.Output.{WritesFront}
use Rattle.wh_edge.specs.declared.trouble.Trouble.{Trouble}
use Rattle.wh_service.specs.declared.convoys.DriveTrouble.TheVariants.{Plain}
use Rattle.wh_service.proofs.standing.state_standing.Goals as goal

pub returns-in-Err-clause-fault : goal.returns-in-Err-clause-fault
returns-in-Err-clause-fault g c = inl (inl (c.in-Err.trouble, c.in-Err.ensures.fault, refl), Keeps-refl _)

pub returns-in-Err-text_by_files-clause-fault : goal.returns-in-Err-text_by_files-clause-fault
returns-in-Err-text_by_files-clause-fault g c = inl (inr (c.in-Ok.setting, c.in-Ok.ensures.ok, c.in-Err-text_by_files.ensures.fault), Keeps-refl _)

pub returns-in-Ok-write_text-clause-ok : goal.returns-in-Ok-write_text-clause-ok
returns-in-Ok-write_text-clause-ok g c =
    let had = g.W.Write.contents c.args.output.now in
    let has = g.W.Write.contents c.write_text.new.output in
    record {
      site = c.in-Ok.setting;
      site_read = c.in-Ok.ensures.ok;
      told = c.in-Ok-text_by_files.told.items;
      is = c.in-Ok-text_by_files.ensures.ok;
      appends = subst (λ (t : List ℕ). Appends had has t) c.as_slice.ensures.value c.in-Ok-write_text.ensures.ok;
      ended_is = refl;
    }

pub returns-clause-fault : goal.returns-clause-fault
returns-clause-fault g c =
    let had = g.W.Write.contents c.args.output.now in
    let has = g.W.Write.contents c.write_text.new.output in
    inr (record {
      site = c.in-Ok.setting;
      site_read = c.in-Ok.ensures.ok;
      told = c.in-Ok-text_by_files.told.items;
      is = c.in-Ok-text_by_files.ensures.ok;
      beginning = subst (λ (t : List ℕ). WritesFront had has t) c.as_slice.ensures.value c.in-Err-write_text.ensures.front;
      why_is = ap (λ (t : Trouble). Plain t) c.in-Err-write_text.ensures.fault;
    })

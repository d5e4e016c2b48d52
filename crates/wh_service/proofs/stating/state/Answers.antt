use Rattle.std.proofs.Common.{◌∙◌, ℕ, List, subst, sym, refl}
use Rattle.std.proofs.KnownBytes.{Keeps-refl}
use Rattle.std.specs.Io.KnownBytes.{Appends}
use Rattle.wh_lines.specs.Output.{WritesFront}
use Rattle.wh_edge.specs.declared.trouble.Trouble.{Trouble}
use Rattle.wh_handover.specs.Handing.{IsHandover, IsWhyNone}
use Rattle.wh_service.specs.States.{IsWhyUnstated}
use Rattle.wh_service.proofs.Unstated.{unstated}
use Rattle.wh_service.proofs.stating.state.Goals as goal

pub returns-in-Err-front_after-clause-fault : goal.returns-in-Err-front_after-clause-fault
returns-in-Err-front_after-clause-fault g c =
    let options = c.args.options.now in
    let old = c.args.lines.now in
    let new = c.read_setting.new.lines in
    let had = g.W.Write.contents c.args.output.now in
    let file = g.L.Journal.contents c.args.file.now in
    let f = c.in-Err-front_after.fault in
    let why = subst (λ (t : List ℕ). IsWhyNone c.in-Ok.setting t options.after f) c.as_slice.ensures.value c.in-Err-front_after.ensures.fault in
    let told = unstated options c.in-Ok.setting c.in-Ok-text_of.log.items old new had file (record { site_read = c.in-Ok.ensures.ok; text_is = c.in-Ok-text_of.ensures.ok }) f why in
    subst (λ (t : Trouble). IsWhyUnstated options t old new had had file) (sym c.trouble_of.ensures) told

pub returns-in-Err-front_text-clause-fault : goal.returns-in-Err-front_text-clause-fault
returns-in-Err-front_text-clause-fault g c = Keeps-refl (g.W.Write.contents c.args.output.now)

pub returns-in-Ok-write_text-clause-ok : goal.returns-in-Ok-write_text-clause-ok
returns-in-Ok-write_text-clause-ok g c =
    let options = c.args.options.now in
    let had = g.W.Write.contents c.args.output.now in
    let has = g.W.Write.contents c.write_text.new.output in
    let front = c.in-Ok-front_after.front in
    record {
      site = c.in-Ok.setting;
      text = c.in-Ok-text_of.log.items;
      held = record { site_read = c.in-Ok.ensures.ok; text_is = c.in-Ok-text_of.ensures.ok };
      front = front;
      is = subst (λ (t : List ℕ). IsHandover c.in-Ok.setting t options.after front) c.as_slice.ensures.value c.in-Ok-front_after.ensures.ok;
      appends = subst (λ (t : List ℕ). Appends had has t) (c.as_slice-2.ensures.value ∙ c.in-Ok-front_text.ensures.text) c.in-Ok-write_text.ensures.ok;
      ended_is = refl;
    }

pub returns-clause-fault : goal.returns-clause-fault
returns-clause-fault g c =
    let options = c.args.options.now in
    let had = g.W.Write.contents c.args.output.now in
    let has = g.W.Write.contents c.write_text.new.output in
    let front = c.in-Ok-front_after.front in
    subst (λ (t : Trouble). IsWhyUnstated options t c.args.lines.now c.read_setting.new.lines had has (g.L.Journal.contents c.args.file.now)) (sym c.in-Err-write_text.ensures.fault)
    (record {
      site = c.in-Ok.setting;
      text = c.in-Ok-text_of.log.items;
      held = record { site_read = c.in-Ok.ensures.ok; text_is = c.in-Ok-text_of.ensures.ok };
      front = front;
      is = subst (λ (t : List ℕ). IsHandover c.in-Ok.setting t options.after front) c.as_slice.ensures.value c.in-Ok-front_after.ensures.ok;
      beginning = subst (λ (t : List ℕ). WritesFront had has t) (c.as_slice-2.ensures.value ∙ c.in-Ok-front_text.ensures.text) c.in-Err-write_text.ensures.front;
    })

use Rattle.std.proofs.Common.{ap, ◌∙◌, ◌⊎◌, ℕ, List, inl, inr, subst}
use Rattle.std.proofs.KnownBytes.{Keeps-refl}
use Rattle.std.specs.Global.{Vec}
use Rattle.wh_points.specs.Points.{Site}
use Rattle.wh_journal.specs.Journals.{log_asker}
use Rattle.wh_service.specs.Fleets.{IsWhyUnclaimed, IsWhyUnseated}
use Rattle.wh_service.proofs.Lasting.{kept_at, seated_on, serves_kept, start_of_file, stops_kept, stops_opening, without_tail}
use Rattle.wh_service.proofs.kept.serve_kept.Goals as goal

pub returns-in-Err-start_aside-clause-fault : goal.returns-in-Err-start_aside-clause-fault
returns-in-Err-start_aside-clause-fault g c =
    let site : Site = c.in-Ok.kept.setting in
    inr (inl (
      record {
        site = site;
        text = c.as_slice-bytes.result.now;
        site_read = kept_at _ _ site _ _ c.as_slice-bytes.ensures.value c.in-Ok.ensures.ok;
        why = inl c.in-Err-start_aside.ensures.fault;
      },
      Keeps-refl _,
      c.in-Err-start_aside.ensures.same,
      c.in-Err-start_aside.ensures.same_beside,
    ))

pub returns-in-Err-equip_for-clause-fault : goal.returns-in-Err-equip_for-clause-fault
returns-in-Err-equip_for-clause-fault g c =
    let site : Site = c.in-Ok.kept.setting in
    let fleet = c.args.options.now.fleet in
    inr (inl (
      record {
        site = site;
        text = c.as_slice-bytes.result.now;
        site_read = kept_at _ _ site _ _ c.as_slice-bytes.ensures.value c.in-Ok.ensures.ok;
        why = inr (record {
          start = c.in-Ok-start_aside.started.0;
          starts = c.in-Ok-start_aside.ensures.ok;
          why = subst (λ (slots : List ℕ). IsWhyUnseated slots c.in-Err-equip_for.trouble ⊎ IsWhyUnclaimed fleet.slots c.in-Err-equip_for.trouble) c.slots-slots.ensures.value c.in-Err-equip_for.ensures.fault;
        });
      },
      Keeps-refl _,
      c.in-Ok-start_aside.ensures.same,
      c.in-Ok-start_aside.ensures.same_beside,
    ))

pub open_both-requires-clause-starts : goal.open_both-requires-clause-starts
open_both-requires-clause-starts g c =
    let site : Site = c.in-Ok.kept.setting in
    start_of_file c.args.options.now.fleet site (g.L.Journal.contents c.args.file.now) (g.L.Journal.contents c.start_aside.new.file) c.in-Ok-start_aside.started.0 c.in-Ok-start_aside.ensures.ok c.in-Ok-start_aside.ensures.same

pub returns-in-Err-open_both-clause-fault : goal.returns-in-Err-open_both-clause-fault
returns-in-Err-open_both-clause-fault g c =
    let site : Site = c.in-Ok.kept.setting in
    stops_opening _ _ _ _ c.args.options.now.fleet c.args.options.now.deliver c.args.options.now.told c.args.options.now.anew _ _ _ _ site c.in-Ok-start_aside.started.0 c.in-Ok-equip_for.equipped.0.items c.in-Ok-equip_for.equipped.1.items
    c.as_slice-bytes.result.now (kept_at _ _ site _ _ c.as_slice-bytes.ensures.value c.in-Ok.ensures.ok)
    c.in-Ok-start_aside.started.1 c.in-Ok-start_aside.ensures.stands c.in-Ok-start_aside.ensures.ok c.in-Ok-start_aside.ensures.has_log c.in-Ok-start_aside.ensures.within
    c.slots-slots.result.now c.slots-slots.ensures.value (seated_on _ _ _ _ _ _ _ (c.in-Ok-try_clone.ensures ∙ c.shared_grid.ensures) c.in-Ok-equip_for.ensures.ok)
    c.args.options.now.tail c.in-Err-open_both.fault _ _ _ _ _ _ _ c.keep_trouble.ensures c.in-Ok-start_aside.ensures.same c.in-Ok-start_aside.ensures.same_beside c.in-Err-open_both.ensures.fault

pub returns-in-Err-ran-clause-fault : goal.returns-in-Err-ran-clause-fault
returns-in-Err-ran-clause-fault g c =
    let site : Site = c.in-Ok.kept.setting in
    stops_kept _ _ _ _ c.args.options.now.fleet c.args.options.now.deliver c.args.options.now.told c.args.options.now.anew _ _ _ _ site c.in-Ok-start_aside.started.0 c.in-Ok-equip_for.equipped.0.items c.in-Ok-equip_for.equipped.1.items
    c.as_slice-bytes.result.now (kept_at _ _ site _ _ c.as_slice-bytes.ensures.value c.in-Ok.ensures.ok)
    c.in-Ok-start_aside.started.1 c.in-Ok-start_aside.ensures.stands c.in-Ok-start_aside.ensures.ok c.in-Ok-start_aside.ensures.has_log c.in-Ok-start_aside.ensures.within
    c.slots-slots.result.now c.slots-slots.ensures.value (seated_on _ _ _ _ _ _ _ (c.in-Ok-try_clone.ensures ∙ c.shared_grid.ensures) c.in-Ok-equip_for.ensures.ok)
    _ _ _ _ _ _ _ (ap log_asker c.form_of-form.ensures) c.in-Ok-open_both.begun c.in-Ok-open_both.ensures.book _ _ c.in-Ok-start_aside.ensures.same c.in-Ok-open_both.ensures.opens _ c.in-Ok-start_aside.ensures.same_beside c.in-Ok-open_both.ensures.ok c.in-Ok-open_both.ensures.synced
    c.args.options.now.tail c.in-Err-ran.fault _ _ c.run_trouble.ensures c.in-Err-ran.ensures.fault

pub returns-clause-ok : goal.returns-clause-ok
returns-clause-ok g c =
    let site : Site = c.in-Ok.kept.setting in
    serves_kept _ _ _ _ c.args.options.now.fleet c.args.options.now.deliver c.args.options.now.told c.args.options.now.anew _ _ _ _ site c.in-Ok-start_aside.started.0 c.in-Ok-equip_for.equipped.0.items c.in-Ok-equip_for.equipped.1.items
    c.as_slice-bytes.result.now (kept_at _ _ site _ _ c.as_slice-bytes.ensures.value c.in-Ok.ensures.ok)
    c.in-Ok-start_aside.started.1 c.in-Ok-start_aside.ensures.stands c.in-Ok-start_aside.ensures.ok c.in-Ok-start_aside.ensures.has_log c.in-Ok-start_aside.ensures.within
    c.slots-slots.result.now c.slots-slots.ensures.value (seated_on _ _ _ _ _ _ _ (c.in-Ok-try_clone.ensures ∙ c.shared_grid.ensures) c.in-Ok-equip_for.ensures.ok)
    _ _ _ _ _ _ _ (ap log_asker c.form_of-form.ensures) c.in-Ok-open_both.begun c.in-Ok-open_both.ensures.book _ _ c.in-Ok-start_aside.ensures.same c.in-Ok-open_both.ensures.opens _ c.in-Ok-start_aside.ensures.same_beside c.in-Ok-open_both.ensures.ok c.in-Ok-open_both.ensures.synced
    c.args.options.now.tail (λ (v : Vec ℕ). v.items) c.finish-finished.result c.in-Ok-ran.ran.0.book _ c.in-Ok-ran.ensures.runs c.in-Ok-ran.ran.1 c.in-Ok-ran.ensures.preface c.in-Ok-ran.ensures.opening c.in-Ok-ran.ensures.run
    c.history-history.ensures.served c.finish-finished.ensures.ok c.finish-finished.ensures.report

pub returns-clause-fault : goal.returns-clause-fault
returns-clause-fault g c =
    let site : Site = c.in-Ok.kept.setting in
    without_tail _ _ _ _ c.args.options.now.fleet c.args.options.now.deliver c.args.options.now.told c.args.options.now.anew _ _ _ _ site c.in-Ok-start_aside.started.0 c.in-Ok-equip_for.equipped.0.items c.in-Ok-equip_for.equipped.1.items
    c.as_slice-bytes.result.now (kept_at _ _ site _ _ c.as_slice-bytes.ensures.value c.in-Ok.ensures.ok)
    c.in-Ok-start_aside.started.1 c.in-Ok-start_aside.ensures.stands c.in-Ok-start_aside.ensures.ok c.in-Ok-start_aside.ensures.has_log c.in-Ok-start_aside.ensures.within
    c.slots-slots.result.now c.slots-slots.ensures.value (seated_on _ _ _ _ _ _ _ (c.in-Ok-try_clone.ensures ∙ c.shared_grid.ensures) c.in-Ok-equip_for.ensures.ok)
    _ _ _ _ _ _ _ (ap log_asker c.form_of-form.ensures) c.in-Ok-open_both.begun c.in-Ok-open_both.ensures.book _ _ c.in-Ok-start_aside.ensures.same c.in-Ok-open_both.ensures.opens _ c.in-Ok-start_aside.ensures.same_beside c.in-Ok-open_both.ensures.ok c.in-Ok-open_both.ensures.synced
    c.args.options.now.tail (λ (v : Vec ℕ). v.items) c.finish-finished.result c.in-Ok-ran.ran.0.book _ c.in-Ok-ran.ensures.runs c.in-Ok-ran.ran.1 c.in-Ok-ran.ensures.preface _ c.finish-finished.ensures.fault

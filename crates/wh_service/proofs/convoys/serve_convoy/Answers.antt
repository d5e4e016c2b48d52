use Rattle.std.proofs.Common.{rules, ap, inl, inr, refl}
use Rattle.std.proofs.KnownBytes.{Keeps-refl}
use Rattle.wh_points.specs.Points.{Site}
use Rattle.wh_journal.specs.Journals.{log_asker}
use Rattle.wh_service.proofs.Lasting.{kept_at, start_of_file}
use Rattle.wh_service.proofs.Convoyed.{at_ahead, both, serves_convoy, stops_convoy, stops_opening}
use Rattle.wh_service.proofs.convoys.serve_convoy.Goals as goal

pub returns-in-Err-start_convoy-clause-fault : goal.returns-in-Err-start_convoy-clause-fault
returns-in-Err-start_convoy-clause-fault g c =
    let site : Site = c.in-Ok.kept.setting in
    let n = c.from-ahead.ensures in
    inr (inr (inl (
      record {
        site = site;
        text = c.as_slice-bytes.result.now;
        site_read = (kept_at _ _ site _ _ c.as_slice-bytes.ensures.value c.in-Ok.ensures.ok);
        why = at_ahead _ _ _ _ _ site _ _ c.as_slice-bytes.result.now c.in-Err-start_convoy.trouble n c.in-Err-start_convoy.ensures.fault;
      },
      (Keeps-refl _, (both (g.L.Journal.contents c.args.file.now) (g.L.Journal.contents c.start_convoy.new.file) (g.L.Journal.contents c.args.arrivals.now) (g.L.Journal.contents c.start_convoy.new.arrivals) c.in-Err-start_convoy.ensures.same c.in-Err-start_convoy.ensures.same_arrivals), c.in-Err-start_convoy.ensures.same_beside),
    )))

pub open_both-requires-clause-starts : goal.open_both-requires-clause-starts
open_both-requires-clause-starts g c =
    let site : Site = c.in-Ok.kept.setting in
    start_of_file c.args.options.now.fleet site (g.L.Journal.contents c.args.file.now) (g.L.Journal.contents c.start_convoy.new.file) c.in-Ok-start_convoy.started.0 c.in-Ok-start_convoy.ensures.ok c.in-Ok-start_convoy.ensures.same

pub returns-in-Err-open_both-clause-fault : goal.returns-in-Err-open_both-clause-fault
returns-in-Err-open_both-clause-fault g c =
    let site : Site = c.in-Ok.kept.setting in
    stops_opening _ _ _ _ c.args.options.now.fleet c.args.options.now.tail c.args.options.now.told c.args.options.now.anew c.args.pace _ _ _ _ site c.in-Ok-start_convoy.started.0 c.in-Ok-start_convoy.started.2 c.in-Ok-start_convoy.started.3.0.items c.in-Ok-start_convoy.started.3.1.items
    c.as_slice-bytes.result.now (kept_at _ _ site _ _ c.as_slice-bytes.ensures.value c.in-Ok.ensures.ok) (search rules)
    c.in-Ok-start_convoy.started.1 c.in-Ok-start_convoy.ensures.stands c.in-Ok-start_convoy.ensures.ok c.in-Ok-start_convoy.ensures.has_log c.in-Ok-start_convoy.ensures.within _ c.from-ahead.ensures c.in-Ok-start_convoy.ensures.over c.in-Ok-start_convoy.ensures.seated
    c.in-Err-open_both.fault _ _ _ _ _ _ _ _ c.keep_trouble.ensures (both (g.L.Journal.contents c.args.file.now) (g.L.Journal.contents c.start_convoy.new.file) (g.L.Journal.contents c.args.arrivals.now) (g.L.Journal.contents c.start_convoy.new.arrivals) c.in-Ok-start_convoy.ensures.same c.in-Ok-start_convoy.ensures.same_arrivals) c.in-Ok-start_convoy.ensures.same_beside refl c.in-Err-open_both.ensures.fault

pub returns-in-Ok-left-clause-ok : goal.returns-in-Ok-left-clause-ok
returns-in-Ok-left-clause-ok g c =
    let site : Site = c.in-Ok.kept.setting in
    serves_convoy _ _ _ _ c.args.options.now.fleet c.args.options.now.tail c.args.options.now.told c.args.options.now.anew c.args.pace _ _ _ _ site c.in-Ok-start_convoy.started.0 c.in-Ok-start_convoy.started.2 c.in-Ok-start_convoy.started.3.0.items c.in-Ok-start_convoy.started.3.1.items
    c.as_slice-bytes.result.now (kept_at _ _ site _ _ c.as_slice-bytes.ensures.value c.in-Ok.ensures.ok) (search rules)
    c.in-Ok-start_convoy.started.1 c.in-Ok-start_convoy.ensures.stands c.in-Ok-start_convoy.ensures.ok c.in-Ok-start_convoy.ensures.has_log c.in-Ok-start_convoy.ensures.within _ c.from-ahead.ensures c.in-Ok-start_convoy.ensures.over c.in-Ok-start_convoy.ensures.seated
    _ _ _ _ _ _ _ (both (g.L.Journal.contents c.args.file.now) (g.L.Journal.contents c.start_convoy.new.file) (g.L.Journal.contents c.args.arrivals.now) (g.L.Journal.contents c.start_convoy.new.arrivals) c.in-Ok-start_convoy.ensures.same c.in-Ok-start_convoy.ensures.same_arrivals) c.in-Ok-open_both.begun c.in-Ok-open_both.ensures.book c.in-Ok-open_both.ensures.opens refl _ (ap log_asker c.form_of.ensures) _ c.from.ensures _ c.in-Ok-start_convoy.ensures.same_beside c.in-Ok-open_both.ensures.ok c.in-Ok-open_both.ensures.synced
    c.in-Ok-left.left c.in-Ok-left.ensures.ok

pub returns-clause-fault : goal.returns-clause-fault
returns-clause-fault g c =
    let site : Site = c.in-Ok.kept.setting in
    stops_convoy _ _ _ _ c.args.options.now.fleet c.args.options.now.tail c.args.options.now.told c.args.options.now.anew c.args.pace _ _ _ _ site c.in-Ok-start_convoy.started.0 c.in-Ok-start_convoy.started.2 c.in-Ok-start_convoy.started.3.0.items c.in-Ok-start_convoy.started.3.1.items
    c.as_slice-bytes.result.now (kept_at _ _ site _ _ c.as_slice-bytes.ensures.value c.in-Ok.ensures.ok) (search rules)
    c.in-Ok-start_convoy.started.1 c.in-Ok-start_convoy.ensures.stands c.in-Ok-start_convoy.ensures.ok c.in-Ok-start_convoy.ensures.has_log c.in-Ok-start_convoy.ensures.within _ c.from-ahead.ensures c.in-Ok-start_convoy.ensures.over c.in-Ok-start_convoy.ensures.seated
    _ _ _ _ _ _ _ (both (g.L.Journal.contents c.args.file.now) (g.L.Journal.contents c.start_convoy.new.file) (g.L.Journal.contents c.args.arrivals.now) (g.L.Journal.contents c.start_convoy.new.arrivals) c.in-Ok-start_convoy.ensures.same c.in-Ok-start_convoy.ensures.same_arrivals) c.in-Ok-open_both.begun c.in-Ok-open_both.ensures.book c.in-Ok-open_both.ensures.opens refl _ (ap log_asker c.form_of.ensures) _ c.from.ensures _ c.in-Ok-start_convoy.ensures.same_beside c.in-Ok-open_both.ensures.ok c.in-Ok-open_both.ensures.synced
    c.in-Err-left.trouble _ _ c.in-Err-left.ensures.fault

pub returns-then-not-nofollow-clause-fault : goal.returns-then-not-nofollow-clause-fault
returns-then-not-nofollow-clause-fault g c = inr (inl (
  record {
    is = refl;
    site = c.in-Ok.kept.setting;
    text = c.in-Ok.kept.text.items;
    site_read = c.in-Ok.ensures.ok;
    rule = search rules;
  },
  (Keeps-refl _, refl, refl),
))

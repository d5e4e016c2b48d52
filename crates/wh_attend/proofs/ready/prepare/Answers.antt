use Rattle.std.proofs.Common.{◌∙◌, inl, inr, refl}
use Rattle.wh_points.specs.Points.{Site}
use Rattle.wh_service.proofs.Lasting.{kept_at}
use Rattle.wh_attend.proofs.Attended.{staffed_on, stands_as}
use Rattle.wh_attend.proofs.Callers.{callers_few}
use Rattle.wh_service.proofs.Lasting.{start_of_file}
use Rattle.wh_attend.proofs.ready.prepare.Goals as goal

pub returns-in-None-clause-starts : goal.returns-in-None-clause-starts
returns-in-None-clause-starts g c =
    start_of_file c.args.options.now.fleet c.in-Ok.kept.setting (g.L.Journal.contents c.args.file.now) (g.L.Journal.contents c.start_aside.new.file) c.in-Ok-start_aside.started.0 c.in-Ok-start_aside.ensures.ok c.in-Ok-start_aside.ensures.same

pub make_staff-requires-clause-callers : goal.make_staff-requires-clause-callers
make_staff-requires-clause-callers g c κs within =
    let site : Site = c.in-Ok.kept.setting in
    callers_few c.args.options.now.fleet site _ c.in-Ok-start_aside.started.0 c.in-Ok-start_aside.ensures.ok

pub returns-in-Err-start_aside-clause-fault : goal.returns-in-Err-start_aside-clause-fault
returns-in-Err-start_aside-clause-fault g c =
    let site : Site = c.in-Ok.kept.setting in
    inr (inr (inl (
      c.in-Ok.ensures.alone,
      record {
        site = site;
        text = c.as_slice-bytes.result.now;
        site_read = kept_at _ _ site _ _ c.as_slice-bytes.ensures.value c.in-Ok.ensures.ok;
        why = inl c.in-Err-start_aside.ensures.fault;
      },
    )))

pub returns-in-Err-make_staff-clause-fault : goal.returns-in-Err-make_staff-clause-fault
returns-in-Err-make_staff-clause-fault g c =
    let site : Site = c.in-Ok.kept.setting in
    inr (inr (inl (
      c.in-Ok.ensures.alone,
      record {
        site = site;
        text = c.in-Ok.kept.text.items;
        site_read = c.in-Ok.ensures.ok;
        why = inr (record {
          start = c.in-Ok-start_aside.started.0;
          starts = c.in-Ok-start_aside.ensures.ok;
          why = c.in-Err-make_staff.ensures.fault;
        });
      },
    )))

pub returns-in-Some-clause-fault : goal.returns-in-Some-clause-fault
returns-in-Some-clause-fault g c =
    let site : Site = c.in-Ok.kept.setting in
    inr (inr (inr (
      c.in-Some.client,
      refl,
      record {
        site = site;
        run = record {
          text = c.in-Ok.kept.text;
          found = c.in-Ok-start_aside.started.1;
          start = c.in-Ok-start_aside.started.0;
          planners = c.in-Ok-make_staff.staff.planners;
          clients = c.in-Ok-make_staff.staff.clients;
        };
        ready = record {
          site_read = c.in-Ok.ensures.ok;
          alone = c.in-Ok.ensures.alone;
          stands = stands_as _ _ _ _ c.as_slice-bytes.ensures.value c.in-Ok-start_aside.ensures.stands;
          starts = c.in-Ok-start_aside.ensures.ok;
          has_log = c.in-Ok-start_aside.ensures.has_log;
          staffed = staffed_on _ _ _ _ _ _ _ _ _ (c.in-Ok-try_clone.ensures ∙ c.shared_grid.ensures) c.in-Ok-make_staff.ensures.ok;
        };
      },
    )))

pub returns-in-None-clause-ok : goal.returns-in-None-clause-ok
returns-in-None-clause-ok g c = (
  c.in-Ok.kept.setting,
  record {
    site_read = c.in-Ok.ensures.ok;
    alone = c.in-Ok.ensures.alone;
    stands = stands_as _ _ _ _ c.as_slice-bytes.ensures.value c.in-Ok-start_aside.ensures.stands;
    starts = c.in-Ok-start_aside.ensures.ok;
    has_log = c.in-Ok-start_aside.ensures.has_log;
    staffed = staffed_on _ _ _ _ _ _ _ _ _ (c.in-Ok-try_clone.ensures ∙ c.shared_grid.ensures) c.in-Ok-make_staff.ensures.ok;
  },
)

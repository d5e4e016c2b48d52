use Rattle.std.proofs.Common.{Option, [], ap, sym, subst}
use Rattle.wh_core.specs.States.{State}
use Rattle.wh_log.specs.Logs.{most_stops}
use Rattle.wh_resume.specs.Resuming.{Tells, TellsBook}
use Rattle.wh_resume.specs.declared.recovery.Preface.{Preface}
use Rattle.wh_resume.specs.declared.recovery.Recovery.{Recovery}
use Rattle.wh_snapshot.specs.Snapshots.{HaveCallers}
use Rattle.wh_snapshot.proofs.Callers.{callers_kept}
use Rattle.wh_work_rows.proofs.snapshot.book.Goals as goal

pub returns-in-None-clause-entries : goal.returns-in-None-clause-entries
returns-in-None-clause-entries c =
    let r = c.in-Resumed.resumed in
    let text = c.in-Ok.ensures.told.0 in
    let said = subst (λ (f : Recovery). Tells c.in_ok-setting.setting [] text f) c.in-Resumed.is c.in-Ok.ensures.told.2 in
    let book = subst (λ (p : Option Preface). TellsBook c.in_ok-setting.setting text r p) c.in-None.is said in
    subst HaveCallers (sym book.2.history_is) (callers_kept (most_stops r.version) book.0.entries book.1.fits.entries)

pub returns-in-None-clause-none : goal.returns-in-None-clause-none
returns-in-None-clause-none c =
    let r = c.in-Resumed.resumed in
    let text = c.in-Ok.ensures.told.0 in
    let said = subst (λ (f : Recovery). Tells c.in_ok-setting.setting [] text f) c.in-Resumed.is c.in-Ok.ensures.told.2 in
    let book = subst (λ (p : Option Preface). TellsBook c.in_ok-setting.setting text r p) c.in-None.is said in
    ap (λ (s : State). s.tasks) book.2.opening_is

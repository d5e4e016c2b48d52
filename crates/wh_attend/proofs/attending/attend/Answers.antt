use Rattle.std.proofs.Common.{◌∙◌, ap, inl, inr, refl, sym, subst, Some}
use Rattle.std.specs.Prelude.{option_map}
use Rattle.wh_desk.specs.Drafts.{Seen}
use Rattle.wh_journal.specs.Surviving.{HoldsLog}
use Rattle.wh_attend.proofs.Attended.{attends, ok_anyhow, opens_as, stands_at, stays_before, stops, stops_opening, unbegun, untold}
use Rattle.wh_attend.proofs.attending.attend.Goals as goal

pub open_both-requires-clause-stands : goal.open_both-requires-clause-stands
open_both-requires-clause-stands g c = stands_at _ _ _ _ _ c.in-Ok.ensures.same_beside c.as_slice.ensures.value c.in-Ok.ensures.ok.1.stands

pub returns-in-Err-clause-fault : goal.returns-in-Err-clause-fault
returns-in-Err-clause-fault g c = inl (c.in-Err.ensures.fault, ap Some c.in-Err.ensures.same, c.in-Err.ensures.same_beside)

pub returns-in-Err-open_both-clause-fault : goal.returns-in-Err-open_both-clause-fault
returns-in-Err-open_both-clause-fault g c =
    let r = c.in-Ok.ensures.ok in
    stops_opening _ _ _ _ _ _ _ _ _ _ _ _ r.0 c.in-Ok.ready r.1 _ c.in-Ok.ensures.same_beside c.in-Err-open_both.fault _ _ _ _ _ _ c.keep_trouble-trouble.ensures refl c.in-Ok.ensures.same c.as_slice.ensures.value c.in-Err-open_both.ensures.fault

pub returns-in-Err-begin-clause-fault : goal.returns-in-Err-begin-clause-fault
returns-in-Err-begin-clause-fault g c =
    let r = c.in-Ok.ensures.ok in
    stops _ _ _ _ _ _ _ _ _ _ _ _ r.0 c.in-Ok.ready r.1 _ c.in-Ok.ensures.same_beside (opens_as _ _ _ _ c.as_slice.ensures.value c.in-Ok-open_both.ensures.ok) c.in-Ok-open_both.ensures.synced
    _ _ (inl (unbegun _ _ _ _ _ _ _ c.in-Ok.ensures.same c.in-Ok-open_both.ensures.opens c.in-Err-begin.ensures.fault))

pub returns-clause-fault : goal.returns-clause-fault
returns-clause-fault g c =
    let r = c.in-Ok.ensures.ok in
    stops _ _ _ _ _ _ _ _ _ _ _ _ r.0 c.in-Ok.ready r.1 _ c.in-Ok.ensures.same_beside (opens_as _ _ _ _ c.as_slice.ensures.value c.in-Ok-open_both.ensures.ok) c.in-Ok-open_both.ensures.synced
    _ _ (inr c.in-Err-serve_all.ensures.fault)

pub serve_all-requires-clause-log : goal.serve_all-requires-clause-log
serve_all-requires-clause-log g c κs within =
    subst (λ (b : Seen). HoldsLog (g.L.Journal.contents c.begin.new.file) b) (sym c.in-Ok-begin.ensures.book) c.in-Ok-begin.ensures.holds

pub serve_all-requires-clause-few : goal.serve_all-requires-clause-few
serve_all-requires-clause-few g c κs within = c.in-Ok.ensures.ok.1.staffed.clients_are.few

pub returns-in-Ok-serve_all-clause-ok : goal.returns-in-Ok-serve_all-clause-ok
returns-in-Ok-serve_all-clause-ok g c =
    let r = c.in-Ok.ensures.ok in
    let ran = c.in-Ok-serve_all.ran in
    attends _ _ _ _ _ _ _ _ _ _ _ _ r.0 c.in-Ok.ready r.1 _ c.in-Ok.ensures.same_beside (opens_as _ _ _ _ c.as_slice.ensures.value c.in-Ok-open_both.ensures.ok) c.in-Ok-open_both.ensures.synced
    c.in-Ok-begin.warehouse.book ran.history.warehouse.book (c.in-Ok-begin.ensures.book ∙ c.in-Ok-open_both.ensures.book) c.in-Ok-serve_all.ensures.origin c.in-Ok-serve_all.ensures.ok
    ran.last (option_map g.V.Screen.shown ran.screen) (ap (option_map g.V.Screen.shown) c.end_run.ensures.screen) c.in-Ok-serve_all.ensures.boards
    g.L.Journal.contents g.L.Journal.synced c.end_run.result _ _ _ _ ran.is_whole c.in-Ok.ensures.same (stays_before _ _ _ _ _ _ c.in-Ok-open_both.ensures.opens c.in-Ok-open_both.ensures.book c.in-Ok-begin.ensures.stays) c.in-Ok-serve_all.ensures.journal
    c.end_run.ensures.whole c.end_run.ensures.ends c.end_run.ensures.synced c.end_run.ensures.shown

pub returns-in-Ok-serve_all-clause-fault : goal.returns-in-Ok-serve_all-clause-fault
returns-in-Ok-serve_all-clause-fault g c =
    let r = c.in-Ok.ensures.ok in
    let ran = c.in-Ok-serve_all.ran in
    untold _ _ _ _ _ _ _ _ _ _ _ _ r.0 c.in-Ok.ready r.1 _ c.in-Ok.ensures.same_beside (opens_as _ _ _ _ c.as_slice.ensures.value c.in-Ok-open_both.ensures.ok) c.in-Ok-open_both.ensures.synced
    c.in-Ok-begin.warehouse.book ran.history.warehouse.book (c.in-Ok-begin.ensures.book ∙ c.in-Ok-open_both.ensures.book) c.in-Ok-serve_all.ensures.origin c.in-Ok-serve_all.ensures.ok
    ran.last (option_map g.V.Screen.shown ran.screen) (ap (option_map g.V.Screen.shown) c.end_run.ensures.screen) c.in-Ok-serve_all.ensures.boards
    (λ e. e.trouble) (λ e. option_map g.L.Journal.contents e.file) c.end_run.result _ _ _ _ ran.is_whole c.in-Ok.ensures.same (stays_before _ _ _ _ _ _ c.in-Ok-open_both.ensures.opens c.in-Ok-open_both.ensures.book c.in-Ok-begin.ensures.stays) c.in-Ok-serve_all.ensures.journal
    c.end_run.ensures.left c.end_run.ensures.fault

pub returns-in-Ok-serve_all-clause-asked : goal.returns-in-Ok-serve_all-clause-asked
returns-in-Ok-serve_all-clause-asked g c = ok_anyhow c.end_run.result _ c.in-Ok.ensures.asked

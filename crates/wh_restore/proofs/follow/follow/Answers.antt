use Rattle.std.proofs.Common.{◌≡◌, ℕ, false, Err, sym, ap, ◌∙◌, subst, refl}
use Rattle.wh_front.specs.Drafts.{is_done}
use Rattle.wh_front.specs.Places.{Reach}
use Rattle.wh_restore.specs.declared.reason.RestoreFault.TheVariants as faults
use Rattle.wh_restore.specs.Restoring.{fault_at, unread}
use Rattle.wh_restore.proofs.Following.{IsRestoring, IsTaken, restoring_starts, restoring_room, restoring_next, restoring_unread, restoring_refused}
use Rattle.wh_restore.proofs.follow.follow.Goals as goal

pub loop-alloc-init : goal.loop-alloc-init
loop-alloc-init c =
    subst (λ (r : Reach). IsRestoring c.args.restoring.now.builder.site c.args.restoring.now.rules c.args.text.now r c.args.restoring.now) (sym c.begin-reader.ensures)
    (restoring_starts c.args.restoring.now.builder.site c.args.restoring.now.rules c.args.text.now c.args.restoring.now c.requires refl refl)

pub take-requires-clause-fits : goal.take-requires-clause-fits
take-requires-clause-fits c = c.in-Ok.ensures.next.fits

pub take-requires-clause-room : goal.take-requires-clause-room
take-requires-clause-room c =
    restoring_room c.args.restoring.now.builder.site c.args.restoring.now.rules c.args.text.now c.loop-alloc.reader c.loop-alloc.restoring c.in-Ok.line c.next_line.new.self.rest c.loop-alloc.invariant c.in-Ok.ensures.next

pub loop-alloc-preserved : goal.loop-alloc-preserved
loop-alloc-preserved c =
    let e = c.in-Ok-take.ensures in
    let taken : IsTaken c.loop-alloc.restoring c.in-Ok.line c.take.new.self = record { heard = e.heard; head = e.head; callers = e.callers; site = e.site; rules = e.rules; fit = e.fit } in
    restoring_next c.args.restoring.now.builder.site c.args.restoring.now.rules c.args.text.now c.loop-alloc.reader c.next_line.new.self c.loop-alloc.restoring c.take.new.self c.in-Ok.line c.loop-alloc.invariant c.in-Ok.ensures.next
    c.in-Ok.ensures.goes taken

pub returns-in-Err-take-clause-line : goal.returns-in-Err-take-clause-line
returns-in-Err-take-clause-line c = λ n reason e.
    let said : c.at.result ≡ faults.Line n reason = cc in
    restoring_refused c.args.restoring.now.builder.site c.args.restoring.now.rules c.args.text.now c.loop-alloc.reader c.loop-alloc.restoring c.in-Ok.line c.next_line.new.self.rest c.in-Err-take.refusal n reason c.loop-alloc.invariant
    c.in-Ok.ensures.next c.in-Err-take.ensures.flaw c.in-Err-take.ensures.complete (ap (λ (k : ℕ). fault_at k c.in-Err-take.refusal) (sym c.number-number.ensures) ∙ sym c.at.ensures ∙ said)

pub returns-in-Err-clause-line : goal.returns-in-Err-clause-line
returns-in-Err-clause-line c = λ n reason e.
    let going : is_done c.loop-alloc.reader.place.stage ≡ false = sym c.is_done.ensures ∙ c.loop-alloc-test.true in
    let said : c.unread.result ≡ faults.Line n reason = cc in
    restoring_unread c.args.restoring.now.builder.site c.args.restoring.now.rules c.args.text.now c.loop-alloc.reader c.loop-alloc.restoring c.in-Err.fault n reason c.loop-alloc.invariant going
    (λ e. c.in-Err.ensures.form (ap Err e), λ e. c.in-Err.ensures.count (ap Err e)) (ap (λ (k : ℕ). unread k c.in-Err.fault) (sym c.number-number.ensures) ∙ sym c.unread.ensures ∙ said)

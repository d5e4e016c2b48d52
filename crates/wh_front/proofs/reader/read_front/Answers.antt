use Rattle.std.proofs.Common.{◌≡◌, ℕ, false, Err, sym, ap, ◌∙◌}
use Rattle.wh_front.specs.declared.reader.FrontFault.TheVariants as bad
use Rattle.wh_front.specs.Drafts.{is_done}
use Rattle.wh_front.specs.Places.{Reach, fault_at}
use Rattle.wh_front.proofs.Standing.{told_starts, told_goes, told_only, fault_only, fault_line}
use Rattle.wh_front.proofs.reader.read_front.Goals as goal

pub loop-alloc-init : goal.loop-alloc-init
loop-alloc-init c = told_starts c.args.text.now c.none-front.result c.begin-reader.result c.none-front.ensures c.begin-reader.ensures

pub loop-alloc-preserved : goal.loop-alloc-preserved
loop-alloc-preserved c =
    told_goes c.args.text.now c.loop-alloc.front c.take.new.self c.loop-alloc.reader c.next_line.new.self c.in-Ok.line c.loop-alloc.invariant c.in-Ok.ensures.next c.in-Ok.ensures.goes c.in_ok-take-in-Ok.ensures

pub returns-in-Err-clause-only : goal.returns-in-Err-clause-only
returns-in-Err-clause-only c = λ front rest fits is.
    let going : is_done c.loop-alloc.reader.place.stage ≡ false = sym c.is_done.ensures ∙ c.loop-alloc-test.true in
    c.fault_at.ensures
    ∙ fault_only c.args.text.now c.loop-alloc.front c.loop-alloc.reader c.number.result c.in-Err.fault c.loop-alloc.invariant going (λ e. c.in-Err.ensures.form (ap Err e), λ e. c.in-Err.ensures.count (ap Err e)) front rest fits is

pub returns-in-Err-clause-line : goal.returns-in-Err-clause-line
returns-in-Err-clause-line c = λ n e.
    let going : is_done c.loop-alloc.reader.place.stage ≡ false = sym c.is_done.ensures ∙ c.loop-alloc-test.true in
    let said : c.fault_at.result ≡ bad.At n = cc in
    let number : c.number.result ≡ c.loop-alloc.reader.number = c.number.ensures ∙ ap (λ (r : Reach). r.number) c.in-Err.ensures.kept in
    fault_line c.args.text.now c.loop-alloc.front c.loop-alloc.reader c.in-Err.fault n c.loop-alloc.invariant going (λ e. c.in-Err.ensures.form (ap Err e), λ e. c.in-Err.ensures.count (ap Err e))
    (ap (λ (k : ℕ). fault_at k c.in-Err.fault) (sym number) ∙ sym c.fault_at.ensures ∙ said)

pub returns-clause-only : goal.returns-clause-only
returns-clause-only c = λ front rest fits is.
    let p = told_only c.args.text.now c.loop-alloc.front c.loop-alloc.reader c.loop-alloc.invariant (sym c.is_done.ensures ∙ c.loop-alloc-test.false) front rest fits is in
    (p.0, c.rest.ensures ∙ p.1)

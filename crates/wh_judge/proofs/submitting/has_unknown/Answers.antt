use Rattle.std.proofs.Common.{◌≡◌, ◌∙◌, sym, false, subst}
use Rattle.wh_book.specs.declared.setting.Fault.{Fault}
use Rattle.wh_book.specs.Settings.{IsFault}
use Rattle.wh_judge.proofs.PointNames.{stations-no_unknown, unknown-no_parking_fault, unknown-iff, name-read}
use Rattle.wh_judge.proofs.submitting.has_unknown.Goals as goal

pub returns-in-Ok : goal.returns-in-Ok
returns-in-Ok c =
    let site = c.args.instance.now in
    let all = rw c.points-points.ensures.value at c.in-Ok.ensures.places in
    (λ e. cc, λ p. absurd (stations-no_unknown site c.args.stops.now _ c.args.name.now all p.1 p.2))

pub returns-in-Err-Unknown : goal.returns-in-Err-Unknown
returns-in-Err-Unknown c =
    let site = c.args.instance.now in
    let stops = c.args.stops.now in
    let is_open : c.args.floor.now.state.closed ≡ false = sym c.closed.ensures ∙ c.if-closed.false in
    let found = rw c.points-points.ensures.value at c.in-Err-Unknown.ensures.fault in
    let fault = subst (λ (f : Fault). IsFault site.layout stops f) c.in-Err-Unknown.field-0-is found in
    let read = name-read stops c.in-Err-Unknown.k c.index-as_slice-k.result fault.0 (rw c.as_slice.ensures.value at c.index-as_slice-k.is) in
    let iff = unknown-iff site stops c.in-Err-Unknown.k c.args.name.now c.index-as_slice-k.result c.same.result fault read c.same.ensures in
    (λ t. (is_open, (iff.0 t).0, (iff.0 t).1), λ p. iff.1 (p.1, p.2))

pub returns-in-Err-Parking : goal.returns-in-Err-Parking
returns-in-Err-Parking c =
    let site = c.args.instance.now in
    let stops = c.args.stops.now in
    let found = rw c.points-points.ensures.value at c.in-Err-Parking.ensures.fault in
    let fault = subst (λ (f : Fault). IsFault site.layout stops f) c.in-Err-Parking.field-0-is found in
    (λ e. cc, λ p. absurd (unknown-no_parking_fault site stops _ c.args.name.now c.points-points.ensures.layout fault p.1 p.2))

use Rattle.std.proofs.Common.{◌≡◌, refl, ◌+◌, subst, arith}
use Rattle.wh_path.specs.Paths.{cell_at, last_index}
use Rattle.wh_timetable.specs.declared.stay.Stay.{Stay}
use Rattle.wh_timetable.specs.Stays.{endless}
use Rattle.wh_timetable.specs.Places.{IsNoted}
use Rattle.wh_timetable.proofs.PlaceLemmas.{there_now, there_last, noted_none, noted_more}
use Rattle.wh_timetable.proofs.places.note_all.Goals as goal

pub loop-k-init : goal.loop-k-init
loop-k-init c = noted_none c.args.cells.now c.args.agent c.args.now c.args.places.now

pub loop-k-preserved : goal.loop-k-preserved
loop-k-preserved c =
    let cells = c.args.cells.now in
    let now = c.args.now in
    let k = c.loop-k.k in
    let stay : Stay = record { cell = cell_at cells k; agent = c.args.agent; from = now + k; until = now + k + 1 } in
    noted_more cells c.args.agent now (now + (k + 1)) c.args.places.now c.loop-k.places c.put_at.new.places stay (omega arith) refl (omega arith) (omega arith)
    (λ t from until. there_now cells now k (omega arith) t from (omega arith)) c.loop-k.invariant (c.put_at.ensures c.if-not-put_at.false)

pub returns-clause-noted : goal.returns-clause-noted
returns-clause-noted c = λ done.
    let cells = c.args.cells.now in
    let now = c.args.now in
    let last = last_index cells in
    let k_is : c.loop-k.k ≡ last = omega arith in
    let stay : Stay = record { cell = cell_at cells last; agent = c.args.agent; from = now + last; until = endless } in
    noted_more cells c.args.agent now endless c.args.places.now c.loop-k.places c.put_at-2.new.places stay (omega arith) refl refl (omega arith)
    (λ t from until. there_last cells now last c.requires.path refl t from) (subst (λ k. IsNoted cells c.args.agent now (now + k) c.args.places.now c.loop-k.places) k_is c.loop-k.invariant) (c.put_at-2.ensures done)

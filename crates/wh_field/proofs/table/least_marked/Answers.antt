use Rattle.std.proofs.Common.{◌≡◌, ℕ, ◌+◌, List, [], ◌∷◌, ◌++◌, get_or, take, sym, subst, arith}
use Rattle.std.proofs.lemmas.List.{take_more, get_or_default}
use Rattle.wh_field.specs.Tables.{value, IsLeastAmong}
use Rattle.wh_field.proofs.Forgets.{numbered_inside}
use Rattle.wh_field.proofs.Marked.{least_stays, least_falls}
use Rattle.wh_field.proofs.table.least_marked.Goals as goal
use Rattle.wh_field.proofs.table.least_marked.Goals.{then-marks-place+then-steps-least, else-marks-place, else-marks-place-via-then-marks-place+else-steps-least, else-marks-place-via-else-marks-place}

pub loop-place-preserved : goal.loop-place-preserved
loop-place-preserved c =
    let t = c.args.table.now in
    let marks = c.args.marks.now in
    let mark = c.args.mark in
    let l = c.loop-place in
    let done = take l.place-index c.args.places.now in
    let place = get_or c.args.places.now l.place-index 0 in
    let more : take (l.place-index + 1) c.args.places.now ≡ done ++ place ∷ [] = take_more c.args.places.now l.place-index 0 c.loop-place-test.true in
    let inside = numbered_inside t place (c.requires.numbered l.place-index 0 c.loop-place-test.true) in
    let read : get_or t place 0 ≡ value t place = get_or_default t place 0 4294967294 inside in
    let P : ℕ → List ℕ → Type 0 = λ n xs. IsLeastAmong marks mark t xs n in
    subst (P c.if-marks-place.least) (sym more) (elim c.if-marks-place.branch [
      | then-marks-place+then-steps-least w ↦
          let less = w.if-steps-least.true in
          subst (λ n. P n (done ++ place ∷ [])) (sym w.least-is) (least_falls marks mark t done place l.least (get_or t place 0) w.if-marks-place.true (sym read) less l.invariant)
      | else-marks-place w ↦ subst (λ n. P n (done ++ place ∷ [])) (sym w.least-is) (least_stays marks mark t done place l.least (elim w.else-marks-place.branch [
        | else-marks-place-via-then-marks-place+else-steps-least v ↦ (λ has. let most = v.if-steps-least.false in omega arith)
        | else-marks-place-via-else-marks-place v ↦ (λ has. absurd (v.if-marks-place.false has))
      ]) l.invariant)
    ])

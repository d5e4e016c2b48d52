use Rattle.std.proofs.Common.{◌≡◌, ◌<◌, inl, inr, ◌∙◌, List, get_or, ap, sym, subst, arith}
use Rattle.std.proofs.lemmas.Bool.{cases_lt}
use Rattle.wh_grid.specs.declared.cell.Cell.{Cell}
use Rattle.wh_path.proofs.AtLemmas.{origin}
use Rattle.wh_field.specs.Sides.{around}
use Rattle.wh_detours.specs.Closed.{IsClosed}
use Rattle.wh_detours.specs.Barred.{sighted}
use Rattle.wh_detours.proofs.Ways.{all_tried}
use Rattle.wh_detours.proofs.barred.nearer.Goals.{else-estimate-here-via-then-estimate-here+else-not-is_closed, else-estimate-here-via-else-estimate-here}
use Rattle.wh_detours.proofs.barred.nearer.Goals as goal

pub loop-i-preserved : goal.loop-i-preserved
loop-i-preserved c = λ j one few less.
    let s = c.args.sight in
    let cell = c.args.cell in
    elim (cases_lt j c.loop-i.i) [
      | inl before ↦ c.loop-i.invariant j one before less
      | inr last ↦ (let e : c.loop-i.i ≡ j = omega arith in
          subst (λ k. IsClosed c.args.others.now c.args.loc (get_or (around cell) k origin)) e
          (elim c.else-estimate-here.branch [
            | else-estimate-here-via-then-estimate-here+else-not-is_closed w ↦ subst (λ (xs : List Cell). IsClosed c.args.others.now c.args.loc (get_or xs c.loop-i.i origin)) c.moves_from-beside.ensures.same (w.is_closed.ensures.0 w.if-not-is_closed.false)
            | else-estimate-here-via-else-estimate-here w ↦ absurd (let here = c.requires.here in
                let there : c.estimate.result ≡ sighted s (get_or (around cell) c.loop-i.i origin) = c.estimate.ensures ∙ ap (λ (xs : List Cell). sighted s (get_or xs c.loop-i.i origin)) c.moves_from-beside.ensures.same in
                let nearer : sighted s (get_or (around cell) c.loop-i.i origin) < sighted s cell = subst (λ k. sighted s (get_or (around cell) k origin) < sighted s cell) (sym e) less in
                let no = w.if-estimate-here.false in
                omega arith)
          ]))
    ]

pub returns-clause-none : goal.returns-clause-none
returns-clause-none c =
    let end : c.loop-i.i ≡ 5 = omega arith in
    all_tried c.args.grid.now c.args.others.now c.args.loc c.args.sight c.args.cell c.moves_from-beside.result c.moves_from-beside.ensures.same c.moves_from-beside.ensures.five c.moves_from-beside.ensures.complete
    (omega (arith, c.width-width.ensures.value, c.width-width.ensures.bound)) (omega (arith, c.height-height.ensures.value, c.height-height.ensures.bound))
    (λ j one few less. c.loop-i.invariant j one (omega arith) less)

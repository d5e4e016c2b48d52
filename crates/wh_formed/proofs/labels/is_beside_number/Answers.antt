use Rattle.std.proofs.Common.{inl, inr, get_or, All, sym, refl, subst, arith}
use Rattle.std.proofs.lemmas.Bool.{eq-eqb, eqb-true}
use Rattle.std.proofs.lemmas.List.{take_all}
use Rattle.std.proofs.lemmas.List.Elements.{All-more, All-contains, All-get_or}
use Rattle.wh_grid.specs.declared.cell.Cell.{Cell}
use Rattle.wh_grid.specs.Grids.{IsMove}
use Rattle.wh_formed.specs.Labels.{HasNumber}
use Rattle.wh_formed.proofs.labels.is_beside_number.Goals as goal

pub returns-then-number_of-number : goal.returns-then-number_of-number
returns-then-number_of-number c =
    let d : Cell = record { x = 0; y = 0 } in
    let around = c.neighbours-around.result in
    let k = c.args.number in (
      λ t. (
        get_or around c.loop-next.next-index d,
        All-get_or (λ r. IsMove c.args.cell r) around c.loop-next.next-index d (omega arith) c.neighbours-around.ensures.moves,
        (c.number_of.ensures k c.requires.positive).0 c.if-number_of-number.true,
      ),
      λ h. refl,
    )

pub loop-next-preserved : goal.loop-next-preserved
loop-next-preserved c =
    let d : Cell = record { x = 0; y = 0 } in
    All-more (λ r. ¬ HasNumber c.args.grid.now c.args.numbers.now r c.args.number) c.neighbours-around.result c.loop-next.next-index d (omega arith) c.loop-next.invariant
    (λ h. c.if-number_of-number.false ((c.number_of.ensures c.args.number c.requires.positive).1 h))

pub returns : goal.returns
returns c =
    let P : Cell → Type 0 = λ r. ¬ HasNumber c.args.grid.now c.args.numbers.now r c.args.number in
    let around = c.neighbours-around.result in
    let k = c.args.number in
    let all : All P around = subst (All P) (take_all c.loop-next.next-index around (omega arith)) c.loop-next.invariant in (
      λ t. (c.args.cell, inl refl, (c.number_of-2.ensures k c.requires.positive).0 (eqb-true c.number_of-2.result k t)),
      λ h. elim h.1 [
        | inl e ↦ eq-eqb c.number_of-2.result k ((c.number_of-2.ensures k c.requires.positive).1 (subst (λ (r : Cell). HasNumber c.args.grid.now c.args.numbers.now r k) (sym e) h.2))
        | inr n ↦ absurd (All-contains P around h.0 all (c.neighbours-around.ensures.complete h.0 h.2.in_width h.2.in_height n) h.2)
      ],
    )

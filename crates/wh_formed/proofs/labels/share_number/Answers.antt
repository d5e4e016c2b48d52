use Rattle.std.proofs.Common.{ℕ, ◌<◌, inl, inr, All, sym, refl, subst, arith}
use Rattle.std.proofs.lemmas.List.{take_all}
use Rattle.std.proofs.lemmas.List.Elements.{All-more, All-contains}
use Rattle.wh_grid.specs.declared.cell.Cell.{Cell}
use Rattle.wh_formed.specs.Labels.{HasNumber, IsBesideNumber}
use Rattle.wh_formed.proofs.labels.share_number.Goals as goal

pub loop-next-preserved : goal.loop-next-preserved
loop-next-preserved c =
    let d : Cell = record { x = 0; y = 0 } in
    All-more (λ r. ¬ ((k : ℕ) × (0 < k) × HasNumber c.args.grid.now c.args.numbers.now r k × IsBesideNumber c.args.grid.now c.args.numbers.now c.args.a k)) c.neighbours-around.result c.loop-next.next-index d (omega arith) c.loop-next.invariant
    (λ h. let t = c.if-is_beside_number_of.ensures.1 h in cc)

pub returns : goal.returns
returns c =
    let P : Cell → Type 0 = λ r. ¬ ((k : ℕ) × (0 < k) × HasNumber c.args.grid.now c.args.numbers.now r k × IsBesideNumber c.args.grid.now c.args.numbers.now c.args.a k) in
    let around = c.neighbours-around.result in
    let all : All P around = subst (All P) (take_all c.loop-next.next-index around (omega arith)) c.loop-next.invariant in (
      λ t. (let h = c.is_beside_number_of-2.ensures.0 t in (h.0, h.1, h.3, (c.args.b, inl refl, h.2))),
      λ h. (let m = h.3 in elim m.1 [
        | inl e ↦ c.is_beside_number_of-2.ensures.1 (h.0, h.1, subst (λ (r : Cell). HasNumber c.args.grid.now c.args.numbers.now r h.0) (sym e) m.2, h.2)
        | inr n ↦ absurd (All-contains P around m.0 all (c.neighbours-around.ensures.complete m.0 m.2.in_width m.2.in_height n) (h.0, h.1, m.2, h.2))
      ]),
    )

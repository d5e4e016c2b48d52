use Rattle.std.proofs.Common.{◌≡◌, ℕ, inl, inr, subst, refl, arith}
use Rattle.std.proofs.lemmas.Bool.{cases_lt}
use Rattle.wh_formed.specs.Labels.{AreLinked}
use Rattle.wh_path.specs.Paths.{cell_at}
use Rattle.wh_formed.proofs.checker.first_unlinked.Goals as goal

pub loop-b-preserved : goal.loop-b-preserved
loop-b-preserved c =
    let P : ℕ → Type 0 = λ k. AreLinked c.args.grid.now c.args.numbers.now (cell_at c.args.cells.now c.args.a) (cell_at c.args.cells.now k) in
    let here : P c.loop-b.b = c.if-not-are_linked.ensures.0 refl in
    (omega arith, λ k low high. elim (cases_lt k c.loop-b.b) [ inl h ↦ c.loop-b.invariant.1 k low h | inr h ↦ subst P (let e : c.loop-b.b ≡ k = omega arith in e) here ])

pub returns : goal.returns
returns c = λ b low high. c.loop-b.invariant.1 b low (omega arith)

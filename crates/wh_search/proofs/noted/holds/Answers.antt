use Rattle.std.proofs.Common.{◌≡◌, All, refl, subst, arith}
use Rattle.std.proofs.lemmas.List.{take_all}
use Rattle.std.proofs.lemmas.List.Elements.{All-contains, All-more}
use Rattle.wh_grid.specs.declared.cell.Cell.{Cell}
use Rattle.wh_search.proofs.noted.holds.Goals as goal

pub returns : goal.returns
returns c =
    let P : Cell → Type 0 = λ d. d ≡ c.args.cell → ⊥ in
    let none = subst (All P) (take_all c.loop-c.c-index c.args.cells.now (omega arith)) c.loop-c.invariant in
    (λ e. cc, λ h. absurd (All-contains P c.args.cells.now c.args.cell none h refl))

pub loop-c-preserved : goal.loop-c-preserved
loop-c-preserved c =
    let P : Cell → Type 0 = λ d. d ≡ c.args.cell → ⊥ in
    All-more P c.args.cells.now c.loop-c.c-index (record { x = 0; y = 0 }) (omega arith) c.loop-c.invariant (λ e. let t = c.is.ensures.1 e in cc)

use Rattle.std.proofs.Common.{ℕ, sym, subst, ◌∙◌, arith}
use Rattle.std.proofs.lemmas.Bool.{false≢true}
use Rattle.wh_grid.specs.declared.cell.Cell.{Cell}
use Rattle.wh_path.specs.Paths.{at, last_index}
use Rattle.wh_resv.specs.Calls.{IsVacant}
use Rattle.wh_resv.specs.Others.{MayStep, MayRest}
use Rattle.wh_judge.proofs.Steps.{all_step, all_end, all_vacant, all_free}
use Rattle.wh_judge.proofs.course.goes_free.Goals as goal

pub returns-then-not-vacant : goal.returns-then-not-vacant
returns-then-not-vacant c =
    let others = c.args.others.now in (
      λ no. absurd (false≢true no),
      λ free. absurd (false≢true (sym c.if-not-vacant.true ∙ c.vacant.ensures.1 (subst (λ (d : Cell). IsVacant others.paths d 0) (sym c.at.ensures) (all_vacant others c.args.path.now free 0)))),
    )

pub returns-then-not-may_enter : goal.returns-then-not-may_enter
returns-then-not-may_enter c =
    let others = c.args.others.now in
    let k = c.loop-k.k in (
      λ no. absurd (false≢true no),
      λ free. absurd (false≢true (sym c.if-not-may_enter.true ∙ c.may_enter.ensures.1
          (subst (λ (d : Cell). MayStep others d c.at-in-loop-k-2.result k) (sym c.at-in-loop-k.ensures)
          (subst (λ (d : Cell). MayStep others (at c.args.path.now k) d k) (sym c.at-in-loop-k-2.ensures) (all_step others c.args.path.now free k))))),
    )

pub returns : goal.returns
returns c =
    let others = c.args.others.now in
    let path = c.args.path.now in
    let k = c.loop-k.k in (
      λ yes. all_free others path (λ j b. c.loop-k.invariant.steps j (let done = c.loop-k-test.false in let value = c.remaining-k-end.ensures.value in omega arith))
          (subst (λ (d : Cell). MayRest others d (last_index path)) c.end.ensures (subst (λ (n : ℕ). MayRest others c.end.result n) c.remaining.ensures.value (c.may_rest.ensures.0 yes))),
      λ free. c.may_rest.ensures.1
          (subst (λ (n : ℕ). MayRest others c.end.result n) (sym c.remaining.ensures.value) (subst (λ (d : Cell). MayRest others d (last_index path)) (sym c.end.ensures) (all_end others path free))),
    )

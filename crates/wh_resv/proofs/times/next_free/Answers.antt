use Rattle.std.proofs.Common.{◌≡◌, inl, inr, ◌∙◌, remove, sym, subst, arith}
use Rattle.std.proofs.lemmas.Bool.{cases_lt, false≢true}
use Rattle.wh_resv.specs.Calls.{IsVacant}
use Rattle.wh_resv.proofs.Later.{never_later}
use Rattle.wh_resv.proofs.times.next_free.Goals as goal

pub loop-time-preserved : goal.loop-time-preserved
loop-time-preserved c =
    let until = c.in-Some.ensures.some in
    let later = until.from in
    record {
      from = omega arith;
      taken = λ j late soon. elim (cases_lt j c.loop-time.time) [ inl b ↦ c.loop-time.invariant.taken j late b | inr b ↦ until.taken j b soon ];
    }

pub returns-else-none_there-clause-none : goal.returns-else-none_there-clause-none
returns-else-none_there-clause-none c =
    let others = remove c.args.paths.now c.args.except in
    let time = c.loop-time.time in
    let before = c.loop-time.invariant in
    let rest = c.requires.rest in
    let done = c.loop-time-test.false in
    let from = before.from in
    never_later others c.args.cell c.args.k time from (omega arith)
    (λ j late within v. elim (cases_lt j time) [
      | inl b ↦ before.taken j late b v
      | inr b ↦ (let e : j ≡ time = omega arith in false≢true (sym c.if-none_there.false ∙ c.none_there.ensures.1 (subst (λ n. IsVacant others c.args.cell n) e v)))
    ])

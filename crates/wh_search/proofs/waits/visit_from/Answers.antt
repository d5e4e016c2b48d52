use Rattle.std.proofs.Common.{◌≡◌, ◌-◌, inl, inr, ◌∙◌, sym, subst, arith}
use Rattle.std.proofs.lemmas.Bool.{cases_lt, false≢true}
use Rattle.wh_resv.specs.Calls.{IsVacant}
use Rattle.wh_search.proofs.waits.visit_from.Goals as goal

pub returns-then-free-eq0 : goal.returns-then-free-eq0
returns-then-free-eq0 c = λ j since may. elim (cases_lt j c.in-Some.free) [
  | inl b ↦ absurd (c.in-Some.ensures.some.taken j (c.loop-time.invariant j since may) b may.vacant)
  | inr b ↦ b
]

pub loop-time-preserved : goal.loop-time-preserved
loop-time-preserved c = λ j since may. elim (cases_lt c.in-Some.free j) [
  | inl b ↦ omega (arith, c.saturating_add-time.ensures)
  | inr b ↦ elim (cases_lt j c.in-Some.free) [
    | inl early ↦ absurd (c.in-Some.ensures.some.taken j (c.loop-time.invariant j since may) early may.vacant)
    | inr late ↦ (let now : j - 1 ≡ c.in-Some.free - 1 = omega arith in
        let rule = sym c.nofollow.ensures ∙ c.if-not-nofollow.false in
        absurd (false≢true (sym c.if-vacant.false ∙ c.vacant.ensures.1 (subst (λ n. IsVacant c.args.others.now.paths c.args.cell n) now (may.follows_none rule)))))
  ]
]

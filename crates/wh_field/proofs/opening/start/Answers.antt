use Rattle.std.proofs.Common.{◌≡◌, ℕ, ◌+◌, ◌*◌, List, [], ◌∷◌, ◌++◌, inl, inr, ◌∙◌, set, sym, ap, subst, arith}
use Rattle.wh_field.specs.Tables.{value}
use Rattle.wh_field.specs.Places.{IsStarted, place}
use Rattle.wh_field.proofs.Starts.{start_one, start_skip}
use Rattle.wh_field.proofs.opening.start.Goals as goal

pub returns-in-Some-clause-started : goal.returns-in-Some-clause-started
returns-in-Some-clause-started c = λ g avoid sources v h s.
    let cell = c.args.source in
    let t = c.args.table.now in
    let q = c.args.queue.now.items in
    let t' = c.visit.new.table in
    let q' = c.visit.new.queue.items in
    let e = c.in-Some.ensures.inside in
    let wx = e.0 in
    let here : c.in-Some.place ≡ place g cell = e.2 ∙ ap (λ (w : ℕ). (cell.y + 1) * (w + 1) + cell.x) (sym v) in
    let P : List ℕ → Type 0 = λ x. IsStarted g avoid (sources ++ cell ∷ []) x q' in
    elim c.visit.ensures.visited [
      | inl a ↦ (let Q : List ℕ → Type 0 = λ x. IsStarted g avoid (sources ++ cell ∷ []) t x in
          subst P (sym a.1) (subst Q (sym a.2) (start_skip g avoid sources t q cell (λ p z. a.0 (ap (λ i. value t i) here ∙ z)) s)))
      | inr a ↦ (let Q : List ℕ → Type 0 = λ x. IsStarted g avoid (sources ++ cell ∷ []) (set t c.in-Some.place 0) x in
          subst P (sym a.1) (subst Q (sym a.2) (start_one g avoid sources t q cell c.in-Some.place (omega arith) here a.0 s)))
    ]

pub returns-in-None-clause-started : goal.returns-in-None-clause-started
returns-in-None-clause-started c = λ g avoid sources v h s.
    start_skip g avoid sources c.args.table.now c.args.queue.now.items c.args.source
    (λ p z. c.in-None.ensures.outside (let a = p.in_width in let b = p.in_height in (omega arith, omega arith))) s

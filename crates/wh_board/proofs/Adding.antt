-- The exchange that adds a past keeps the rule.
use Rattle.std.proofs.Common.{◌≡◌, ℕ, ◌+◌, ◌<◌, ◌==◌, Bool, true, false, List, [], ◌∷◌, ◌++◌, length, refl, ap, sym, ◌∙◌, subst, arith, inl, length-append, None}
use Rattle.std.proofs.lemmas.List.{append-nil}
use Rattle.std.proofs.lemmas.Bool.Decides.{nat_tests}
use mathlib.Core.List.{IsPrefix}
use prog.Atomic.{either}
use Rattle.logbook.specs.Pages.{Cell, cell, keeps, no_nib, step, Moves, Goes}
use Rattle.wh_board.specs.Pasts.{Past}
use Rattle.wh_board.specs.Pasts.{Extends, IsChain, latest}
use Rattle.wh_board.specs.Rules.{IsKept, Adds}
use Rattle.wh_board.proofs.Fronts.{prefix_whole}
use Rattle.wh_board.proofs.Chains.{chain_snoc}

abbrev pub shown : List Past → List Past
shown log = []

abbrev pub moved : List Past → List Past → ℕ → Type 0
moved xs ys n = Unit {0}

pub adds_goes : (log v : List Past) (e : Past) (old n : ℕ) → length v ≡ old + 1 → Extends (latest v) e → IsPrefix v log → length log ≡ n + 1 → IsChain log
    → (b : Bool) → (n == old) ≡ b
    → Goes IsKept shown moved 0 (v, (no_nib, None)) (λ n. either (n == old) (old + 1) n) (Adds (step 0 old (old + 1) e) (v, (no_nib, None))) ((n, true) ∷ []) log
adds_goes log v e old n len more pre long chain true is =
    let here : n ≡ old = grind (arith, nat_tests) in
    let same : v ≡ log = prefix_whole v log pre (omega arith) in
    let chain' : IsChain (log ++ e ∷ []) = chain_snoc log e chain (subst (λ (l : List Past). Extends (latest l) e) same more) in (
      keeps,
      e ∷ [],
      None,
      tt,
      record { count = old + 1; long = omega (arith, length-append log (e ∷ [])); words = rw is refl; chain = chain' },
      inl (refl, refl),
      rw is (ap (λ w. w ++ e ∷ []) (sym same)),
    )
adds_goes log v e old n len more pre long chain false is =
    let all : log ++ [] ≡ log = append-nil log in (
      keeps,
      [],
      None,
      tt,
      record { count = n; long = ap length all ∙ long; words = rw is refl; chain = subst IsChain (sym all) chain },
      inl (refl, refl),
      rw is tt,
    )

-- whatever the book is, the exchange adds the past to all that was seen, or finds another number
pub adds_moves : (v : List Past) (e : Past) (old : ℕ) → length v ≡ old + 1 → Extends (latest v) e
    → Moves IsKept shown moved 0 (v, (no_nib, None)) (λ n. either (n == old) (old + 1) n) (Adds (step 0 old (old + 1) e) (v, (no_nib, None)))
adds_moves v e old len more cs log kept pre away =
    let P : List Cell → Type 0 = λ c. (0 < length c) × ((cell c 0).1 ≡ true) × Goes IsKept shown moved 0 (v, (no_nib, None)) (λ n. either (n == old) (old + 1) n) (Adds (step 0 old (old + 1) e) (v, (no_nib, None))) c log in
    subst P (sym kept.words) (omega arith, refl, adds_goes log v e old kept.count len more pre kept.long kept.chain (kept.count == old) refl)

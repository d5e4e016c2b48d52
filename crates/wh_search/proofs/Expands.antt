-- the moves of one step, and the stops that it visits
use Rattle.std.proofs.Common.{◌≡◌, ℕ, inl, inr, List, get_or, arith}
use Rattle.std.proofs.lemmas.Bool.{cases_lt}
use Rattle.wh_grid.specs.declared.cell.Cell.{Cell}
use Rattle.wh_search.specs.States.{Arrives}

abbrev pub move_at : List Cell → ℕ → Cell
move_at moves i = get_or moves i (record { x = 0; y = 0 })

-- how many stops are behind is determined
pub arrives_one : (via : List Cell) (l : ℕ) (c : Cell) (m n : ℕ) → Arrives via l c m → Arrives via l c n → m ≡ n
arrives_one via l c m n a b =
    let mf = a.few in
    let nf = b.few in
    let mw = a.forward in
    let nw = b.forward in
    elim (cases_lt m n) [
      | inl x ↦ absurd (a.stuck (omega arith) (b.visited m (omega arith) x))
      | inr x ↦ elim (cases_lt n m) [
        | inl y ↦ absurd (b.stuck (omega arith) (a.visited n (omega arith) y))
        | inr y ↦ (let e : m ≡ n = omega arith in e)
      ]
    ]

-- the Manhattan distance gives an estimate
use Rattle.std.proofs.Common.{◌≡◌, ℕ, ◌+◌, ◌-◌, ◌≤◌, ◌∙◌, List, length, take, drop, get_or, Contains, sym, ap, subst, inl, inr, arith}
use Rattle.wh_grid.specs.declared.cell.Cell.{Cell}
use Rattle.wh_grid.specs.Grids.{Floor, IsMove}
use Rattle.wh_path.specs.Paths.{cell_at}
use Rattle.wh_search.specs.Manhattan.{manhattan, by_manhattan, manhattan_estimate, IsOnwardByManhattan}
use Rattle.wh_search.specs.States.{IsEstimate}
use Rattle.wh_search.proofs.Stops.{via_stop, via_size, last_only, one_only}

-- a move changes it by at most 1
manhattan_near : (goal r c : Cell) → IsMove r c → manhattan r goal ≤ manhattan c goal + 1
manhattan_near goal r c (inl e) =
    let F : Cell → Type 0 = λ d. manhattan r goal ≤ manhattan d goal + 1 in
    subst F e (omega arith)
manhattan_near goal r c (inr (inl (y, inl x))) = omega (arith, y, x)
manhattan_near goal r c (inr (inl (y, inr x))) = omega (arith, y, x)
manhattan_near goal r c (inr (inr (x, inl y))) = omega (arith, y, x)
manhattan_near goal r c (inr (inr (x, inr y))) = omega (arith, y, x)

by_manhattan_falls : (goal r c : Cell) (k : ℕ) → IsMove r c → by_manhattan goal k r ≤ by_manhattan goal k c + 1
by_manhattan_falls goal r c k m = let near = manhattan_near goal r c m in omega (arith, near)

-- at the stop itself it is no more than what is further on
by_manhattan_there : (goal : Cell) (k : ℕ) → by_manhattan goal k goal ≤ k
by_manhattan_there goal k = omega arith

pub estimates_by_manhattan : (g : Floor) (stops via ends : List Cell) (onward : List ℕ) → 2 ≤ length stops → via ≡ take (length stops - 1) stops → ends ≡ drop (length stops - 1) stops
    → IsOnwardByManhattan stops onward → IsEstimate g via ends (manhattan_estimate stops onward)
estimates_by_manhattan g stops via ends onward many v e o =
    let n = length stops - 1 in
    let size : length via ≡ n = ap length v ∙ via_size stops in
    record {
      at_end = λ c b inside.
          let is : cell_at stops n ≡ c = one_only (cell_at stops n) c (subst (λ (w : List Cell). Contains w c) (e ∙ last_only stops n (omega arith)) b) in
          let goes : cell_at stops (length via) ≡ c = ap (cell_at stops) size ∙ is in
          let zero_on = o.last (length via) (omega arith) in
          let there = by_manhattan_there (cell_at stops (length via)) (get_or onward (length via) 0) in
          let E : Cell → Type 0 = λ d. manhattan_estimate stops onward (length via) d ≡ 0 in
          subst E goes (omega (arith, there, zero_on));
      falls = λ l r c few p q m. by_manhattan_falls (cell_at stops l) r c (get_or onward l 0) m;
      visits = λ l b inside.
          let here : cell_at via l ≡ cell_at stops l = ap (λ (w : List Cell). cell_at w l) v ∙ via_stop stops n l (omega arith) in
          let there = by_manhattan_there (cell_at stops l) (get_or onward l 0) in
          let on = o.before l (omega arith) in
          let V : Cell → Type 0 = λ d. manhattan_estimate stops onward l d ≤ manhattan_estimate stops onward (l + 1) d in
          subst V (sym here) (omega (arith, there, on));
    }

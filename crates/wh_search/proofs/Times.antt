-- what can be reached at one time and another, and when all others rest
use Rattle.std.proofs.Common.{Bool, ℕ, ◌+◌, ◌≤◌, ◌∙◌, List, [], ◌∷◌, All, arith}
use Rattle.std.proofs.lemmas.List.Elements.{All-nil, All-cons, All-head, All-tail}
use Rattle.wh_grid.specs.declared.cell.Cell.{Cell}
use Rattle.wh_grid.specs.Grids.{Floor}
use Rattle.wh_resv.specs.Others.{Others, IsClearStep, StaysAway, MayRest}
use Rattle.wh_path.specs.Paths.{horizon, last_index}
use Rattle.wh_path.proofs.AtLemmas.{at-rests}
use Rattle.wh_search.specs.Steps.{Go}

-- from its last index on, a path treats a step at one time as at any other
pub clear_later : (nofollow : Bool) (q : List Cell) (r c : Cell) (j k : ℕ) → last_index q ≤ j → last_index q ≤ k → IsClearStep nofollow q r c j → IsClearStep nofollow q r c k
clear_later nofollow q r c j k hj hk s =
    let here = at-rests q j k hj hk in
    let there = at-rests q (j + 1) (k + 1) (omega arith) (omega arith) in
    record {
      start = λ e. s.start (here ∙ e);
      target = λ e. s.target (there ∙ e);
      no_swap = λ e f. s.no_swap (here ∙ e) (there ∙ f);
      no_follow = λ r ne. (λ e. (s.no_follow r ne).0 (here ∙ e), λ e. (s.no_follow r ne).1 (there ∙ e));
    }

clear_all_later : (nofollow : Bool) (paths : List (List Cell)) (r c : Cell) (j k : ℕ) → horizon paths ≤ j → horizon paths ≤ k → All (λ q. IsClearStep nofollow q r c j) paths → All (λ q. IsClearStep nofollow q r c k) paths
clear_all_later nofollow [] r c j k hj hk m = All-nil (λ q. IsClearStep nofollow q r c k)
clear_all_later nofollow (q ∷ paths) r c j k hj hk m =
    All-cons (λ p. IsClearStep nofollow p r c k) q paths
    (clear_later nofollow q r c j k (omega arith) (omega arith) (All-head (λ p. IsClearStep nofollow p r c j) q paths m))
    (clear_all_later nofollow paths r c j k (omega arith) (omega arith) (All-tail (λ p. IsClearStep nofollow p r c j) q paths m))

away_all_later : (paths : List (List Cell)) (c : Cell) (j k : ℕ) → horizon paths ≤ j → horizon paths ≤ k → All (λ q. StaysAway q c j) paths → All (λ q. StaysAway q c k) paths
away_all_later [] c j k hj hk m = All-nil (λ q. StaysAway q c k)
away_all_later (q ∷ paths) c j k hj hk m =
    All-cons (λ p. StaysAway p c k) q paths
    (let a = All-head (λ p. StaysAway p c j) q paths m in record { away = λ i h e. a.away j (omega arith) (at-rests q j i (omega arith) (omega arith) ∙ e) })
    (away_all_later paths c j k (omega arith) (omega arith) (All-tail (λ p. StaysAway p c j) q paths m))

pub may_rest_later : (others : Others) (c : Cell) (j k : ℕ) → horizon others.paths ≤ j → horizon others.paths ≤ k → MayRest others c j → MayRest others c k
may_rest_later others c j k hj hk m = away_all_later others.paths c j k hj hk m

pub go_later : (g : Floor) (others : Others) (r c : Cell) (j k : ℕ) → horizon others.paths ≤ j → horizon others.paths ≤ k → Go g others j r c → Go g others k r c
go_later g others r c j k hj hk s =
    record { passable = s.passable; move = s.move; may = clear_all_later others.nofollow others.paths r c j k hj hk s.may }

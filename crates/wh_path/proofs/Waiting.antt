-- to wait until the others rest, and then to walk
use Rattle.std.proofs.Common.{◌≡◌, ◌≢◌, ℕ, ◌+◌, ◌-◌, ◌<◌, ◌≤◌, ◌∙◌, ◌⊎◌, inl, inr, List, [], ◌∷◌, Bool, length, sym, subst, ap, arith}
use Prim.Native.Nat.{zero, suc}
use Rattle.std.specs.Prelude.{All}
use Rattle.std.proofs.lemmas.Bool.{cases_lt}
use Rattle.std.proofs.lemmas.List.{get_or_default}
use Rattle.wh_grid.specs.declared.cell.Cell.{Cell}
use Rattle.wh_grid.specs.Grids.{Floor, IsPassable, IsMove}
use Rattle.wh_path.specs.Paths.{at, end, last_index, path_of, place_of, steps_left, others, horizon, IsWalk, IsFree, AllFree}
use Rattle.wh_path.proofs.AtLemmas.{at-beyond, at-resting}
use Rattle.wh_grid.proofs.Removed.{all_removed-at, all_removed-from}
use Rattle.wh_path.proofs.Trips.{IsTrip, run_of, at-run_of, all-run_of, walk-run_of, end-run_of}

pub horizon-most : (paths : List (List Cell)) → All (λ q. last_index q ≤ horizon paths) paths
horizon-most [] k d h = absurd (omega arith)
horizon-most (p ∷ ps) zero d h = omega arith
horizon-most (p ∷ ps) (suc k) d h = (let e = horizon-most ps k d (omega arith) in omega arith)

-- at each time p is as the own path is, or q rests at a cell from which p stays away
pub free-from_own : (nofollow : Bool) (p q own : List Cell) → IsFree nofollow own q →
    ((k : ℕ) → ((at p k ≡ at own k) × (at p (k + 1) ≡ at own (k + 1)))
    ⊎ ((at q k ≡ end q) × (at q (k + 1) ≡ end q) × (at p k ≢ end q) × (at p (k + 1) ≢ end q))) →
    IsFree nofollow p q
free-from_own nofollow p q own free cases = record {
  apart = λ k m. elim (cases k) [
    | inl s ↦ free.apart k (sym s.0 ∙ m)
    | inr r ↦ r.2 (m ∙ r.0)
  ];
  no_swap = λ k s. elim (cases k) [
    | inl o ↦ free.no_swap k (sym o.0 ∙ s.0, sym o.1 ∙ s.1)
    | inr r ↦ r.2 (s.0 ∙ r.1)
  ];
  no_follow = λ rule k f. elim (cases k) [
    | inl o ↦ elim f [
      | inl e ↦ free.no_follow rule k (inl (sym o.1 ∙ e))
      | inr e ↦ free.no_follow rule k (inr (e ∙ o.0))
    ]
    | inr r ↦ elim f [
      | inl e ↦ r.3 (e ∙ r.0)
      | inr e ↦ r.2 (sym e ∙ r.1)
    ]
  ];
}

-- the path that waits at the first cell of a trip until time h, and then goes on the trip
abbrev pub waited : ℕ → (ℕ → Cell) → ℕ → List Cell
waited h f n = run_of (λ k. f (k - h)) (h + n)

pub at-waited : (h : ℕ) (f : ℕ → Cell) (n k : ℕ) → k ≤ n → at (waited h f n) (h + k) ≡ f k
at-waited h f n k le =
    let e : h + k - h ≡ k = omega arith in
    at-run_of (λ i. f (i - h)) (h + n) (h + k) (omega arith) ∙ ap f e

pub end-waited : (h : ℕ) (f : ℕ → Cell) (n : ℕ) → end (waited h f n) ≡ f n
end-waited h f n =
    let e : h + n - h ≡ n = omega arith in
    end-run_of (λ i. f (i - h)) (h + n) ∙ ap f e

at-waiting : (h : ℕ) (f : ℕ → Cell) (n k : ℕ) → k ≤ h → at (waited h f n) k ≡ f 0
at-waiting h f n k le =
    let e : k - h ≡ 0 = omega arith in
    at-run_of (λ i. f (i - h)) (h + n) k (omega arith) ∙ ap f e

pub starts-waited : (h : ℕ) (f : ℕ → Cell) (n : ℕ) → at (waited h f n) 0 ≡ f 0
starts-waited h f n = at-waiting h f n 0 (omega arith)

all-waited : (P : Cell → Type 0) (h : ℕ) (f : ℕ → Cell) (n : ℕ) → ((k : ℕ) → k ≤ n → P (f k)) → (k : ℕ) → P (at (waited h f n) k)
all-waited P h f n each = all-run_of P (λ i. f (i - h)) (h + n) (λ k le. each (k - h) (omega arith))

pub walk-waited : (g : Floor) (Ok : Cell → Type 0) (h : ℕ) (f : ℕ → Cell) (n : ℕ) (a b : Cell) → ((c : Cell) → Ok c → IsPassable g c) → IsTrip Ok f n a b →
    IsWalk g (waited h f n)
walk-waited g Ok h f n a b passable trip = walk-run_of g (λ i. f (i - h)) (h + n) (λ k le. passable (f (k - h)) (trip.ok (k - h) (omega arith)))
    (λ k lt. elim (cases_lt k h) [
      | inl l ↦
          let e : k - h ≡ k + 1 - h = omega arith in
          inl (ap f e)
      | inr l ↦
          let e : k - h + 1 ≡ k + 1 - h = omega arith in
          subst (λ i. IsMove (f (k - h)) (f i)) e (trip.moves (k - h) (omega arith))
    ])

-- an own path that stays at the first cell of the trip, and another that rests from h on at a cell from which the trip stays away
free-waited-one : (nofollow : Bool) (own q : List Cell) (Ok : Cell → Type 0) (h : ℕ) (f : ℕ → Cell) (n : ℕ) (a b : Cell) → IsFree nofollow own q →
    last_index q ≤ h → ((k : ℕ) → at own k ≡ f 0) → ((c : Cell) → Ok c → c ≢ end q) → IsTrip Ok f n a b → IsFree nofollow (waited h f n) q
free-waited-one nofollow own q Ok h f n a b free rests still away trip =
    let apart : (k : ℕ) → at (waited h f n) k ≢ end q = all-waited (λ c. c ≢ end q) h f n (λ k le. away (f k) (trip.ok k le)) in
    free-from_own nofollow (waited h f n) q own free (λ k. elim (cases_lt k h) [
      | inl l ↦ inl (at-waiting h f n k (omega arith) ∙ sym (still k), at-waiting h f n (k + 1) (omega arith) ∙ sym (still (k + 1)))
      | inr l ↦ inr (at-beyond q k (omega arith), at-beyond q (k + 1) (omega arith), apart k, apart (k + 1))
    ])

-- an agent at rest that waits until all others rest, and then goes on a trip that meets no end of theirs, is free of them
pub free-waited : (nofollow : Bool) (paths : List (List Cell)) (agent : ℕ) (Ok : Cell → Type 0) (f : ℕ → Cell) (n : ℕ) (to : Cell) →
    AllFree nofollow paths → agent < length paths → steps_left paths agent ≡ 0 →
    ((c : Cell) → Ok c → (j : ℕ) → j < length paths → j ≢ agent → end (path_of paths j) ≢ c) →
    IsTrip Ok f n (place_of paths agent) to →
    All (λ other. IsFree nofollow (waited (horizon (others paths agent)) f n) other) (others paths agent)
free-waited nofollow paths agent Ok f n to free known rests away trip =
    let h = horizon (others paths agent) in
    let own = path_of paths agent in
    let still : (k : ℕ) → at own k ≡ f 0 = λ k. at-resting own k rests ∙ sym (at-resting own 0 rests) ∙ sym trip.starts in
    all_removed-from (λ other. IsFree nofollow (waited h f n) other) paths agent (λ j d j_in ne.
    let few : last_index (path_of paths j) ≤ h = all_removed-at (λ q. last_index q ≤ h) paths agent j [] (horizon-most (others paths agent)) j_in ne in
    subst (λ q. IsFree nofollow (waited h f n) q) (get_or_default paths j [] d j_in)
    (free-waited-one nofollow own (path_of paths j) Ok h f n (place_of paths agent) to
    (free.pair agent j known j_in (λ e. ne (sym e))) few still (λ c ok e. away c ok j j_in ne (sym e)) trip))

-- what a path's cells up to its end say of it at all times
use Rattle.std.proofs.Common.{◌≡◌, ◌≢◌, ℕ, ◌+◌, ◌-◌, ◌<◌, ◌≤◌, ◌∙◌, inl, inr, List, [], Bool, cond, ltb, min, length, get_or, sym, subst, ap, arith}
use Rattle.std.specs.Prelude.{All}
use Rattle.std.proofs.lemmas.Bool.{cases_lt}
use Rattle.std.proofs.lemmas.List.{get_or_default}
use Rattle.wh_grid.specs.declared.cell.Cell.{Cell}
use Rattle.wh_grid.specs.Grids.{Floor, IsPassable}
use Rattle.wh_path.specs.Paths.{path_of, others, at, cell_at, last_index, IsWalk, IsFree, VisitsInOrder}
use Rattle.wh_path.proofs.AtLemmas.{at-beyond}
use Rattle.wh_grid.proofs.Removed.{all_removed-at, all_removed-from}
use Rattle.wh_tasks.proofs.Loads.{lt-ltb, ge-ltb}
use Rattle.wh_planner.specs.Duties.{Delivers, IsLawful}
use Rattle.wh_path.specs.Conflicts.{IsFirstConflict}
use Rattle.wh_path.specs.declared.kind.Conflict.{Conflict}
use Rattle.wh_judge.specs.Courses.{GoesPast, IsWalkBefore}

at-rests : (p : List Cell) (j k : ℕ) → last_index p ≤ j → last_index p ≤ k → at p j ≡ at p k
at-rests p j k f g = at-beyond p j f ∙ sym (at-beyond p k g)

pub walk-all : (g : Floor) (p : List Cell) (n : ℕ) → 1 ≤ length p → last_index p < n → IsWalkBefore g p n → IsWalk g p
walk-all g p n some past before = record {
  non_empty = some;
  passable = λ k. elim (cases_lt k n) [
    | inl l ↦ before.passable k l
    | inr l ↦ subst (λ c. IsPassable g c) (at-rests p (last_index p) k (omega arith) (omega arith)) (before.passable (last_index p) past)
  ];
  moves = λ k. elim (cases_lt k n) [
    | inl l ↦ before.moves k l
    | inr l ↦ inl (at-rests p k (k + 1) (omega arith) (omega arith))
  ];
}

-- what has a first conflict is not free
pub conflict-not_free : (nofollow : Bool) (p q : List Cell) (conflict : Conflict) → IsFirstConflict nofollow p q conflict → ¬ IsFree nofollow p q
conflict-not_free nofollow p q (Conflict.Vertex k) first free = free.apart k first.1
conflict-not_free nofollow p q (Conflict.Swap k) first free = free.no_swap k first.2
conflict-not_free nofollow p q (Conflict.Follow k) first free = free.no_follow first.3 k first.4

-- after the times below k, so many stops were visited; and every way to visit all has its stops of those times among them
pub record IsVisiting (stops path : List Cell) (k visited : ℕ) : Type 0 where
  pub few : visited ≤ length stops
  pub when : ℕ → ℕ
  pub in_order : (i j : ℕ) → i ≤ j → when i ≤ when j
  pub there : (i : ℕ) → i < visited → at path (when i) ≡ cell_at stops i
  pub in_time : (i : ℕ) → when i ≤ k
  pub most : (any : VisitsInOrder path stops) (i : ℕ) → i < length stops → any.when i < k → i < visited

pub visiting-none : (stops path : List Cell) → IsVisiting stops path 0 0
visiting-none stops path = record {
  few = omega arith;
  when = λ i. 0;
  in_order = λ i j le. omega arith;
  there = λ i h. absurd (omega arith);
  in_time = λ i. omega arith;
  most = λ any i h l. absurd (omega arith);
}

abbrev extended : ℕ → (ℕ → ℕ) → ℕ → ℕ → ℕ
extended visited when k i = cond (ltb i visited) (when i) k

extended-low : (visited : ℕ) (when : ℕ → ℕ) (k i : ℕ) → i < visited → extended visited when k i ≡ when i
extended-low visited when k i h = ap (λ b. cond b (when i) k) (lt-ltb i visited h)

extended-high : (visited : ℕ) (when : ℕ → ℕ) (k i : ℕ) → visited ≤ i → extended visited when k i ≡ k
extended-high visited when k i h = ap (λ b. cond b (when i) k) (ge-ltb i visited h)

pub visiting-more : (stops path : List Cell) (k visited after : ℕ) → IsVisiting stops path k visited → GoesPast stops visited (at path k) after → IsVisiting stops path (k + 1) after
visiting-more stops path k visited after old past = record {
  few = past.few;
  when = extended visited old.when k;
  in_order = λ i j le. elim (cases_lt j visited) [
    | inl l ↦
        let a = extended-low visited old.when k i (omega arith) in
        let b = extended-low visited old.when k j l in
        let c = old.in_order i j le in
        omega arith
    | inr l ↦
        let b = extended-high visited old.when k j l in
        elim (cases_lt i visited) [
          | inl m ↦ (let a = extended-low visited old.when k i m in let c = old.in_time i in omega arith)
          | inr m ↦ (let a = extended-high visited old.when k i m in omega arith)
        ]
  ];
  there = λ i h. elim (cases_lt i visited) [
    | inl l ↦ ap (λ t. at path t) (extended-low visited old.when k i l) ∙ old.there i l
    | inr l ↦ ap (λ t. at path t) (extended-high visited old.when k i l) ∙ sym (past.each_here i l h)
  ];
  in_time = λ i. elim (cases_lt i visited) [
    | inl l ↦ (let a = extended-low visited old.when k i l in let c = old.in_time i in omega arith)
    | inr l ↦ (let a = extended-high visited old.when k i l in omega arith)
  ];
  most = λ any i h l. elim (cases_lt i after) [
    | inl m ↦ m
    | inr m ↦
        let order = any.in_order after i m in
        let forward = past.forward in
        elim (cases_lt (any.when after) k) [
          | inl early ↦ absurd (let c = old.most any after (omega arith) early in omega arith)
          | inr late ↦
              let now : any.when after ≡ k = omega arith in
              absurd (past.next_elsewhere (omega arith) (sym (any.there after (omega arith)) ∙ ap (λ t. at path t) now))
        ]
  ];
}

-- and what delivers has all of them visited by the end
pub delivers-visited : (stops path : List Cell) (k visited : ℕ) → IsVisiting stops path k visited → last_index path < k → 1 ≤ length stops →
    Delivers stops path → visited ≡ length stops
delivers-visited stops path k visited v past some d =
    let capped : VisitsInOrder path stops = record {
      when = λ i. min (d.visits.when i) (last_index path);
      in_order = λ i j le. (let h = d.visits.in_order i j le in omega arith);
      there = λ i h. elim (cases_lt (d.visits.when i) (last_index path)) [
        | inl l ↦
            let e : min (d.visits.when i) (last_index path) ≡ d.visits.when i = omega arith in
            ap (λ t. at path t) e ∙ d.visits.there i h
        | inr l ↦
            let e : min (d.visits.when i) (last_index path) ≡ last_index path = omega arith in
            ap (λ t. at path t) e ∙ at-rests path (last_index path) (d.visits.when i) (omega arith) l ∙ d.visits.there i h
      ];
    } in
    let last = v.most capped (length stops - 1) (omega arith) (omega arith) in
    let few = v.few in
    omega arith

-- what indexing gave is the path of the agent
pub path-read : (paths : List (List Cell)) (i : ℕ) (p : List Cell) → i < length paths → p ≡ get_or paths i p → p ≡ path_of paths i
path-read paths i p h e = e ∙ get_or_default paths i p [] h

pub others-more : (P : List Cell → Type 0) (paths : List (List Cell)) (agent i : ℕ) → ((j : ℕ) → j < i → j ≢ agent → P (path_of paths j)) →
    (i ≢ agent → P (path_of paths i)) → (j : ℕ) → j < i + 1 → j ≢ agent → P (path_of paths j)
others-more P paths agent i each last j h ne = elim (cases_lt j i) [
  | inl l ↦ each j l ne
  | inr l ↦
      let e : i ≡ j = omega arith in
      subst (λ k. P (path_of paths k)) e (last (λ same. ne (sym e ∙ same)))
]

pub others-all : (P : List Cell → Type 0) (paths : List (List Cell)) (agent i : ℕ) → length paths ≤ i →
    ((j : ℕ) → j < i → j ≢ agent → P (path_of paths j)) → All P (others paths agent)
others-all P paths agent i past each =
    all_removed-from P paths agent (λ j d h ne. subst P (get_or_default paths j [] d h) (each j (omega arith) ne))

pub others-at : (P : List Cell → Type 0) (paths : List (List Cell)) (agent i : ℕ) → All P (others paths agent) → i < length paths → i ≢ agent → P (path_of paths i)
others-at P paths agent i all h ne = all_removed-at P paths agent i [] all h ne

pub lawful-from : (g : Floor) (nofollow : Bool) (paths : List (List Cell)) (agent legs : ℕ) (Serves : List Cell → Type 0) (path : List Cell) →
    IsLawful g nofollow paths agent legs (λ p. Unit {0}) path → Serves path → IsLawful g nofollow paths agent legs Serves path
lawful-from g nofollow paths agent legs Serves path l serves = record {
  walk = l.walk;
  starts_here = l.starts_here;
  free = l.free;
  bounded = l.bounded;
  serves = serves;
}

pub course-from : (g : Floor) (nofollow : Bool) (paths : List (List Cell)) (agent legs : ℕ) (Serves : List Cell → Type 0) (path : List Cell) →
    IsLawful g nofollow paths agent legs Serves path → IsLawful g nofollow paths agent legs (λ p. Unit {0}) path
course-from g nofollow paths agent legs Serves path l = record {
  walk = l.walk;
  starts_here = l.starts_here;
  free = l.free;
  bounded = l.bounded;
  serves = tt;
}

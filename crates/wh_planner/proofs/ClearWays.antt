-- a clear way gives a lawful path: to go the own path until the others rest, and then on, and the way
use Rattle.std.proofs.Common.{◌≡◌, ◌≢◌, ℕ, ◌+◌, ◌-◌, ◌*◌, ◌<◌, ◌≤◌, ◌∙◌, inl, inr, Bool, List, [], ◌∷◌, length, refl, sym, subst, ap, arith}
use Rattle.std.proofs.lemmas.Bool.{cases_lt}
use Rattle.std.proofs.lemmas.List.{get_or_default}
use Rattle.wh_grid.specs.declared.cell.Cell.{Cell}
use Rattle.wh_grid.specs.Grids.{Floor, IsPassable, IsMove, passable_cells}
use Rattle.std.specs.Prelude.{Contains}
use Rattle.wh_grid.proofs.Removed.{all_removed-at, all_removed-from}
use Rattle.wh_path.specs.Paths.{end_of, at, end, last_index, path_of, others, ends, horizon, IsFree, IsWalk}
use Rattle.wh_path.proofs.AtLemmas.{at-beyond}
use Rattle.wh_path.proofs.Fleet.{no_end-at, no_end-from}
use Rattle.wh_path.proofs.Trips.{IsTrip, then_go, go-first, go-second, trip-short, run_of, at-run_of, at-run_of_past, all-run_of, end-run_of, last-run_of, walk-run_of}
use Rattle.wh_path.proofs.Tours.{last_of, last_of-is, Tour, tour-legs, legs-along}
use Rattle.wh_path.proofs.Waiting.{horizon-most, free-from_own}
use Rattle.wh_planner.specs.Duties.{Delivers, ParksAt, IsLawful, IsClearWay}
use Rattle.wh_planner.specs.Laws.{IsUnderWay}
use Rattle.wh_planner.proofs.Routes.{IsOff, off-passable}

off-away : (g : Floor) (paths : List (List Cell)) (agent : ℕ) (c : Cell) → IsOff g (ends (others paths agent)) c →
    (j : ℕ) → j < length paths → j ≢ agent → end (path_of paths j) ≢ c
off-away g paths agent c o j h ne = no_end-at paths agent c o.off j h ne

-- the own path up to time h, and then a trip
abbrev kept : List Cell → ℕ → (ℕ → Cell) → ℕ → List Cell
kept own h f n = run_of (then_go (λ k. at own k) h f) (h + n)

at-kept_first : (own : List Cell) (h : ℕ) (f : ℕ → Cell) (n k : ℕ) → k ≤ h → at (kept own h f n) k ≡ at own k
at-kept_first own h f n k le = at-run_of (then_go (λ i. at own i) h f) (h + n) k (omega arith) ∙ go-first (λ i. at own i) f h k le

at-kept : (own : List Cell) (h : ℕ) (f : ℕ → Cell) (n k : ℕ) → at own h ≡ f 0 → k ≤ n → at (kept own h f n) (h + k) ≡ f k
at-kept own h f n k meets le =
    let e : h + k - h ≡ k = omega arith in
    at-run_of (then_go (λ i. at own i) h f) (h + n) (h + k) (omega arith) ∙ go-second (λ i. at own i) f h (h + k) (omega arith) meets ∙ ap f e

end-kept : (own : List Cell) (h : ℕ) (f : ℕ → Cell) (n : ℕ) → at own h ≡ f 0 → end (kept own h f n) ≡ f n
end-kept own h f n meets =
    let e : h + n - h ≡ n = omega arith in
    end-run_of (then_go (λ i. at own i) h f) (h + n) ∙ go-second (λ i. at own i) f h (h + n) (omega arith) meets ∙ ap f e

-- from h on it is at cells of the trip
later-kept : (P : Cell → Type 0) (own : List Cell) (h : ℕ) (f : ℕ → Cell) (n k : ℕ) → at own h ≡ f 0 → ((i : ℕ) → i ≤ n → P (f i)) → h ≤ k → P (at (kept own h f n) k)
later-kept P own h f n k meets each from = elim (cases_lt (k - h) n) [
  | inl l ↦
      let e : h + (k - h) ≡ k = omega arith in
      subst P (sym (at-kept own h f n (k - h) meets (omega arith)) ∙ ap (λ i. at (kept own h f n) i) e) (each (k - h) (omega arith))
  | inr l ↦
      let past = at-run_of_past (then_go (λ i. at own i) h f) (h + n) k (omega arith) in
      subst P (sym (past ∙ sym (end-run_of (then_go (λ i. at own i) h f) (h + n)) ∙ end-kept own h f n meets)) (each n (omega arith))
]

-- it is free of another that rests from h on at a cell from which the trip stays away
free-kept_one : (nofollow : Bool) (own q : List Cell) (h : ℕ) (f : ℕ → Cell) (n : ℕ) → IsFree nofollow own q → last_index q ≤ h → at own h ≡ f 0 →
    ((i : ℕ) → i ≤ n → f i ≢ end q) → IsFree nofollow (kept own h f n) q
free-kept_one nofollow own q h f n free rests meets away =
    let apart : (k : ℕ) → h ≤ k → at (kept own h f n) k ≢ end q = λ k from. later-kept (λ c. c ≢ end q) own h f n k meets away from in
    free-from_own nofollow (kept own h f n) q own free (λ k. elim (cases_lt k h) [
      | inl l ↦ inl (at-kept_first own h f n k (omega arith), at-kept_first own h f n (k + 1) (omega arith))
      | inr l ↦ inr (at-beyond q k (omega arith), at-beyond q (k + 1) (omega arith), apart k l, apart (k + 1) (omega arith))
    ])

-- where the own path is when the others rest
abbrev pub met : List (List Cell) → ℕ → Cell
met paths agent = at (path_of paths agent) (horizon (others paths agent))

kept-lawful : (g : Floor) (nofollow : Bool) (paths : List (List Cell)) (agent legs : ℕ) (Serves : List Cell → Type 0) (f : ℕ → Cell) (n : ℕ) (to : Cell) →
    IsUnderWay g nofollow paths agent → IsTrip (IsOff g (ends (others paths agent))) f n (met paths agent) to → n ≤ legs * passable_cells g →
    Serves (kept (path_of paths agent) (horizon (others paths agent)) f n) → IsLawful g nofollow paths agent legs Serves (kept (path_of paths agent) (horizon (others paths agent)) f n)
kept-lawful g nofollow paths agent legs Serves f n to under trip short serves =
    let avoid = ends (others paths agent) in
    let own = path_of paths agent in
    let h = horizon (others paths agent) in
    let meets : at own h ≡ f 0 = sym trip.starts in
    let go = then_go (λ i. at own i) h f in
    record {
      walk = walk-run_of g go (h + n)
          (λ k le. elim (cases_lt k h) [
            | inl l ↦ subst (λ c. IsPassable g c) (sym (go-first (λ i. at own i) f h k (omega arith))) (under.walk.passable k)
            | inr l ↦ subst (λ c. IsPassable g c) (sym (go-second (λ i. at own i) f h k l meets)) (trip.ok (k - h) (omega arith)).passable
          ])
          (λ k lt. elim (cases_lt k h) [
            | inl l ↦ rw (go-first (λ i. at own i) f h k (omega arith), go-first (λ i. at own i) f h (k + 1) (omega arith)) (under.walk.moves k)
            | inr l ↦
                let e : k + 1 - h ≡ k - h + 1 = omega arith in
                rw (go-second (λ i. at own i) f h k l meets, go-second (λ i. at own i) f h (k + 1) (omega arith) meets, e) (trip.moves (k - h) (omega arith))
          ]);
      starts_here = at-kept_first own h f n 0 (omega arith);
      free = all_removed-from (λ other. IsFree nofollow (kept own h f n) other) paths agent (λ j d j_in ne.
          let few : last_index (path_of paths j) ≤ h = all_removed-at (λ q. last_index q ≤ h) paths agent j [] (horizon-most (others paths agent)) j_in ne in
          subst (λ q. IsFree nofollow (kept own h f n) q) (get_or_default paths j [] d j_in)
          (free-kept_one nofollow own (path_of paths j) h f n (under.free.pair agent j under.known j_in (λ e. ne (sym e))) few meets
          (λ i le e. off-away g paths agent (f i) (trip.ok i le) j j_in ne (sym e))));
      bounded = (let e = last-run_of go (h + n) in omega arith);
      serves = serves;
    }

-- from there the own path leads on to its end, and meets no end of another
pub rest_off : (g : Floor) (nofollow : Bool) (paths : List (List Cell)) (agent k : ℕ) → IsUnderWay g nofollow paths agent → horizon (others paths agent) ≤ k →
    IsOff g (ends (others paths agent)) (at (path_of paths agent) k)
rest_off g nofollow paths agent k under late = record {
  passable = under.walk.passable k;
  off = no_end-from paths agent (at (path_of paths agent) k) (λ j j_in ne e.
      let few : last_index (path_of paths j) ≤ horizon (others paths agent) =
      all_removed-at (λ q. last_index q ≤ horizon (others paths agent)) paths agent j [] (horizon-most (others paths agent)) j_in ne in
      (under.free.pair agent j under.known j_in (λ x. ne (sym x))).apart k (sym e ∙ sym (at-beyond (path_of paths j) k (omega arith))));
}

-- how much of the own path is then left
abbrev left : List (List Cell) → ℕ → ℕ
left paths agent = last_index (path_of paths agent) - horizon (others paths agent)

rest_end : (paths : List (List Cell)) (agent : ℕ) → at (path_of paths agent) (horizon (others paths agent) + left paths agent) ≡ end_of paths agent
rest_end paths agent = at-beyond (path_of paths agent) (horizon (others paths agent) + left paths agent) (omega arith)

-- on along the own path, and then the way
abbrev on : List (List Cell) → ℕ → List Cell → ℕ → Cell
on paths agent way = then_go (λ k. at (path_of paths agent) (horizon (others paths agent) + k)) (left paths agent) (λ k. at way k)

on-way : (paths : List (List Cell)) (agent k : ℕ) (way : List Cell) → at way 0 ≡ end_of paths agent → on paths agent way (left paths agent + k) ≡ at way k
on-way paths agent k way starts =
    let m = left paths agent in
    let e : m + k - m ≡ k = omega arith in
    go-second (λ i. at (path_of paths agent) (horizon (others paths agent) + i)) (λ i. at way i) m (m + k) (omega arith) (rest_end paths agent ∙ sym starts) ∙ ap (λ i. at way i) e

on-cases : (g : Floor) (nofollow : Bool) (paths : List (List Cell)) (agent : ℕ) (Serves : List Cell → Type 0) (way : List Cell) → IsUnderWay g nofollow paths agent →
    IsClearWay g paths agent Serves way → (k : ℕ) → IsOff g (ends (others paths agent)) (on paths agent way k) × IsMove (on paths agent way k) (on paths agent way (k + 1))
on-cases g nofollow paths agent Serves way under clear k =
    let h = horizon (others paths agent) in
    let m = left paths agent in
    let own = path_of paths agent in
    let f : ℕ → Cell = λ i. at own (h + i) in
    let w : ℕ → Cell = λ i. at way i in
    let Ok = IsOff g (ends (others paths agent)) in
    let meets : f m ≡ w 0 = rest_end paths agent ∙ sym clear.starts_here in
    elim (cases_lt k m) [
      | inl l ↦
          let e : h + (k + 1) ≡ h + k + 1 = omega arith in (
            subst Ok (sym (go-first f w m k (omega arith))) (rest_off g nofollow paths agent (h + k) under (omega arith)),
            rw (go-first f w m k (omega arith), go-first f w m (k + 1) (omega arith), e) (under.walk.moves (h + k)),
          )
      | inr l ↦
          let e : k + 1 - m ≡ k - m + 1 = omega arith in (
            subst Ok (sym (go-second f w m k l meets)) (record { passable = clear.walk.passable (k - m); off = clear.clear (k - m) }),
            rw (go-second f w m k l meets, go-second f w m (k + 1) (omega arith) meets, e) (clear.walk.moves (k - m)),
          )
    ]

on-starts : (paths : List (List Cell)) (agent : ℕ) (way : List Cell) → on paths agent way 0 ≡ met paths agent
on-starts paths agent way =
    let h = horizon (others paths agent) in
    let e : h + 0 ≡ h = omega arith in
    go-first (λ i. at (path_of paths agent) (h + i)) (λ i. at way i) (left paths agent) 0 (omega arith) ∙ ap (λ i. at (path_of paths agent) i) e

-- a tour serves a delivery, after the own path
delivers-kept : (g : Floor) (Ok : Cell → Type 0) (own : List Cell) (from : Cell) (stops : List Cell) (h : ℕ) → 1 ≤ length stops → at own h ≡ from → (tour : Tour g Ok from stops) →
    Delivers stops (kept own h tour.f tour.n)
delivers-kept g Ok own from [] h some meets tour = absurd (omega arith)
delivers-kept g Ok own from (stop ∷ stops) h some meets tour =
    let joins : at own h ≡ tour.f 0 = meets ∙ sym tour.trip.starts in
    record {
      visits = record {
        when = λ i. h + tour.when i;
        in_order = λ i j le. (let e = tour.in_order i j le in omega arith);
        there = λ i lt. at-kept own h tour.f tour.n (tour.when i) joins (tour.in_time i) ∙ tour.there i lt;
      };
      ends_there = end-kept own h tour.f tour.n joins ∙ tour.trip.arrives ∙ last_of-is from stop stops;
    }

pub clear_delivery-lawful : (g : Floor) (nofollow : Bool) (paths : List (List Cell)) (agent : ℕ) (stops way : List Cell) → IsUnderWay g nofollow paths agent →
    1 ≤ length stops → IsClearWay g paths agent (Delivers stops) way → (path : List Cell) × IsLawful g nofollow paths agent (length stops) (Delivers stops) path
clear_delivery-lawful g nofollow paths agent stops way under some clear =
    let Ok = IsOff g (ends (others paths agent)) in
    let own = path_of paths agent in
    let h = horizon (others paths agent) in
    let m = left paths agent in
    let visits = clear.serves.visits in
    let legs = legs-along g Ok (off-passable g (ends (others paths agent))) (on paths agent way)
    (λ k. (on-cases g nofollow paths agent (Delivers stops) way under clear k).0) (λ k. (on-cases g nofollow paths agent (Delivers stops) way under clear k).1)
    (met paths agent) stops 0 (on-starts paths agent way) (λ i. m + visits.when i) (omega arith) (λ i j le. (let e = visits.in_order i j le in omega arith))
    (λ i lt. on-way paths agent (visits.when i) way clear.starts_here ∙ visits.there i lt) in
    let tour = tour-legs g Ok (met paths agent) stops legs in (
      kept own h tour.f tour.n,
      kept-lawful g nofollow paths agent (length stops) (Delivers stops) tour.f tour.n (last_of (met paths agent) stops) under tour.trip tour.short
          (delivers-kept g Ok own (met paths agent) stops h some refl tour),
    )

pub clear_parking-lawful : (g : Floor) (nofollow : Bool) (paths : List (List Cell)) (agent : ℕ) (Allowed : Cell → Type 0) (way : List Cell) → IsUnderWay g nofollow paths agent →
    IsClearWay g paths agent (ParksAt Allowed) way → (path : List Cell) × IsLawful g nofollow paths agent 2 (ParksAt Allowed) path
clear_parking-lawful g nofollow paths agent Allowed way under clear =
    let Ok = IsOff g (ends (others paths agent)) in
    let own = path_of paths agent in
    let h = horizon (others paths agent) in
    let m = left paths agent in
    let n = m + last_index way in
    let each = on-cases g nofollow paths agent (ParksAt Allowed) way under clear in
    let arrives : on paths agent way n ≡ end way = on-way paths agent (last_index way) way clear.starts_here in
    let whole : IsTrip Ok (on paths agent way) n (met paths agent) (end way) = record {
      starts = on-starts paths agent way;
      arrives = arrives;
      ok = λ k le. (each k).0;
      moves = λ k lt. (each k).1;
    } in
    let short = trip-short g Ok (off-passable g (ends (others paths agent))) n (on paths agent way) (met paths agent) (end way) whole in
    let joins : at own h ≡ short.f 0 = sym short.trip.starts in
    let serves : Allowed (end (kept own h short.f short.n)) = subst Allowed (sym (end-kept own h short.f short.n joins ∙ short.trip.arrives)) clear.serves in (
      kept own h short.f short.n,
      kept-lawful g nofollow paths agent 2 (ParksAt Allowed) short.f short.n (end way) under short.trip (let e = short.short in omega arith) serves,
    )

-- from where the own path is when the others rest a walk leads on and along a clear way, off the others' ends
pub record LeadsOn (g : Floor) (paths : List (List Cell)) (agent : ℕ) (way walk : List Cell) : Type 0 where
  pub is_walk : IsWalk g walk
  pub starts : at walk 0 ≡ met paths agent
  pub off : (k : ℕ) → ¬ Contains (ends (others paths agent)) (at walk k)
  pub shifted : (k : ℕ) → at walk (left paths agent + k) ≡ at way k
  pub ends_there : end walk ≡ end way

pub leads_on : (g : Floor) (nofollow : Bool) (paths : List (List Cell)) (agent : ℕ) (Serves : List Cell → Type 0) (way : List Cell) → IsUnderWay g nofollow paths agent →
    IsClearWay g paths agent Serves way → (walk : List Cell) × LeadsOn g paths agent way walk
leads_on g nofollow paths agent Serves way under clear =
    let f = on paths agent way in
    let m = left paths agent in
    let n = m + last_index way in
    let each = on-cases g nofollow paths agent Serves way under clear in (
      run_of f n,
      record {
        is_walk = walk-run_of g f n (λ k le. (each k).0.passable) (λ k lt. (each k).1);
        starts = at-run_of f n 0 (omega arith) ∙ on-starts paths agent way;
        off = all-run_of (λ c. ¬ Contains (ends (others paths agent)) c) f n (λ k le. (each k).0.off);
        shifted = λ k. elim (cases_lt (last_index way) k) [
          | inr within ↦ at-run_of f n (m + k) (omega arith) ∙ on-way paths agent k way clear.starts_here
          | inl past ↦ at-run_of_past f n (m + k) (omega arith) ∙ on-way paths agent (last_index way) way clear.starts_here ∙ sym (at-beyond way k (omega arith))
        ];
        ends_there = end-run_of f n ∙ on-way paths agent (last_index way) way clear.starts_here;
      },
    )

pub delivers_on : (g : Floor) (paths : List (List Cell)) (agent : ℕ) (stops way walk : List Cell) → LeadsOn g paths agent way walk → Delivers stops way → Delivers stops walk
delivers_on g paths agent stops way walk on d = record {
  visits = record {
    when = λ i. left paths agent + d.visits.when i;
    in_order = λ i j le. (let h = d.visits.in_order i j le in omega arith);
    there = λ i lt. on.shifted (d.visits.when i) ∙ d.visits.there i lt;
  };
  ends_there = on.ends_there ∙ d.ends_there;
}

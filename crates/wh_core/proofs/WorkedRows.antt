-- worked rows are runs
use Rattle.std.proofs.Common.{◌≡◌, ◌≢◌, ℕ, ◌+◌, ◌*◌, ◌<◌, ◌≤◌, ◌∙◌, inl, inr, List, [], ◌∷◌, true, false, Option, Some, None, length, get_or, sym, subst, refl, ap, arith}
use Prim.Native.Nat.{zero, suc}
use Rattle.std.specs.Prelude.{All, Contains, slice_get}
use Rattle.std.proofs.lemmas.List.Elements.{All-nil, All-cons, All-from_recursion}
use Rattle.std.proofs.lemmas.Option.{same_Some}
use Rattle.wh_grid.specs.declared.cell.Cell.{Cell}
use Rattle.wh_points.specs.declared.points.Kind.{Kind}
use Rattle.wh_points.specs.declared.points.Point.{Point}
use Rattle.wh_points.specs.Points.{Site, IsPointCell}
use Rattle.wh_grid.specs.Grids.{IsPassable, IsMove}
use Rattle.wh_path.specs.Paths.{at, end, cell_at, last_index, others, ends, IsWalk, IsFree}
use Rattle.wh_path.specs.Walks.{IsWalkBetween}
use Rattle.wh_field.specs.Distances.{IsDistance}
use Rattle.wh_field.proofs.DistanceLaws.{distance_one}
use Rattle.wh_path.proofs.Freedom.{free-resting}
use Rattle.wh_path.proofs.Chains.{chain-walk, all-at, free-beside}
use Rattle.wh_tasks.specs.declared.task.Task.{Task}
use Rattle.wh_tasks.specs.Tasks.{IsTask, visited}
use Rattle.wh_tasks.specs.Choice.{IsAtMost}
use Rattle.wh_planner.specs.Duties.{Delivers, IsLawful}
use Rattle.wh_core.specs.States.{State, opened, arrived, submitted, adopted, assigned, moved}
use Rattle.wh_core.specs.Steps.{IsDue, IsNext, IsRestCell, IsStationName, IsUnknownName}
use Rattle.wh_core.specs.Rows.{map_a, cell, points_a, site_a, name_a, name_b, name_z, name_p1, client_x, DeliveredAtOnce, SubmitRefusals, OneDelivery}
use Rattle.wh_core.proofs.Idle.{steps-idle}
use Rattle.wh_core.proofs.Opening.{walk-one}

-- no point has the name Z: its first byte is that of no other
abbrev pub first_byte : Point → ℕ
first_byte point = get_or point.name 0 0

pub other-byte : (k : ℕ) (d : Point) → k < 6 → first_byte (get_or points_a k d) ≢ 90
other-byte zero d h = λ e. omega arith
other-byte (suc zero) d h = λ e. omega arith
other-byte (suc (suc zero)) d h = λ e. omega arith
other-byte (suc (suc (suc zero))) d h = λ e. omega arith
other-byte (suc (suc (suc (suc zero)))) d h = λ e. omega arith
other-byte (suc (suc (suc (suc (suc zero))))) d h = λ e. omega arith
other-byte (suc (suc (suc (suc (suc (suc k)))))) d h = λ e. omega arith

unknown-z : (first second : ℕ) → IsUnknownName (site_a first second).layout name_z
unknown-z first second c has = other-byte has.1.0 _ has.1.1 (ap first_byte has.1.2)

pub submit_refusals : SubmitRefusals
submit_refusals =
    let s : State = opened (site_a 0 1).layout 0 (4 ∷ 4 ∷ []) in
    let Named : List ℕ → Type 0 = λ name. IsStationName (site_a 0 1).layout name in
    let a_stands : All Named (name_a ∷ []) = All-cons Named name_a [] (cell 1 0, (2, omega arith, refl)) (All-nil Named) in (
      s,
      (
        s,
        ((refl, (name_a ∷ [], name_z ∷ [], refl, a_stands), (cell 4 1, (1, omega arith, refl))), refl),
        (
          s,
          ((refl, (name_a ∷ [], name_p1 ∷ [], refl, a_stands), unknown-z 0 1), refl),
          (s, ((refl, omega arith, refl), refl), refl),
        ),
      ),
    )

at-one-place : (k : ℕ) (c d : Cell) → k < 1 → get_or (c ∷ []) k d ≡ d → c ≡ d
at-one-place zero c d h e = e
at-one-place (suc k) c d h e = absurd (omega arith)

both-stops : (a : Cell) (i : ℕ) → i < 2 → a ≡ cell_at (a ∷ a ∷ []) i
both-stops a zero h = refl
both-stops a (suc zero) h = refl
both-stops a (suc (suc i)) h = absurd (omega arith)

pub contains-one : (c d : Cell) → Contains (c ∷ []) d → c ≡ d
contains-one c d has = at-one-place has.0 c d has.1 has.2

zero-first : (far : Option ℕ) (m : ℕ) → IsAtMost (Some 0) 0 far m
zero-first None m = tt
zero-first (Some zero) m = inr (refl, omega arith)
zero-first (Some (suc e)) m = inl (omega arith)

-- one task that an agent has is not open
taken-closed : (t : Task) (a n : ℕ) (task : Task) → t.agent ≡ Some a → slice_get (t ∷ []) n ≡ Some task → task.agent ≡ None → ⊥
taken-closed t a zero task has is is_open =
    let clash : Some a ≡ None = sym has ∙ ap (λ (u : Task). u.agent) (same_Some t task is) ∙ is_open in
    cc
taken-closed t a (suc n) task has is is_open = (let clash : None ≡ Some task = is in cc)

pub x-apart : (c d : Cell) → d.x < c.x → c ≢ d
x-apart c d h e = (let x : c.x ≡ d.x = ap (λ (b : Cell). b.x) e in omega arith)

passable_a : IsPassable map_a (cell 1 0)
passable_a = record { in_width = omega arith; in_height = omega arith; is_walkable = refl }

pub only-task : (t : Task) (m : ℕ) (other : Task) → slice_get (t ∷ []) m ≡ Some other → (m ≡ 0) × (t ≡ other)
only-task t zero other is = (refl, same_Some t other is)
only-task t (suc m) other is = absurd (let e : None ≡ Some other = is in cc)

-- where the only task is done, and an agent stands at a point, it may rest there
done-rest : (site : Site) (s : State) (done : Task) (a : ℕ) (cell : Cell) → s.tasks ≡ done ∷ [] → done.agent ≡ Some a → length done.stops ≤ visited done →
    site.homes ≡ false → IsPointCell site.layout cell → IsRestCell site s a cell
done-rest site s done a cell tasks has over off point =
    let only : (n : ℕ) (task : Task) → IsTask s.tasks n task → slice_get (done ∷ []) n ≡ Some task = λ n task is. sym (ap (λ ts. slice_get ts n) tasks) ∙ is in
    record {
      berth = record { point = point; own = λ on. absurd (let clash : false ≡ true = sym off ∙ on in cc) };
      not_wanted = λ wanted. elim wanted.1 [
        | inl at_it ↦ taken-closed done a at_it.0 at_it.1 has (only at_it.0 at_it.1 at_it.2) at_it.3
        | inr awaited ↦
            let own = awaited.2.own in
            let same = only-task done awaited.0 awaited.1 (only awaited.0 awaited.1 own.there) in
            let left : visited done < length done.stops = subst (λ (t : Task). visited t < length t.stops) (sym same.1) own.left in
            omega arith
      ];
    }

pub delivered_at_once : DeliveredAtOnce
unfolding at
delivered_at_once =
    let site = site_a 2 1 in
    let a = cell 1 0 in
    let path : List Cell = a ∷ [] in
    let stops : List Cell = a ∷ a ∷ [] in
    let s0 : State = opened site.layout 0 (4 ∷ 4 ∷ []) in
    let s1 : State = submitted client_x stops s0 in
    let task : Task = record { client = client_x; stops = stops; submitted = 0; agent = None; visits = [] } in
    let s2 : State = arrived (adopted 0 path (assigned 0 0 task s1)) in
    let s3 : State = arrived (moved s2) in
    let done : Task = record { client = client_x; stops = stops; submitted = 0; agent = Some 0; visits = 0 ∷ 0 ∷ [] } in
    let due1 : IsDue site s1 0 = record { known = record { not_closed = refl; known = omega arith }; idle = inl refl } in
    let here : 0 < 2 = omega arith in
    let due2 : IsDue site s2 0 = record { known = record { not_closed = refl; known = here }; idle = inl refl } in
    let apart : cell 4 1 ≢ a = x-apart (cell 4 1) a (omega arith) in
    let clear : Contains (cell 4 1 ∷ []) a → ⊥ = λ has. apart (contains-one (cell 4 1) a has) in
    let P : Cell → Type 0 = λ stop. ¬ Contains (ends (others s1.paths 0)) stop in
    let next : IsNext site s1 0 0 task = record {
      eligible = record { there = refl; is_open = refl; clear = All-cons P a (a ∷ []) clear (All-cons P a [] clear (All-nil P)) };
      distance = Some 0;
      is_distance = (path, record { walk = record { walk = walk-one map_a a passable_a; starts = refl; ends = refl }; least = λ q walks. omega arith }, refl);
      least = λ m other far eligible distance. zero-first far m;
    } in
    let F : List Cell → Type 0 = λ other. IsFree false path other in
    let lawful : IsLawful site.grid site.layout.nofollow s1.paths 0 2 (Delivers stops) path = record {
      walk = walk-one map_a a passable_a;
      starts_here = refl;
      free = All-cons F (cell 4 1 ∷ []) [] (free-resting false a (cell 4 1) (λ e. apart (sym e))) (All-nil F);
      bounded = omega arith;
      serves = record {
        visits = record { when = λ i. 0; in_order = λ i j le. omega arith; there = λ i h. both-stops a i h };
        ends_there = refl;
      };
    } in (
      s3,
      (
        s1,
        (refl, refl, omega arith, omega arith, omega arith, (stops, ((2, omega arith, refl), ((2, omega arith, refl), tt)), refl)),
        (
          s2,
          (due1, (task, next, lawful, refl)),
          (
            s2,
            (due2, (refl, λ n t eligible. taken-closed done 0 n t refl eligible.there eligible.is_open), done-rest site s2 done 0 a refl refl (omega arith) refl (name_a, (Kind.Station, (2, omega arith, refl))), refl),
            (s3, (refl, omega arith, refl, refl, refl, refl), refl),
          ),
        ),
      ),
    )

-- a row with a way to go
at-start : (w : List Cell) → last_index w ≡ 0 → at w 0 ≡ end w
at-start w e = ap (λ k. at w k) (sym e)

at-second : (w : List Cell) → last_index w ≡ 1 → at w 1 ≡ end w
at-second w e = ap (λ k. at w k) (sym e)

no-move : IsMove (cell 0 1) (cell 1 0) → ⊥
no-move m = elim m [
  | inl e ↦ x-apart (cell 1 0) (cell 0 1) (omega arith) (sym e)
  | inr a ↦ elim a [
    | inl same_y ↦ (let h : 1 ≤ 0 = omega (arith, same_y.0) in omega arith)
    | inr same_x ↦ (let h : 1 ≤ 0 = omega (arith, same_x.0) in omega arith)
  ]
]

-- from P0 to A there is no walk of fewer than two steps
two-steps : (m : ℕ) (walk : List Cell) → last_index walk ≡ m → IsWalkBetween map_a (cell 0 1) (cell 1 0) walk → 2 ≤ m
two-steps zero walk steps w =
    absurd (x-apart (cell 1 0) (cell 0 1) (omega arith) (sym (sym w.starts ∙ at-start walk steps ∙ w.ends)))
two-steps (suc zero) walk steps w =
    absurd (no-move (subst (λ d. IsMove (cell 0 1) d) (at-second walk steps ∙ w.ends) (subst (λ c. IsMove c (at walk 1)) w.starts (w.walk.moves 0))))
two-steps (suc (suc m)) walk steps w = omega arith

two-least : (walk : List Cell) → IsWalkBetween map_a (cell 0 1) (cell 1 0) walk → 2 ≤ last_index walk
two-least walk w = two-steps (last_index walk) walk refl w

one-distance : (one other : Option ℕ) → IsDistance map_a (cell 0 1) (cell 1 0) one → IsDistance map_a (cell 0 1) (cell 1 0) other → one ≡ other
one-distance one other h k = distance_one map_a (cell 0 1) (cell 1 0) one h ∙ sym (distance_one map_a (cell 0 1) (cell 1 0) other k)

abbrev pub walk_a : List Cell
walk_a = cell 0 1 ∷ cell 1 1 ∷ cell 1 0 ∷ []

abbrev pub path_a : List Cell
path_a = cell 0 1 ∷ cell 1 1 ∷ cell 1 0 ∷ cell 1 1 ∷ cell 2 1 ∷ cell 3 1 ∷ cell 3 0 ∷ []

pub ok : (x y : ℕ) → x < 5 → y < 3 → slice_get map_a.walkable (y * 5 + x) ≡ Some true → IsPassable map_a (cell x y)
ok x y hx hy is = record { in_width = hx; in_height = hy; is_walkable = is }

pub left : (x z y : ℕ) → z + 1 ≡ x → IsMove (cell x y) (cell z y)
left x z y e = inr (inl (refl, inr e))

pub right : (x z y : ℕ) → x + 1 ≡ z → IsMove (cell x y) (cell z y)
right x z y e = inr (inl (refl, inl e))

pub down : (x y z : ℕ) → y + 1 ≡ z → IsMove (cell x y) (cell x z)
down x y z e = inr (inr (refl, inl e))

pub up : (x y z : ℕ) → z + 1 ≡ y → IsMove (cell x y) (cell x z)
up x y z e = inr (inr (refl, inr e))

walk_a-is : IsWalk map_a walk_a
walk_a-is = chain-walk map_a walk_a (
  ok 0 1 (omega arith) (omega arith) refl,
  right 0 1 1 refl,
  (ok 1 1 (omega arith) (omega arith) refl, up 1 1 0 refl, ok 1 0 (omega arith) (omega arith) refl),
)

pub path_a-is : IsWalk map_a path_a
path_a-is = chain-walk map_a path_a (
  ok 0 1 (omega arith) (omega arith) refl,
  right 0 1 1 refl,
  (
    ok 1 1 (omega arith) (omega arith) refl,
    up 1 1 0 refl,
    (
      ok 1 0 (omega arith) (omega arith) refl,
      down 1 0 1 refl,
      (
        ok 1 1 (omega arith) (omega arith) refl,
        right 1 2 1 refl,
        (
          ok 2 1 (omega arith) (omega arith) refl,
          right 2 3 1 refl,
          (ok 3 1 (omega arith) (omega arith) refl, up 3 1 0 refl, ok 3 0 (omega arith) (omega arith) refl),
        ),
      ),
    ),
  ),
)

-- no cell of the path is the other agent's
abbrev pub Beside : Cell → Type 0
Beside c = c ≢ cell 4 1

pub beside : (x y : ℕ) → x < 4 → Beside (cell x y)
beside x y h e = x-apart (cell 4 1) (cell x y) h (sym e)

pub path_a-beside : (k : ℕ) → at path_a k ≢ cell 4 1
path_a-beside k = all-at Beside path_a (omega arith) (All-from_recursion Beside path_a (
  beside 0 1 (omega arith),
  (
    beside 1 1 (omega arith),
    (
      beside 1 0 (omega arith),
      (
        beside 1 1 (omega arith),
        (
          beside 2 1 (omega arith),
          (
            beside 3 1 (omega arith),
            (beside 3 0 (omega arith), tt),
          ),
        ),
      ),
    ),
  ),
)) k

-- the stops of the row stand on the path at 2 and at 6
abbrev pub when_a : ℕ → ℕ
when_a zero = 2
when_a (suc i) = 6

pub when_a-order : (i j : ℕ) → i ≤ j → when_a i ≤ when_a j
when_a-order zero zero h = omega arith
when_a-order zero (suc j) h = omega arith
when_a-order (suc i) zero h = absurd (omega arith)
when_a-order (suc i) (suc j) h = omega arith

pub stops_a-there : (i : ℕ) → i < 2 → at path_a (when_a i) ≡ cell_at (cell 1 0 ∷ cell 3 0 ∷ []) i
unfolding at
stops_a-there zero h = refl
stops_a-there (suc zero) h = refl
stops_a-there (suc (suc i)) h = absurd (omega arith)

-- with one open task the nearest is that one

first-alone : (far : Option ℕ) (m : ℕ) → Some 2 ≡ far → m ≡ 0 → IsAtMost (Some 2) 0 far m
first-alone far m e z = subst (λ f. IsAtMost (Some 2) 0 f m) e (inr (refl, omega arith))

six-not : (n : ℕ) → n ≡ 6 → n ≢ 0
six-not n is e = omega arith

-- the state after the submit, and its task
abbrev pub stops_ab : List Cell
stops_ab = cell 1 0 ∷ cell 3 0 ∷ []

abbrev pub task_ab : Task
task_ab = record { client = client_x; stops = stops_ab; submitted = 0; agent = None; visits = [] }

abbrev pub state_ab : State
state_ab = submitted client_x stops_ab (opened (site_a 0 1).layout 0 (4 ∷ 4 ∷ []))

pub due_ab : IsDue (site_a 0 1) state_ab 0
unfolding at
due_ab = (let here : 0 < 2 = omega arith in record { known = record { not_closed = refl; known = here }; idle = inl refl })

pub next_ab : IsNext (site_a 0 1) state_ab 0 0 task_ab
unfolding at
next_ab =
    let P : Cell → Type 0 = λ stop. ¬ Contains (ends (others state_ab.paths 0)) stop in
    let clear : (x y : ℕ) → x < 4 → Contains (cell 4 1 ∷ []) (cell x y) → ⊥ = λ x y h has. beside x y h (sym (contains-one (cell 4 1) (cell x y) has)) in
    let distance : IsDistance map_a (cell 0 1) (cell 1 0) (Some 2) =
    (walk_a, record { walk = record { walk = walk_a-is; starts = refl; ends = refl }; least = two-least }, refl) in
    record {
      eligible = record {
        there = refl;
        is_open = refl;
        clear = All-cons P (cell 1 0) (cell 3 0 ∷ []) (clear 1 0 (omega arith)) (All-cons P (cell 3 0) [] (clear 3 0 (omega arith)) (All-nil P));
      };
      distance = Some 2;
      is_distance = distance;
      least = λ m other far eligible is.
          let only = only-task task_ab m other eligible.there in
          let same : IsDistance map_a (cell 0 1) (cell 1 0) far = subst (λ (t : Task). IsDistance map_a (cell 0 1) (cell_at t.stops 0) far) (sym only.1) is in
          first-alone far m (one-distance (Some 2) far distance same) only.0;
    }

pub one_delivery : OneDelivery
unfolding at
one_delivery =
    let site = site_a 0 1 in
    let stops : List Cell = cell 1 0 ∷ cell 3 0 ∷ [] in
    let s0 : State = opened site.layout 0 (4 ∷ 4 ∷ []) in
    let s1 : State = submitted client_x stops s0 in
    let task : Task = record { client = client_x; stops = stops; submitted = 0; agent = None; visits = [] } in
    let done : Task = record { client = client_x; stops = stops; submitted = 0; agent = Some 0; visits = 2 ∷ 6 ∷ [] } in
    let t0 : State = arrived (adopted 0 path_a (assigned 0 0 task s1)) in
    let t1 : State = arrived (moved t0) in
    let t2 : State = arrived (moved t1) in
    let t3 : State = arrived (moved t2) in
    let t4 : State = arrived (moved t3) in
    let t5 : State = arrived (moved t4) in
    let t6 : State = arrived (moved t5) in
    let here : 0 < 2 = omega arith in
    let moving : (◌≡◌ {A = ℕ} 6 0) → ⊥ = six-not 6 refl in
    let due1 : IsDue site s1 0 = record { known = record { not_closed = refl; known = here }; idle = inl refl } in
    let due6 : IsDue site t6 0 = record { known = record { not_closed = refl; known = here }; idle = inl refl } in
    let next : IsNext site s1 0 0 task = next_ab in
    let F : List Cell → Type 0 = λ other. IsFree false path_a other in
    let lawful : IsLawful site.grid site.layout.nofollow s1.paths 0 2 (Delivers stops) path_a = record {
      walk = path_a-is;
      starts_here = refl;
      free = All-cons F (cell 4 1 ∷ []) [] (free-beside false path_a (cell 4 1) path_a-beside) (All-nil F);
      bounded = omega arith;
      serves = record {
        visits = record { when = when_a; in_order = when_a-order; there = stops_a-there };
        ends_there = refl;
      };
    } in (
      t6,
      (
        s1,
        (refl, refl, omega arith, omega arith, omega arith, (stops, ((2, omega arith, refl), ((3, omega arith, refl), tt)), refl)),
        (
          t0,
          (due1, (task, next, lawful, refl)),
          (
            t0,
            ((record { not_closed = refl; known = here }, steps-idle 6 site t0 0 refl here refl, moving), refl),
            (
              t1,
              (refl, omega arith, refl, refl, refl, refl),
              (
                t2,
                (refl, omega arith, refl, refl, refl, refl),
                (
                  t3,
                  (refl, omega arith, refl, refl, refl, refl),
                  (
                    t4,
                    (refl, omega arith, refl, refl, refl, refl),
                    (
                      t5,
                      (refl, omega arith, refl, refl, refl, refl),
                      (
                        t6,
                        (refl, omega arith, refl, refl, refl, refl),
                        (
                          t6,
                          (due6, (refl, λ n t eligible. taken-closed done 0 n t refl eligible.there eligible.is_open), done-rest site t6 done 0 (cell 3 0) refl refl (omega arith) refl (name_b, (Kind.Station, (3, omega arith, refl))), refl),
                          refl,
                        ),
                      ),
                    ),
                  ),
                ),
              ),
            ),
          ),
        ),
      ),
    )

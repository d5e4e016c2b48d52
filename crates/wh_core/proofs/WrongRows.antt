-- entries that are no run, and one at the edge that is
use Rattle.std.proofs.Common.{◌≡◌, ◌≢◌, ℕ, ◌+◌, ◌*◌, ◌<◌, ◌≤◌, ◌∙◌, inl, inr, List, [], ◌∷◌, true, false, length, get_or, sym, subst, refl, ap, arith}
use Prim.Native.Nat.{zero, suc}
use Rattle.std.specs.Prelude.{All}
use Rattle.std.specs.List.{AllZip}
use Rattle.std.proofs.lemmas.List.Elements.{All-nil, All-cons, All-from_recursion}
use Rattle.std.proofs.lemmas.Option.{same_Some}
use Rattle.wh_grid.specs.declared.cell.Cell.{Cell}
use Rattle.wh_points.specs.declared.points.Kind.{Kind}
use Rattle.wh_points.specs.declared.points.Point.{Point}
use Rattle.wh_path.specs.Paths.{at, cell_at, IsWalk, IsFree}
use Rattle.wh_points.specs.Points.{IsStation}
use Rattle.wh_path.proofs.Chains.{Chain, chain-walk, all-at, free-beside}
use Rattle.wh_tasks.specs.declared.task.Task.{Task}
use Rattle.wh_tasks.specs.Tasks.{stops_left}
use Rattle.wh_planner.specs.Duties.{Delivers, IsLawful, IsClearWay}
use Rattle.wh_core.specs.States.{State, opened, arrived, submitted, adopted, assigned}
use Rattle.wh_core.specs.Steps.{Step, Run}
use Rattle.wh_event.specs.declared.event.Event.{Event}
use Rattle.wh_event.specs.declared.reply.Reply.{Reply}
use Rattle.wh_event.specs.declared.reply.Refusal.{Refusal}
use Rattle.wh_event.specs.declared.entry.Entry.{Entry}
use Rattle.wh_core.specs.Rows.{map_a, cell, points_a, site_a, name_a, name_b, client_x, entry, waits, NoRestWhileWorkWaits, NoPathPastThePickup, NoEndlessWait, LongestWait, NoRefusalWithAClearWay, NoPickupInvented}
use Rattle.wh_core.proofs.WorkedRows.{first_byte, path_a, path_a-is, path_a-beside, beside, Beside, ok, up, down, right, only-task, x-apart, contains-one, when_a, when_a-order, stops_a-there, stops_ab, task_ab, state_ab, due_ab, next_ab}

-- the place of a point by the first byte of its name
byte-place : (k : ℕ) (d : Point) (b : ℕ) → k < 6 → first_byte (get_or points_a k d) ≡ b → ((b ≡ 65) → k ≡ 2) × ((b ≡ 66) → k ≡ 3)
byte-place zero d b h e = (λ f. omega arith, λ f. omega arith)
byte-place (suc zero) d b h e = (λ f. omega arith, λ f. omega arith)
byte-place (suc (suc zero)) d b h e = (λ f. refl, λ f. omega arith)
byte-place (suc (suc (suc zero))) d b h e = (λ f. omega arith, λ f. refl)
byte-place (suc (suc (suc (suc zero)))) d b h e = (λ f. omega arith, λ f. omega arith)
byte-place (suc (suc (suc (suc (suc zero))))) d b h e = (λ f. omega arith, λ f. omega arith)
byte-place (suc (suc (suc (suc (suc (suc k)))))) d b h e = absurd (omega arith)

station-a : (c : Cell) → IsStation (site_a 0 1).layout name_a c → c ≡ cell 1 0
station-a c has =
    let x : Point = record { name = name_a; cell = c; kind = Kind.Station } in
    let k : has.0 ≡ 2 = (byte-place has.0 x 65 has.1 (ap first_byte has.2)).0 refl in
    sym (ap (λ (p : Point). p.cell) has.2) ∙ ap (λ i. (get_or points_a i x).cell) k

station-b : (c : Cell) → IsStation (site_a 0 1).layout name_b c → c ≡ cell 3 0
station-b c has =
    let x : Point = record { name = name_b; cell = c; kind = Kind.Station } in
    let k : has.0 ≡ 3 = (byte-place has.0 x 66 has.1 (ap first_byte has.2)).1 refl in
    sym (ap (λ (p : Point). p.cell) has.2) ∙ ap (λ i. (get_or points_a i x).cell) k

stations-ab : (cells : List Cell) → AllZip (IsStation (site_a 0 1).layout) (name_a ∷ name_b ∷ []) cells → cells ≡ stops_ab
stations-ab [] zip = absurd zip
stations-ab (c ∷ []) zip = absurd zip.1
stations-ab (c ∷ d ∷ []) zip =
    ap (λ x. x ∷ d ∷ []) (station-a c zip.0) ∙ ap (λ x. cell 1 0 ∷ x ∷ []) (station-b d zip.1.0)
stations-ab (c ∷ d ∷ e ∷ cells) zip = absurd zip.1.1

-- after the submit
after-submit : (last : Entry) (s : State) →
    Run (site_a 0 1) (opened (site_a 0 1).layout 0 (4 ∷ 4 ∷ [])) (entry (Event.Submit client_x (name_a ∷ name_b ∷ [])) (Reply.Accepted 0) ∷ last ∷ []) s →
    (new : State) × Step (site_a 0 1) state_ab last new
after-submit last s run =
    let told = run.1.5 in
    let same : run.0 ≡ state_ab =
    told.2 ∙ ap (λ cells. submitted client_x cells (opened (site_a 0 1).layout 0 (4 ∷ 4 ∷ []))) (stations-ab told.0 told.1) in
    (run.2.0, subst (λ t. Step (site_a 0 1) t last run.2.0) same run.2.1)

pub no_rest_while_work_waits : NoRestWhileWorkWaits
no_rest_while_work_waits s run =
    let step = after-submit (entry (Event.Request 0) Reply.Rested) s run in
    step.1.1.1 0 task_ab next_ab.eligible

abbrev short_path : List Cell
short_path = cell 0 1 ∷ cell 1 1 ∷ cell 2 1 ∷ cell 3 1 ∷ cell 3 0 ∷ []

y-apart : (c d : Cell) → d.y < c.y → c ≢ d
y-apart c d h e = (let y : c.y ≡ d.y = ap (λ (b : Cell). b.y) e in omega arith)

pub no_path_past_the_pickup : NoPathPastThePickup
no_path_past_the_pickup s run =
    let step = after-submit (entry (Event.Request 0) (Reply.Took 0 short_path)) s run in
    let took = step.1.1 in
    let same : task_ab ≡ took.0 = same_Some task_ab took.0 took.1.eligible.there in
    let serves : Delivers stops_ab short_path = subst (λ (t : Task). Delivers (stops_left t) short_path) (sym same) took.2.serves in
    let Not : Cell → Type 0 = λ c. c ≢ cell 1 0 in
    all-at Not short_path (omega arith) (All-from_recursion Not short_path (
      (λ e. x-apart (cell 1 0) (cell 0 1) (omega arith) (sym e)),
      (
        (λ e. y-apart (cell 1 1) (cell 1 0) (omega arith) e),
        (
          x-apart (cell 2 1) (cell 1 0) (omega arith),
          (
            x-apart (cell 3 1) (cell 1 0) (omega arith),
            (x-apart (cell 3 0) (cell 1 0) (omega arith), tt),
          ),
        ),
      ),
    )) (serves.visits.when 0) (serves.visits.there 0 (omega arith))

pub no_endless_wait : NoEndlessWait
unfolding at
no_endless_wait s run =
    let step = after-submit (entry (Event.Request 0) (Reply.Took 0 (waits 13))) s run in
    let took = step.1.1 in
    let same : task_ab ≡ took.0 = same_Some task_ab took.0 took.1.eligible.there in
    let bound : 19 ≤ 0 + length took.0.stops * 9 = took.2.bounded in
    let two : 2 ≡ length took.0.stops = ap (λ (t : Task). length t.stops) same in
    omega arith

pub no_refusal_with_a_clear_way : NoRefusalWithAClearWay
unfolding at
no_refusal_with_a_clear_way s run =
    let step = after-submit (entry (Event.Request 0) (Reply.Refused Refusal.NoPath)) s run in
    elim step.1.0.1 [
      | inl w ↦
          let first = only-task task_ab w.0 w.1 w.2.eligible.there in
          let serves : Delivers stops_ab path_a = record {
            visits = record { when = when_a; in_order = when_a-order; there = stops_a-there };
            ends_there = refl;
          } in
          let way : IsClearWay map_a state_ab.paths 0 (Delivers stops_ab) path_a = record {
            walk = path_a-is;
            starts_here = refl;
            clear = λ k has. path_a-beside k (sym (contains-one (cell 4 1) (at path_a k) has));
            serves = serves;
          } in
          w.3 path_a (subst (λ (t : Task). IsClearWay map_a state_ab.paths 0 (Delivers (stops_left t)) path_a) first.1 way)
      | inr w ↦ elim w.0.no_work [ inl none ↦ none.1 0 task_ab next_ab.eligible | inr shut ↦ elim shut.stray [ inl loaded ↦ loaded refl | inr off ↦ off (record { point = (80 ∷ 48 ∷ [], (Kind.Parking, (0, omega arith, refl))); own = λ on. absurd (let clash : false ≡ true = on in cc) }) ] ]
    ]

one-zero : (n m : ℕ) → n ≡ 1 → m ≡ 0 → n ≡ m → ⊥
one-zero n m a b e = omega arith

pub no_pickup_invented : NoPickupInvented
unfolding at
no_pickup_invented s run =
    let step = after-submit (entry Event.Tick (Reply.Clock 1 1 0)) s run in
    one-zero 1 0 refl refl step.1.3

waits-chain : (n : ℕ) → Chain map_a (waits n)
waits-chain zero = (
  ok 0 1 (omega arith) (omega arith) refl,
  right 0 1 1 refl,
  (
    ok 1 1 (omega arith) (omega arith) refl,
    up 1 1 0 refl,
    (
      ok 1 0 (omega arith) (omega arith) refl,
      down 1 0 1 refl,
      (
        ok 1 1 (omega arith) (omega arith) refl,
        right 1 2 1 refl,
        (
          ok 2 1 (omega arith) (omega arith) refl,
          right 2 3 1 refl,
          (ok 3 1 (omega arith) (omega arith) refl, up 3 1 0 refl, ok 3 0 (omega arith) (omega arith) refl),
        ),
      ),
    ),
  ),
)
waits-chain (suc zero) = (ok 0 1 (omega arith) (omega arith) refl, inl refl, waits-chain zero)
waits-chain (suc (suc n)) = (ok 0 1 (omega arith) (omega arith) refl, inl refl, waits-chain (suc n))

path_a-all : All Beside path_a
path_a-all = All-from_recursion Beside path_a (
  beside 0 1 (omega arith),
  (
    beside 1 1 (omega arith),
    (
      beside 1 0 (omega arith),
      (
        beside 1 1 (omega arith),
        (
          beside 2 1 (omega arith),
          (
            beside 3 1 (omega arith),
            (beside 3 0 (omega arith), tt),
          ),
        ),
      ),
    ),
  ),
)

waits-all : (n : ℕ) → All Beside (waits n)
waits-all zero = path_a-all
waits-all (suc n) = All-cons Beside (cell 0 1) (waits n) (beside 0 1 (omega arith)) (waits-all n)

waits-there : (i : ℕ) → i < 2 → at (waits 12) (12 + when_a i) ≡ cell_at stops_ab i
unfolding at
waits-there zero h = refl
waits-there (suc zero) h = refl
waits-there (suc (suc i)) h = absurd (omega arith)

pub longest_wait : LongestWait
unfolding at
longest_wait =
    let path = waits 12 in
    let walk : IsWalk map_a path = chain-walk map_a path (waits-chain 12) in
    let new : State = arrived (adopted 0 path (assigned 0 0 task_ab state_ab)) in
    let F : List Cell → Type 0 = λ other. IsFree false path other in
    let some : 1 ≤ 19 = omega arith in
    let never : (k : ℕ) → at path k ≢ cell 4 1 = all-at Beside path some (waits-all 12) in
    let bound : 18 ≤ 0 + 2 * 9 = omega arith in
    let lawful : IsLawful map_a false state_ab.paths 0 2 (Delivers stops_ab) path = record {
      walk = walk;
      starts_here = refl;
      free = All-cons F (cell 4 1 ∷ []) [] (free-beside false path (cell 4 1) never) (All-nil F);
      bounded = bound;
      serves = record {
        visits = record { when = λ i. 12 + when_a i; in_order = λ i j le. (let h = when_a-order i j le in omega arith); there = waits-there };
        ends_there = refl;
      };
    } in (
      new,
      (
        state_ab,
        (refl, refl, omega arith, omega arith, omega arith, (stops_ab, ((2, omega arith, refl), ((3, omega arith, refl), tt)), refl)),
        (new, (due_ab, (task_ab, next_ab, lawful, refl)), refl),
      ),
    )

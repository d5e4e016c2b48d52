-- the order of a plan so far, and then of vehicles that have come further
use Rattle.std.proofs.Common.{◌≡◌, ◌≢◌, ℕ, ◌+◌, ◌-◌, ◌<◌, ◌≤◌, ◌∙◌, List, [], ◌∷◌, None, true, length, take, drop, map, get_or, sym, subst, refl, ap, arith}
use Prim.Native.Nat.{zero, suc}
use Rattle.std.specs.List.{AllPairs}
use Rattle.std.proofs.lemmas.List.{length-map, length-take-le, length-drop, get_or-take, get_or-drop, take_more, take_all}
use Rattle.wh_grid.specs.declared.cell.Cell.{Cell}
use Rattle.wh_grid.specs.Grids.{IsMove}
use Rattle.wh_path.specs.Paths.{cell_at}
use Rattle.wh_path.proofs.AtLemmas.{origin}
use Rattle.wh_drive.specs.declared.vehicle.Vehicle.{Vehicle}
use Rattle.wh_drive.specs.Drives.{Drive, clock, planned, reached, MayTick, ticked, opened}
use Rattle.wh_drive.specs.Runs.{AreTwo, IsSound}
use Rattle.wh_drive.proofs.Vehicles.{idle}
use Rattle.wh_order.specs.declared.visit.Pending.{Pending}
use Rattle.wh_order.proofs.Changes.{Further, pending-further, latest-further, forgotten}
use Rattle.wh_order.specs.Orders.{Order, line_of, step_of, latest_at, IsPending, IsLatest, reached_of, Represents, IsPlaced, AreSteps, standing}

-- as many rows of the plan, with each vehicle at its start
abbrev pub so_far : ℕ → Drive → Drive
so_far n d = record { nofollow = d.nofollow; ahead = d.ahead; rows = take n d.rows; vehicles = map (λ _. idle) d.vehicles }

all-alike : {X Y : Type 0} (v : Vehicle) (xs : List X) (ys : List Y) → length xs ≡ length ys → map (λ _. v) xs ≡ map (λ _. v) ys
all-alike v [] [] e = refl
all-alike v [] (y ∷ ys) e = absurd (let n : 0 ≡ suc (length ys) = e in omega arith)
all-alike v (x ∷ xs) [] e = absurd (let n : suc (length xs) ≡ 0 = e in omega arith)
all-alike v (x ∷ xs) (y ∷ ys) e =
    let n : suc (length xs) ≡ suc (length ys) = e in
    ap (λ vs. v ∷ vs) (all-alike v xs ys (omega arith))

in-list : (xs : List Cell) (i : ℕ) (a b : Cell) → i < length xs → get_or xs i a ≡ get_or xs i b
in-list [] i a b h = absurd (omega arith)
in-list (x ∷ xs) zero a b h = refl
in-list (x ∷ xs) (suc i) a b h = in-list xs i a b (let l : suc i < suc (length xs) = h in omega arith)

all-start : (vs : List Vehicle) (i : ℕ) → get_or (map (λ _. idle) vs) i idle ≡ idle
all-start [] i = refl
all-start (v ∷ vs) zero = refl
all-start (v ∷ vs) (suc i) = all-start vs i

pub row-differs : (d : Drive) (n : ℕ) → IsSound d → n < length d.rows → AllPairs (λ a b. a ≢ b) (get_or d.rows n [])
row-differs d n sound h = λ i j a l below e.
    let row = get_or d.rows n [] in
    let size : length row ≡ length d.vehicles = sound.plan.sizes n h in
    let two : AreTwo d i j = record { first = omega arith; second = omega arith; differ = λ s. omega arith } in
    let below' : i < length row = omega arith in
    sound.plan.apart i j n two h (in-list row i origin a below' ∙ e ∙ in-list row j a origin below)

planned-so-far : (d : Drive) (n agent time : ℕ) → time < n → planned (so_far n d) agent time ≡ planned d agent time
planned-so-far d n agent time h = ap (λ (row : List Cell). cell_at row agent) (get_or-take n d.rows time [] h)

pub may-go-on : (d : Drive) (n : ℕ) → IsSound d → n + 1 < length d.rows → MayTick (so_far (n + 1) d) (get_or d.rows (n + 1) [])
may-go-on d n sound h =
    let m = n + 1 in
    let s = so_far m d in
    let row = get_or d.rows m [] in
    let size : length s.vehicles ≡ length d.vehicles = length-map d.vehicles (λ _. idle) in
    let cells : length row ≡ length d.vehicles = sound.plan.sizes m h in
    let len : length (take m d.rows) ≡ m = length-take-le m d.rows (omega arith) in
    let now : clock s ≡ n = omega arith in
    let there : (i : ℕ) → planned s i (clock s) ≡ planned d i n = λ i. ap (planned s i) now ∙ planned-so-far d m i n (omega arith) in
    record {
      all = cells ∙ sym size;
      differ = row-differs d m sound h;
      moves = λ i l. subst (λ c. IsMove c (cell_at row i)) (sym (there i)) (sound.plan.moves i n (omega arith) h);
      no_follow = λ rule i j li lj ne e.
          let two : AreTwo d i j = record { first = omega arith; second = omega arith; differ = ne } in
          sound.plan.no_follow rule i j n two h (e ∙ there j);
    }

pub first-row : (d : Drive) → IsSound d → opened d.nofollow d.ahead (get_or d.rows 0 []) ≡ so_far 1 d
first-row d sound =
    let some = sound.plan.some in
    let row = get_or d.rows 0 [] in
    let rows : row ∷ [] ≡ take 1 d.rows = sym (take_more d.rows 0 [] (omega arith)) in
    let vehicles : map (λ _. idle) row ≡ map (λ _. idle) d.vehicles = all-alike idle row d.vehicles (sound.plan.sizes 0 (omega arith)) in
    λ i. record { nofollow = d.nofollow; ahead = d.ahead; rows = rows i; vehicles = vehicles i }

pub next-row : (d : Drive) (n : ℕ) → n < length d.rows → ticked (get_or d.rows n []) (so_far n d) ≡ so_far (n + 1) d
next-row d n h = ap (λ (rows : List (List Cell)). record { nofollow = d.nofollow; ahead = d.ahead; rows = rows; vehicles = map (λ _. idle) d.vehicles }) (sym (take_more d.rows n [] h))

pub last-row : (d : Drive) (n : ℕ) → length d.rows ≤ n → so_far n d ≡ standing d
last-row d n h = ap (λ (rows : List (List Cell)). record { nofollow = d.nofollow; ahead = d.ahead; rows = rows; vehicles = map (λ _. idle) d.vehicles }) (take_all n d.rows h)

pub ready-same : (o : Order) (d : Drive) → Represents o d → Represents (record o { ready = true }) d
ready-same o d r = record { sound = r.sound; ahead = r.ahead; time = r.time; vehicles = r.vehicles; left = r.left; steps = r.steps; latest = r.latest }

pub are-steps : (o : Order) (d : Drive) (vs : List Vehicle) → Represents o (standing d) → IsSound d → vs ≡ d.vehicles → AreSteps o vs
are-steps o d vs r sound same =
    let size : length o.vehicles ≡ length d.vehicles = ap (λ (ws : List Vehicle). length ws) r.vehicles ∙ length-map d.vehicles (λ _. idle) in
    let is : AreSteps o d.vehicles = record {
      all = sym size;
      idle = λ i h. ap (λ (ws : List Vehicle). reached_of ws i) r.vehicles ∙ ap (λ (v : Vehicle). v.reached) (all-start d.vehicles i);
      in_step = λ i h. sound.in_step i;
      in_time = λ i h. let t = sound.in_time i in let c = r.time in let now : clock (standing d) ≡ clock d = refl in omega arith;
    } in
    subst (λ (ws : List Vehicle). AreSteps o ws) (sym same) is

-- the order of the same rows, once the vehicles have come to their steps
pub represents-placed : (old new : Order) (d : Drive) → Represents old (standing d) → IsSound d → IsPlaced old new d.vehicles → Represents new d
represents-placed old new d r sound placed =
    let size : length (standing d).vehicles ≡ length d.vehicles = length-map d.vehicles (λ _. idle) in
    let start : (i : ℕ) → reached (standing d) i ≡ 0 = λ i. ap (λ (v : Vehicle). v.reached) (all-start d.vehicles i) in
    let further : Further (standing d).vehicles d.vehicles = record { size = sym size; on = λ i. let s = start i in omega arith } in
    let line : (i : ℕ) → i < length d.vehicles → line_of new.lines i ≡ drop (reached d i) (line_of old.lines i) = placed.lines.each in
    let before : (i : ℕ) → i < length d.vehicles → length (line_of old.lines i) ≡ length d.rows = λ i h.
    (let l = r.left i (omega arith) in let s = start i in omega arith) in
    let count : (i : ℕ) → i < length d.vehicles → length (line_of new.lines i) ≡ length (line_of old.lines i) - reached d i = λ i h.
    ap (λ (ps : List Pending). length ps) (line i h) ∙ length-drop (reached d i) (line_of old.lines i) in
    record {
      sound = sound;
      ahead = placed.ahead ∙ r.ahead;
      time = placed.clock ∙ r.time;
      vehicles = placed.vehicles_are;
      left = λ i h.
          let b = before i h in
          let c = count i h in
          let t = sound.in_time i in
          let s = sound.in_step i in
          let some = sound.plan.some in
          omega arith;
      steps = λ i k h l.
          let c = count i h in
          let b = before i h in
          let z = start i in
          let line' = line_of old.lines i in
          let within : reached d i + k < length line' = omega arith in
          let pending = r.steps i (reached d i + k) (omega arith) within in
          let time : reached (standing d) i + (reached d i + k) ≡ reached d i + k = omega arith in
          let same : step_of line' (reached d i + k) ≡ step_of (line_of new.lines i) k =
          sym (ap (λ (ps : List Pending). step_of ps k) (line i h) ∙ get_or-drop (reached d i) line' k (record { cell = record { x = 0; y = 0 }; after = None })) in
          pending-further d.rows (standing d).vehicles d.vehicles i (reached d i + k) (step_of (line_of new.lines i) k) further
          (subst (λ m. IsPending d.rows (standing d).vehicles i m (step_of (line_of new.lines i) k)) time
          (subst (IsPending d.rows (standing d).vehicles i (reached (standing d) i + (reached d i + k))) same pending));
      latest = λ cell. subst (IsLatest d.rows d.vehicles (length d.rows) cell) (sym (placed.latest cell))
          (forgotten d cell (latest_at old.latest cell) sound
          (latest-further d.rows (standing d).vehicles d.vehicles (length d.rows) cell (latest_at old.latest cell) further (r.latest cell)));
    }

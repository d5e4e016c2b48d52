-- what is kept of a cell stands in a line
use Rattle.std.proofs.Common.{◌≡◌, ◌≢◌, ℕ, ◌+◌, ◌-◌, ◌<◌, ◌≤◌, ◌++◌, ◌∙◌, ◌==◌, inl, inr, List, [], ◌∷◌, Option, Some, None, Bool, true, false, cond, nat_lt, length, take, drop, map, get_or, eq-eqb, sym, subst, refl, ap, arith}
use Prim.Native.Nat.{suc}
use Rattle.std.specs.List.{flat_map, list_any, sum_by, IsDistinct}
use Rattle.std.specs.Map.{keys_of}
use Rattle.std.specs.Option.{unwrap_or, is_some}
use Rattle.std.specs.Set.{is_member}
use Rattle.std.proofs.Math.ListN.{set}
use Rattle.std.proofs.lemmas.Bool.{cases_eq, cases_Bool, ltb-false, lt-ltb, le-ltb, ne_eqb, and_from, and_left, and_right, cond-true, cond-false}
use Rattle.std.proofs.lemmas.List.{length-set, length-map, length_push, length-drop, take_at, get_or-drop, get_or_push, get_or_append_left, get_or-set_same, get_or-set_other, get_or-map, get_or_read}
use Rattle.std.proofs.lemmas.List.Concat.{length-flat_map, get_or-flat_map}
use Rattle.std.proofs.lemmas.List.Folds.{list_any_at, length-flat_map-take}
use Rattle.std.proofs.lemmas.List.Sums.{sum_by-cons}
use Rattle.std.proofs.lemmas.Map.Made.{is_some-lookup, length-le_from_is_member}
use Rattle.std.proofs.lemmas.Map.Entries.{length-keys_of}
use Rattle.wh_grid.specs.declared.cell.Cell.{Cell}
use Rattle.wh_path.specs.Paths.{cell_at}
use Rattle.wh_path.proofs.AtLemmas.{origin}
use Rattle.wh_drive.specs.declared.vehicle.Vehicle.{Vehicle}
use Rattle.wh_drive.proofs.Vehicles.{idle}
use Rattle.wh_drive.proofs.Opening.{all-idle}
use Rattle.wh_order.specs.declared.visit.Visit.{Visit}
use Rattle.wh_order.specs.declared.visit.Pending.{Pending}
use Rattle.wh_grid.specs.Cells.{is_cell}
use Rattle.wh_order.specs.Orders.{Order, latest_at, line_of, step_of, vehicle_in, reached_of, told_of, IsKept, IsInLine, AreInLine, unless_over, Forgets, without, not_over, first_step, step_to, started_order, HasLeft, IsArrived, IsTicked, AreVisited, AreSteps, IsPlaced}
use Rattle.wh_grid.proofs.Cells.{is_cell-one, is_cell_equiv}
use Rattle.wh_order.proofs.Latest.{sought}
use Rattle.wh_order.proofs.Asking.{come-in}

-- what is left of a visit once what is over is forgotten
stays : (vehicles : List Vehicle) (w : Option Visit) (v : Visit) → unless_over vehicles w ≡ Some v → (w ≡ Some v) × (reached_of vehicles v.agent ≤ v.time)
stays vehicles None v e = absurd (let f : None ≡ Some v = e in cc)
stays vehicles (Some w) v e = elim (cases_Bool (nat_lt w.time (reached_of vehicles w.agent))) [
  | inl over ↦ absurd (let f : None ≡ Some v = sym (ap (λ b. cond b None (Some w)) over) ∙ e in cc)
  | inr here ↦
      let same : Some w ≡ Some v = sym (ap (λ b. cond b None (Some w)) here) ∙ e in
      let is : w ≡ v = ap (λ (o : Option Visit). unwrap_or o w) same in
      let late : reached_of vehicles w.agent ≤ w.time = ltb-false w.time (reached_of vehicles w.agent) here in
      (same, subst (λ (u : Visit). reached_of vehicles u.agent ≤ u.time) is late)
]

-- the vehicles after one has arrived
abbrev pub after : Order → ℕ → List Vehicle
after o agent = set o.vehicles agent (record { reached = reached_of o.vehicles agent + 1; told = told_of o.vehicles agent })

mine : (o : Order) (agent : ℕ) → agent < length o.vehicles → reached_of (after o agent) agent ≡ reached_of o.vehicles agent + 1
mine o agent known = ap (λ (v : Vehicle). v.reached) (get_or-set_same o.vehicles agent (record { reached = reached_of o.vehicles agent + 1; told = told_of o.vehicles agent }) idle known)

others : (o : Order) (agent i : ℕ) → i ≢ agent → reached_of (after o agent) i ≡ reached_of o.vehicles i
others o agent i ne = ap (λ (v : Vehicle). v.reached) (get_or-set_other o.vehicles agent i (record { reached = reached_of o.vehicles agent + 1; told = told_of o.vehicles agent }) idle ne)

over : (vehicles : List Vehicle) (v : Visit) → v.time < reached_of vehicles v.agent → unless_over vehicles (Some v) ≡ None
over vehicles v h = cond-true (nat_lt v.time (reached_of vehicles v.agent)) None (Some v) (lt-ltb v.time (reached_of vehicles v.agent) h)

not-over : (vehicles : List Vehicle) (v : Visit) → reached_of vehicles v.agent ≤ v.time → unless_over vehicles (Some v) ≡ Some v
not-over vehicles v h = cond-false (nat_lt v.time (reached_of vehicles v.agent)) None (Some v) (le-ltb v.time (reached_of vehicles v.agent) h)

either : {X : Type 0} (b : Bool) (x : X) → cond b x x ≡ x
either true x = refl
either false x = refl

-- where the vehicle leaves the cell, what is kept of it is forgotten if it is that visit: so of all cells what is over is
left-visit : (o : Order) (agent : ℕ) (cell : Cell) (v : Visit) → AreInLine o → agent < length o.vehicles → latest_at o.latest cell ≡ Some v →
    cond (is_cell (step_of (line_of o.lines agent) 0).cell cell) (without agent (reached_of o.vehicles agent) (Some v)) (Some v) ≡ unless_over (after o agent) (Some v)
left-visit o agent cell v in_line known e =
    let line = in_line cell v e in
    let here = is_cell (step_of (line_of o.lines agent) 0).cell cell in
    let since = line.not_over in
    let kept : without agent (reached_of o.vehicles agent) (Some v) ≡ Some v → reached_of (after o agent) v.agent ≤ v.time →
    cond here (without agent (reached_of o.vehicles agent) (Some v)) (Some v) ≡ unless_over (after o agent) (Some v) = λ same late.
    ap (λ w. cond here w (Some v)) same ∙ either here (Some v) ∙ sym (not-over (after o agent) v late) in
    elim (cases_eq v.agent agent) [
      | inl own ↦
          let was : reached_of o.vehicles v.agent ≡ reached_of o.vehicles agent = ap (reached_of o.vehicles) own in
          let now : reached_of (after o agent) v.agent ≡ reached_of o.vehicles agent + 1 = ap (reached_of (after o agent)) own ∙ mine o agent known in
          elim (cases_eq v.time (reached_of o.vehicles agent)) [
            | inl then ↦
                let first : v.time - reached_of o.vehicles v.agent ≡ 0 = omega arith in
                let there : (step_of (line_of o.lines agent) 0).cell ≡ cell =
                ap (λ k. (step_of (line_of o.lines agent) k).cell) (sym first) ∙ ap (λ i. (step_of (line_of o.lines i) (v.time - reached_of o.vehicles v.agent)).cell) (sym own) ∙ line.there in
                let gone : without agent (reached_of o.vehicles agent) (Some v) ≡ None =
                ap (λ b. cond b None (Some v)) (and_from (v.agent == agent) (v.time == reached_of o.vehicles agent) (eq-eqb v.agent agent own) (eq-eqb v.time (reached_of o.vehicles agent) then)) in
                ap (λ b. cond b (without agent (reached_of o.vehicles agent) (Some v)) (Some v)) (is_cell-one (step_of (line_of o.lines agent) 0).cell cell there)
                ∙ gone ∙ sym (over (after o agent) v (omega arith))
            | inr later ↦
                kept (ap (λ b. cond b None (Some v)) (and_right (v.agent == agent) (v.time == reached_of o.vehicles agent) (ne_eqb v.time (reached_of o.vehicles agent) later))) (omega arith)
          ]
      | inr ne ↦
          let now : reached_of (after o agent) v.agent ≡ reached_of o.vehicles v.agent = others o agent v.agent ne in
          kept (ap (λ b. cond b None (Some v)) (and_left (v.agent == agent) (v.time == reached_of o.vehicles agent) (ne_eqb v.agent agent ne))) (omega arith)
    ]

left-cell : (o : Order) (agent : ℕ) (cell : Cell) (v : Option Visit) → AreInLine o → agent < length o.vehicles → latest_at o.latest cell ≡ v →
    cond (is_cell (step_of (line_of o.lines agent) 0).cell cell) (without agent (reached_of o.vehicles agent) v) v ≡ unless_over (after o agent) v
left-cell o agent cell None in_line known e = either (is_cell (step_of (line_of o.lines agent) 0).cell cell) None
left-cell o agent cell (Some v) in_line known e = left-visit o agent cell v in_line known e

pub forgets-left : (o : Order) (agent : ℕ) (latest : List (Cell × Visit)) → AreInLine o → agent < length o.vehicles →
    ((cell : Cell) → latest_at latest cell
    ≡ cond (is_cell (step_of (line_of o.lines agent) 0).cell cell) (without agent (reached_of o.vehicles agent) (latest_at o.latest cell)) (latest_at o.latest cell)) →
    Forgets (after o agent) o.latest latest
forgets-left o agent latest in_line known is = λ cell. is cell ∙ left-cell o agent cell (latest_at o.latest cell) in_line known refl

-- each event keeps what is kept of cells in line
pub in-line-arrived : (o new : Order) (agent : ℕ) → AreInLine o → IsKept o → HasLeft o agent → IsArrived o new agent → AreInLine new
in-line-arrived o new agent in_line kept has is cell v e =
    let known = has.known in
    let sizes = kept.sizes in
    let found = stays new.vehicles (latest_at o.latest cell) v (sym (is.latest cell) ∙ e) in
    let was = in_line cell v found.0 in
    let late = found.1 in
    let early = was.not_over in
    let size : length new.vehicles ≡ length o.vehicles = ap (λ (vs : List Vehicle). length vs) is.vehicles ∙ length-set o.vehicles agent _ in
    let within : agent < length o.lines = omega arith in
    let was_known = was.known in
    record {
      known = omega arith;
      not_over = late;
      planned = (let p = was.planned in let c = is.clock in omega arith);
      there = elim (cases_eq v.agent agent) [
        | inl own ↦
            let line : line_of new.lines v.agent ≡ drop 1 (line_of o.lines v.agent) =
            ap (λ (ls : List (List Pending)). line_of ls v.agent) is.lines ∙ ap (line_of (set o.lines agent (drop 1 (line_of o.lines agent)))) own
            ∙ get_or-set_same o.lines agent (drop 1 (line_of o.lines agent)) [] within ∙ ap (λ i. drop 1 (line_of o.lines i)) (sym own) in
            let now : reached_of new.vehicles v.agent ≡ reached_of o.vehicles v.agent + 1 =
            ap (λ (vs : List Vehicle). reached_of vs v.agent) is.vehicles ∙ ap (reached_of (after o agent)) own ∙ mine o agent known ∙ ap (λ i. reached_of o.vehicles i + 1) (sym own) in
            let place : 1 + (v.time - reached_of new.vehicles v.agent) ≡ v.time - reached_of o.vehicles v.agent = omega arith in
            ap (λ (ps : List Pending). (step_of ps (v.time - reached_of new.vehicles v.agent)).cell) line
            ∙ ap (λ (p : Pending). p.cell) (get_or-drop 1 (line_of o.lines v.agent) (v.time - reached_of new.vehicles v.agent) (record { cell = record { x = 0; y = 0 }; after = None }))
            ∙ ap (λ k. (step_of (line_of o.lines v.agent) k).cell) place ∙ was.there
        | inr ne ↦
            let line : line_of new.lines v.agent ≡ line_of o.lines v.agent =
            ap (λ (ls : List (List Pending)). line_of ls v.agent) is.lines ∙ get_or-set_other o.lines agent v.agent (drop 1 (line_of o.lines agent)) [] ne in
            let now : reached_of new.vehicles v.agent ≡ reached_of o.vehicles v.agent =
            ap (λ (vs : List Vehicle). reached_of vs v.agent) is.vehicles ∙ others o agent v.agent ne in
            ap (λ (ps : List Pending). (step_of ps (v.time - reached_of new.vehicles v.agent)).cell) line
            ∙ ap (λ n. (step_of (line_of o.lines v.agent) (v.time - n)).cell) now ∙ was.there
      ];
    }

pub in-line-started : (o : Order) (agent : ℕ) → AreInLine o → agent < length o.vehicles → AreInLine (started_order agent o)
in-line-started o agent in_line known cell v e =
    let new = started_order agent o in
    let was = in_line cell v e in
    let early = was.not_over in
    let was_known = was.known in
    let size : length new.vehicles ≡ length o.vehicles = length-set o.vehicles agent _ in
    let same : reached_of new.vehicles v.agent ≡ reached_of o.vehicles v.agent = elim (cases_eq v.agent agent) [
      | inl own ↦
          ap (reached_of new.vehicles) own
          ∙ ap (λ (w : Vehicle). w.reached) (get_or-set_same o.vehicles agent (record { reached = reached_of o.vehicles agent; told = told_of o.vehicles agent + 1 }) idle known)
          ∙ ap (reached_of o.vehicles) (sym own)
      | inr ne ↦ ap (λ (w : Vehicle). w.reached) (get_or-set_other o.vehicles agent v.agent (record { reached = reached_of o.vehicles agent; told = told_of o.vehicles agent + 1 }) idle ne)
    ] in
    record {
      known = omega arith;
      not_over = omega arith;
      planned = was.planned;
      there = ap (λ n. (step_of (line_of o.lines v.agent) (v.time - n)).cell) same ∙ was.there;
    }

-- room that is made changes no line and no latest visit
pub in-line-same : (o new : Order) → AreInLine o → new.clock ≡ o.clock → new.latest ≡ o.latest → new.lines ≡ o.lines → new.vehicles ≡ o.vehicles → AreInLine new
in-line-same o new in_line clock latest lines vehicles =
    let same : record o { ready = new.ready; ahead = new.ahead } ≡ new = λ i. record {
      ahead = new.ahead;
      clock = sym clock i;
      ready = new.ready;
      latest = sym latest i;
      lines = sym lines i;
      vehicles = sym vehicles i;
    } in
    let all : AreInLine (record o { ready = new.ready; ahead = new.ahead }) = λ cell v e.
    let was = in_line cell v e in
    record { known = was.known; not_over = was.not_over; planned = was.planned; there = was.there } in
    subst AreInLine same all

pub in-line-ticked : (o new : Order) (cells : List Cell) → AreInLine o → IsKept o → length cells ≡ length o.vehicles → IsTicked o new cells → AreInLine new
in-line-ticked o new cells in_line kept all t cell v e =
    let clock = t.clock in
    let size : length new.vehicles ≡ length o.vehicles = ap (λ (vs : List Vehicle). length vs) t.vehicles in
    elim (sought cells (length cells) cell) [
      | inl found ↦
          let i = found.0 in
          let within = found.1 in
          let known : i < length o.vehicles = omega arith in
          let is : Some (record { agent = i; time = o.clock + 1 }) ≡ Some v = sym (t.latest.each i within) ∙ ap (latest_at new.latest) found.2 ∙ e in
          let same : record { agent = i; time = o.clock + 1 } ≡ v = ap (λ (w : Option Visit). unwrap_or w v) is in
          let here : reached_of new.vehicles i ≡ reached_of o.vehicles i = ap (λ (vs : List Vehicle). reached_of vs i) t.vehicles in
          let left = kept.left i known in
          let step = step_to o.latest i (cell_at cells i) in
          let count : length (line_of o.lines i) ≡ o.clock + 1 - reached_of new.vehicles i = omega arith in
          let early = kept.in_step i known in
          let late = kept.in_time i known in
          let line : IsInLine new cell (record { agent = i; time = o.clock + 1 }) = record {
            known = omega arith;
            not_over = omega arith;
            planned = omega arith;
            there = ap (λ (ps : List Pending). (step_of ps (o.clock + 1 - reached_of new.vehicles i)).cell) (t.lines.each i within)
                ∙ ap (λ (p : Pending). p.cell) (get_or_push (line_of o.lines i) step (record { cell = record { x = 0; y = 0 }; after = None }) (o.clock + 1 - reached_of new.vehicles i) count)
                ∙ found.2;
          } in
          subst (IsInLine new cell) same line
      | inr none ↦
          let was = in_line cell v (sym (t.latest.others cell none) ∙ e) in
          let known = was.known in
          let early = was.not_over in
          let late = was.planned in
          let within : v.agent < length cells = omega arith in
          let here : reached_of new.vehicles v.agent ≡ reached_of o.vehicles v.agent = ap (λ (vs : List Vehicle). reached_of vs v.agent) t.vehicles in
          let left = kept.left v.agent known in
          let step = step_to o.latest v.agent (cell_at cells v.agent) in
          let place : v.time - reached_of o.vehicles v.agent < length (line_of o.lines v.agent) = omega arith in
          record {
            known = omega arith;
            not_over = omega arith;
            planned = omega arith;
            there = ap (λ n. (step_of (line_of new.lines v.agent) (v.time - n)).cell) here
                ∙ ap (λ (ps : List Pending). (step_of ps (v.time - reached_of o.vehicles v.agent)).cell) (t.lines.each v.agent within)
                ∙ ap (λ (p : Pending). p.cell) (get_or_append_left (line_of o.lines v.agent) (step ∷ []) (record { cell = record { x = 0; y = 0 }; after = None }) (v.time - reached_of o.vehicles v.agent) place)
                ∙ was.there;
          }
    ]

pub in-line-opened : (o : Order) (starts : List Cell) (empty : List (Cell × Visit)) → ((cell : Cell) → latest_at empty cell ≡ None) → AreVisited 0 starts empty o.latest →
    o.lines ≡ map (λ cell. first_step cell ∷ []) starts → o.vehicles ≡ map (λ _. idle) starts → AreInLine o
in-line-opened o starts empty nothing visited lines vehicles cell v e =
    let size : length o.vehicles ≡ length starts = ap (λ (vs : List Vehicle). length vs) vehicles ∙ length-map starts (λ _. idle) in
    elim (sought starts (length starts) cell) [
      | inl found ↦
          let i = found.0 in
          let within = found.1 in
          let is : Some (record { agent = i; time = 0 }) ≡ Some v = sym (visited.each i within) ∙ ap (latest_at o.latest) found.2 ∙ e in
          let same : record { agent = i; time = 0 } ≡ v = ap (λ (w : Option Visit). unwrap_or w v) is in
          let start : reached_of o.vehicles i ≡ 0 = ap (λ (vs : List Vehicle). reached_of vs i) vehicles ∙ ap (λ (w : Vehicle). w.reached) (all-idle starts i) in
          let first : 0 - reached_of o.vehicles i ≡ 0 = omega arith in
          let line : IsInLine o cell (record { agent = i; time = 0 }) = record {
            known = omega arith;
            not_over = omega arith;
            planned = omega arith;
            there = ap (λ k. (step_of (line_of o.lines i) k).cell) first
                ∙ ap (λ (ls : List (List Pending)). (step_of (line_of ls i) 0).cell) lines
                ∙ ap (λ (ps : List Pending). (step_of ps 0).cell) (get_or-map (λ c. first_step c ∷ []) starts i origin [] within)
                ∙ found.2;
          } in
          subst (IsInLine o cell) same line
      | inr none ↦ absurd (let f : None ≡ Some v = sym (nothing cell) ∙ sym (visited.others cell none) ∙ e in cc)
    ]

pub in-line-placed : (o new : Order) (vehicles : List Vehicle) → AreInLine o → AreSteps o vehicles → IsPlaced o new vehicles → AreInLine new
in-line-placed o new vehicles in_line steps is cell v e =
    let found = stays vehicles (latest_at o.latest cell) v (sym (is.latest cell) ∙ e) in
    let was = in_line cell v found.0 in
    let known = was.known in
    let late = found.1 in
    let all = steps.all in
    let size : length new.vehicles ≡ length vehicles = ap (λ (vs : List Vehicle). length vs) is.vehicles_are in
    let now : reached_of new.vehicles v.agent ≡ reached_of vehicles v.agent = ap (λ (vs : List Vehicle). reached_of vs v.agent) is.vehicles_are in
    let within : v.agent < length vehicles = omega arith in
    let start = steps.idle v.agent within in
    let place : reached_of vehicles v.agent + (v.time - reached_of new.vehicles v.agent) ≡ v.time - reached_of o.vehicles v.agent = omega arith in
    record {
      known = omega arith;
      not_over = omega arith;
      planned = (let p = was.planned in let c = is.clock in omega arith);
      there = ap (λ (ps : List Pending). (step_of ps (v.time - reached_of new.vehicles v.agent)).cell) (is.lines.each v.agent within)
          ∙ ap (λ (p : Pending). p.cell) (get_or-drop (reached_of vehicles v.agent) (line_of o.lines v.agent) (v.time - reached_of new.vehicles v.agent) (record { cell = record { x = 0; y = 0 }; after = None }))
          ∙ ap (λ k. (step_of (line_of o.lines v.agent) k).cell) place ∙ was.there;
    }

-- So no more is kept than there are visits in lines.
abbrev nowhere : Pending
nowhere = record { cell = record { x = 0; y = 0 }; after = None }

-- a visit that stands in a line is among the cells of the lines
among : (lines : List (List Pending)) (i k : ℕ) (cell : Cell) → i < length lines → k < length (line_of lines i) → (step_of (line_of lines i) k).cell ≡ cell →
    list_any (is_cell cell) (flat_map (λ (ps : List Pending). map (λ (p : Pending). p.cell) ps) lines) ≡ true
among lines i k cell known within there =
    let f : List Pending → List Cell = λ ps. map (λ (p : Pending). p.cell) ps in
    let line = line_of lines i in
    let size : length (f line) ≡ length line = length-map line (λ (p : Pending). p.cell) in
    let before = length (flat_map f (take i lines)) in
    let all : before + length (f (get_or lines i [])) ≤ length (flat_map f lines) = length-flat_map-take f lines i [] known in
    let at : get_or (flat_map f lines) (before + k) origin ≡ get_or (f line) k origin = get_or-flat_map f lines i k [] origin known (omega arith) in
    let is : get_or (f line) k origin ≡ (step_of line k).cell = get_or-map (λ (p : Pending). p.cell) line k nowhere origin within in
    list_any_at (is_cell cell) (flat_map f lines) (before + k) origin (omega arith) (is_cell-one cell (get_or (flat_map f lines) (before + k) origin) (sym (at ∙ is ∙ there)))

sums : (n : ℕ) (lines : List (List Pending)) (vehicles : List Vehicle) → length lines ≡ length vehicles →
    ((i : ℕ) → i < length vehicles → reached_of vehicles i + length (line_of lines i) ≡ n) →
    sum_by (λ (ps : List Pending). length (map (λ (p : Pending). p.cell) ps)) lines ≡ sum_by (λ (v : Vehicle). n - v.reached) vehicles
sums n [] [] size left = refl
sums n [] (v ∷ vehicles) size left = absurd (let e : 0 ≡ suc (length vehicles) = size in omega arith)
sums n (line ∷ lines) [] size left = absurd (let e : suc (length lines) ≡ 0 = size in omega arith)
sums n (line ∷ lines) (v ∷ vehicles) size left =
    let e : suc (length lines) ≡ suc (length vehicles) = size in
    let first : v.reached + length line ≡ n = left 0 (let h : 0 < suc (length vehicles) = omega arith in h) in
    let same : length (map (λ (p : Pending). p.cell) line) ≡ length line = length-map line (λ (p : Pending). p.cell) in
    let rest = sums n lines vehicles (omega arith) (λ i h. left (suc i) (let l : suc i < suc (length vehicles) = omega arith in l)) in
    let one = sum_by-cons (λ (ps : List Pending). length (map (λ (p : Pending). p.cell) ps)) line lines in
    let two = sum_by-cons (λ (w : Vehicle). n - w.reached) v vehicles in
    omega arith

is-visit : (v : Option Visit) → is_some v ≡ true → (w : Visit) × (v ≡ Some w)
is-visit None e = absurd (let f : false ≡ true = e in cc)
is-visit (Some w) e = (w, refl)

pub few-kept : (o : Order) → IsKept o → AreInLine o → IsDistinct is_cell (keys_of o.latest) → length o.latest ≤ not_over o
few-kept o kept in_line distinct =
    let f : List Pending → List Cell = λ ps. map (λ (p : Pending). p.cell) ps in
    let keys = keys_of o.latest in
    let sizes = kept.sizes in
    let member : (cell : Cell) → is_member is_cell keys cell ≡ true → is_member is_cell (flat_map f o.lines) cell ≡ true = λ cell is.
    let found = is-visit (latest_at o.latest cell) (is_some-lookup (is_cell cell) o.latest ∙ is) in
    let v = found.0 in
    let line = in_line cell v found.1 in
    let known = line.known in
    let early = line.not_over in
    let late = line.planned in
    let left = kept.left v.agent known in
    among o.lines v.agent (v.time - reached_of o.vehicles v.agent) cell (omega arith) (omega arith) line.there in
    let fewer = length-le_from_is_member is_cell_equiv keys (flat_map f o.lines) distinct member in
    let same = length-keys_of o.latest in
    let total = length-flat_map f o.lines in
    let sum = sums (o.clock + 1) o.lines o.vehicles sizes kept.left in
    omega arith

-- what a vehicle that comes in leaves
pub came-in : {X : Type 0} (items : X → List Pending) (o : Order) (qs : List X) (agent : ℕ) (v q : X) (x : Vehicle) (p : Pending) (latest : List (Cell × Visit)) →
    IsKept o → AreInLine o → HasLeft o agent → o.lines ≡ map items qs → x ≡ get_or o.vehicles agent x → q ≡ get_or qs agent q → items v ≡ drop 1 (items q) →
    p ≡ step_of (line_of o.lines agent) 0 →
    ((cell : Cell) → latest_at latest cell ≡ cond (is_cell p.cell cell) (without agent x.reached (latest_at o.latest cell)) (latest_at o.latest cell)) →
    IsArrived o (record {
      ahead = o.ahead;
      clock = o.clock;
      ready = false;
      latest = latest;
      lines = map items (set qs agent v);
      vehicles = set o.vehicles agent (record { reached = x.reached + 1; told = x.told });
    }) agent
came-in items o qs agent v q x p latest kept in_line has lines vehicle line popped over is =
    let known = has.known in
    let sizes = kept.sizes in
    let count : length o.lines ≡ length qs = ap (λ (ls : List (List Pending)). length ls) lines ∙ length-map qs items in
    let within : agent < length qs = omega arith in
    let same : x ≡ get_or o.vehicles agent idle = get_or_read o.vehicles agent x known vehicle idle in
    let forgets = forgets-left o agent latest in_line known (λ cell.
    is cell
    ∙ ap (λ (r : Pending). cond (is_cell r.cell cell) (without agent x.reached (latest_at o.latest cell)) (latest_at o.latest cell)) over
    ∙ ap (λ (w : Vehicle). cond (is_cell (step_of (line_of o.lines agent) 0).cell cell) (without agent w.reached (latest_at o.latest cell)) (latest_at o.latest cell)) same) in
    come-in items o qs agent v q x latest lines within known vehicle line popped forgets

-- a slice that is written as a whole
pub written-over : {X : Type 0} (len : ℕ) (new old : List X) → length new ≡ len → take len (new ++ drop (length new) old) ≡ new
written-over len new old e = take_at new (drop (length new) old) len e

pub kept-ticked : (o new : Order) (cells : List Cell) → IsKept o → length cells ≡ length o.vehicles → IsTicked o new cells → IsKept new
kept-ticked o new cells kept all t =
    let vehicles : (i : ℕ) → vehicle_in new.vehicles i ≡ vehicle_in o.vehicles i = λ i. ap (λ (vs : List Vehicle). vehicle_in vs i) t.vehicles in
    let size : length new.vehicles ≡ length o.vehicles = ap (λ (vs : List Vehicle). length vs) t.vehicles in
    let sizes = kept.sizes in
    let clock = t.clock in
    record {
      sizes = (let s = t.lines.size in omega arith);
      few = (let f = kept.few in omega arith);
      left = λ i h.
          let same : reached_of new.vehicles i ≡ reached_of o.vehicles i = ap (λ (v : Vehicle). v.reached) (vehicles i) in
          let left = kept.left i (omega arith) in
          let longer : length (line_of new.lines i) ≡ length (line_of o.lines i) + 1 =
          ap (λ (ps : List Pending). length ps) (t.lines.each i (let l : i < length cells = omega arith in l)) ∙ length_push (line_of o.lines i) (step_to o.latest i (cell_at cells i)) in
          omega arith;
      in_step = λ i h. subst (λ (v : Vehicle). v.reached ≤ v.told) (sym (vehicles i)) (kept.in_step i (omega arith));
      in_time = λ i h.
          let same : told_of new.vehicles i ≡ told_of o.vehicles i = ap (λ (v : Vehicle). v.told) (vehicles i) in
          let in_time = kept.in_time i (omega arith) in
          omega arith;
    }

pub kept-placed : (o new : Order) (vehicles : List Vehicle) → IsKept o → AreSteps o vehicles → IsPlaced o new vehicles → IsKept new
kept-placed o new vehicles kept steps is =
    let same : (i : ℕ) → vehicle_in new.vehicles i ≡ vehicle_in vehicles i = λ i. ap (λ (vs : List Vehicle). vehicle_in vs i) is.vehicles_are in
    let size : length new.vehicles ≡ length vehicles = ap (λ (vs : List Vehicle). length vs) is.vehicles_are in
    let sizes = kept.sizes in
    let all = steps.all in
    let clock = is.clock in
    record {
      sizes = (let s = is.lines.size in omega arith);
      few = (let f = kept.few in omega arith);
      left = λ i h.
          let l : i < length vehicles = omega arith in
          let now : reached_of new.vehicles i ≡ reached_of vehicles i = ap (λ (v : Vehicle). v.reached) (same i) in
          let left = kept.left i (omega arith) in
          let start = steps.idle i l in
          let in_step = steps.in_step i l in
          let in_time = steps.in_time i l in
          let shorter : length (line_of new.lines i) ≡ length (line_of o.lines i) - reached_of vehicles i =
          ap (λ (ps : List Pending). length ps) (is.lines.each i l) ∙ length-drop (reached_of vehicles i) (line_of o.lines i) in
          omega arith;
      in_step = λ i h. subst (λ (v : Vehicle). v.reached ≤ v.told) (sym (same i)) (steps.in_step i (omega arith));
      in_time = λ i h.
          let now : told_of new.vehicles i ≡ told_of vehicles i = ap (λ (v : Vehicle). v.told) (same i) in
          let in_time = steps.in_time i (omega arith) in
          omega arith;
    }

pub kept-same : (o new : Order) → IsKept o → new.clock ≡ o.clock → new.lines ≡ o.lines → new.vehicles ≡ o.vehicles → IsKept new
kept-same o new kept clock lines vehicles =
    let same : record o { ready = new.ready; ahead = new.ahead; latest = new.latest } ≡ new = λ i. record {
      ahead = new.ahead;
      clock = sym clock i;
      ready = new.ready;
      latest = new.latest;
      lines = sym lines i;
      vehicles = sym vehicles i;
    } in
    let all : IsKept (record o { ready = new.ready; ahead = new.ahead; latest = new.latest }) = record {
      sizes = kept.sizes;
      few = kept.few;
      left = kept.left;
      in_step = kept.in_step;
      in_time = kept.in_time;
    } in
    subst IsKept same all

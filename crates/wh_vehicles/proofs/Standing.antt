-- vehicles stand at passable cells, and no two at one
use Rattle.std.proofs.Common.{◌≡◌, ◌≢◌, ℕ, ◌+◌, ◌-◌, ◌<◌, ◌≤◌, ◌∙◌, inl, inr, List, [], ◌∷◌, ◌++◌, length, sym, subst, refl, ap, arith}
use Prim.Native.Nat.{zero, suc}
use Rattle.std.proofs.lemmas.Bool.{cases_lt}
use Rattle.std.proofs.lemmas.List.{length-set}
use Rattle.wh_grid.specs.declared.cell.Cell.{Cell}
use Rattle.wh_grid.specs.Grids.{IsPassable}
use Rattle.wh_path.specs.Paths.{cell_at, place_of}
use Rattle.wh_points.specs.Points.{Site}
use Rattle.wh_event.specs.declared.entry.Entry.{Entry}
use Rattle.wh_event.specs.declared.reply.Reply.{Reply}
use Rattle.wh_core.specs.States.{State}
use Rattle.wh_core.specs.Laws.{IsReached as IsReachedState}
use Rattle.wh_core.specs.Stopping.{Stand}
use Rattle.wh_core.proofs.Sound.{sound-reached as sound-state}
use Rattle.wh_drive.specs.declared.vehicle.Vehicle.{Vehicle}
use Rattle.wh_drive.specs.Drives.{Drive, clock, planned, reached, told, place, Occupies, started, arrived, ticked, opened}
use Rattle.wh_drive.specs.Runs.{IsSound}
use Rattle.wh_drive.proofs.Vehicles.{ticked-past, ticked-now, ticked-length}
use Rattle.wh_drive.proofs.Running.{sound-reached, sound-apart}
use Rattle.wh_vehicles.specs.Plans.{places, Happening, Done, Goes, Comes, taken, Fleet, AllHappen, IsOpening, entries_of, IsCarriedOut}
use Rattle.wh_vehicles.specs.Stands.{stands_from, stands, VehiclesStand}
use Rattle.wh_vehicles.proofs.Planning.{size, at-place, carried, carried-opening}

length-stands : (d : Drive) (n : ℕ) (vehicles : List Vehicle) → length (stands_from d n vehicles) ≡ length vehicles
length-stands d n [] = refl
length-stands d n (v ∷ vehicles) = ap suc (length-stands d (suc n) vehicles)

stands-at : (d : Drive) (n : ℕ) (vehicles : List Vehicle) (i : ℕ) → i < length vehicles → cell_at (stands_from d n vehicles) i ≡ place d (n + i)
stands-at d n [] i h = absurd (omega arith)
stands-at d n (v ∷ vehicles) zero h = (let e : n ≡ n + 0 = omega arith in ap (λ k. place d k) e)
stands-at d n (v ∷ vehicles) (suc i) h =
    let e : suc n + i ≡ n + suc i = omega arith in
    stands-at d (suc n) vehicles i (omega arith) ∙ ap (λ k. place d k) e

-- the plan leads over passable cells
Passes : Site → Drive → Type 0
Passes site d = (agent time : ℕ) → agent < length d.vehicles → time < length d.rows → IsPassable site.grid (planned d agent time)

-- the cells where the agents of a state are
places-pass : (site : Site) (entries : List Entry) (s : State) (agent : ℕ) → IsReachedState site entries s → agent < length s.paths → IsPassable site.grid (cell_at (places s) agent)
places-pass site entries s agent r h =
    subst (λ c. IsPassable site.grid c) (sym (at-place s agent h)) (((sound-state site entries s r).walks agent h).passable 0)

pass-taken : (site : Site) (entries : List Entry) (reply : Reply) (s : State) (d : Drive) → IsReachedState site entries s → length d.vehicles ≡ length s.paths →
    Passes site d → Passes site (taken reply s d)
unfolding Passes
pass-taken site entries (Reply.Clock now first last) s d r all pass agent time h t = elim (cases_lt time (length d.rows)) [
  | inl past ↦ subst (λ c. IsPassable site.grid c) (sym (ticked-past d (places s) agent time past)) (pass agent time h past)
  | inr late ↦
      let size_is = ticked-length d (places s) in
      let e : length d.rows ≡ time = omega arith in
      subst (λ c. IsPassable site.grid c) (sym (ticked-now d (places s) agent time e)) (places-pass site entries s agent r (omega arith))
]
pass-taken site entries (Reply.Refused refusal) s d r all pass agent time h t = pass agent time h t
pass-taken site entries (Reply.Accepted n) s d r all pass agent time h t = pass agent time h t
pass-taken site entries (Reply.Took n path) s d r all pass agent time h t = pass agent time h t
pass-taken site entries Reply.Rested s d r all pass agent time h t = pass agent time h t
pass-taken site entries (Reply.Parked point path) s d r all pass agent time h t = pass agent time h t
pass-taken site entries (Reply.Replaced slots) s d r all pass agent time h t = pass agent time h t
pass-taken site entries Reply.Closed s d r all pass agent time h t = pass agent time h t

-- of a plan that goes on or stays the vehicles stay
same-vehicles : (reply : Reply) (s : State) (d : Drive) → length (taken reply s d).vehicles ≡ length d.vehicles
same-vehicles (Reply.Clock now first last) s d = refl
same-vehicles (Reply.Refused refusal) s d = refl
same-vehicles (Reply.Accepted n) s d = refl
same-vehicles (Reply.Took n path) s d = refl
same-vehicles Reply.Rested s d = refl
same-vehicles (Reply.Parked point path) s d = refl
same-vehicles (Reply.Replaced slots) s d = refl
same-vehicles Reply.Closed s d = refl

pass-run : (site : Site) (before : List Entry) (old : Fleet) (happenings : List Happening) (new : Fleet) → IsCarriedOut site before old → Passes site old.drive →
    AllHappen site old happenings new → Passes site new.drive
unfolding Passes
pass-run site before old [] new r pass run = subst (λ (f : Fleet). Passes site f.drive) (sym run) pass
pass-run site before old (Done entry ∷ happenings) new r pass run =
    let mid = run.0 in
    let next = carried site before old (Done entry ∷ []) mid r (mid, run.1, refl) in
    let all : length old.drive.vehicles ≡ length mid.state.paths = sym (same-vehicles entry.reply mid.state old.drive) ∙ ap (λ (d : Drive). length d.vehicles) (sym run.1.1) ∙ next.come.all in
    pass-run site (before ++ entries_of (Done entry ∷ [])) mid happenings new next
    (subst (λ d. Passes site d) (sym run.1.1) (pass-taken site _ entry.reply mid.state old.drive next.state all pass)) run.2
pass-run site before old (Goes agent ∷ happenings) new r pass run =
    let mid = run.0 in
    let next = carried site before old (Goes agent ∷ []) mid r (mid, run.1, refl) in
    let size_is = length-set old.drive.vehicles agent (record { reached = reached old.drive agent; told = told old.drive agent + 1 }) in
    pass-run site (before ++ entries_of (Goes agent ∷ [])) mid happenings new next
    (subst (λ (f : Fleet). Passes site f.drive) (sym run.1.1) (λ i time h t. pass i time (omega arith) t)) run.2
pass-run site before old (Comes agent step ∷ happenings) new r pass run =
    let mid = run.0 in
    let next = carried site before old (Comes agent step ∷ []) mid r (mid, run.1, refl) in
    let size_is = length-set old.drive.vehicles agent (record { reached = reached old.drive agent + 1; told = told old.drive agent }) in
    pass-run site (before ++ entries_of (Comes agent step ∷ [])) mid happenings new next
    (subst (λ (f : Fleet). Passes site f.drive) (sym run.1.1) (λ i time h t. pass i time (omega arith) t)) run.2

pass-opening : (site : Site) (fleet : Fleet) → IsOpening site fleet → Passes site fleet.drive
unfolding Passes
pass-opening site fleet o =
    let s = fleet.state in
    let r = (carried-opening site fleet o).state in
    let cells = size s in
    subst (λ d. Passes site d) (sym o.drive) (λ agent time h t.
    let e : 0 ≡ time = omega arith in
    let l : agent < length s.paths = (let k = (carried-opening site fleet o).come.all in let same = ap (λ (d : Drive). length d.vehicles) o.drive in omega arith) in
    subst (λ k. IsPassable site.grid (planned (opened site.layout.nofollow o.ahead (places s)) agent k)) e (places-pass site [] s agent r l))

stands-is : (d : Drive) (i : ℕ) → i < length d.vehicles → cell_at (stands d) i ≡ place d i
stands-is d i h = (let e : 0 + i ≡ i = omega arith in stands-at d 0 d.vehicles i h ∙ ap (λ k. place d k) e)

passes-at : (site : Site) (d : Drive) → Passes site d → (agent time : ℕ) → agent < length d.vehicles → time < length d.rows → IsPassable site.grid (planned d agent time)
unfolding Passes
passes-at site d pass agent time h t = pass agent time h t

pub vehicles_stand : VehiclesStand
vehicles_stand site opening happenings fleet o run =
    let r = carried site [] opening happenings fleet (carried-opening site opening o) run in
    let pass = pass-run site [] opening happenings fleet (carried-opening site opening o) (pass-opening site opening o) run in
    let d = fleet.drive in
    let sound = sound-reached r.events d r.drive in
    let count = length-stands d 0 d.vehicles in
    let seats = (sound-state site _ fleet.state r.state).seats in
    record {
      all = count ∙ r.come.all ∙ seats.paths;
      passable = λ agent h.
          let l : agent < length d.vehicles = omega arith in
          let step = sound.in_step agent in
          let time = sound.in_time agent in
          let some = sound.plan.some in
          subst (λ c. IsPassable site.grid c) (sym (stands-is d agent l)) (passes-at site d pass agent (reached d agent) l (omega arith));
      apart = λ i j hi hj ne e.
          let li : i < length d.vehicles = omega arith in
          let lj : j < length d.vehicles = omega arith in
          let meet : place d i ≡ place d j = sym (stands-is d i li) ∙ e ∙ stands-is d j lj in
          let one : Occupies d i (place d j) = record { time = reached d i; since = omega arith; until = sound.in_step i; there = meet } in
          let two : Occupies d j (place d j) = record { time = reached d j; since = omega arith; until = sound.in_step j; there = refl } in
          sound-apart d i j (place d j) sound (record { first = li; second = lj; differ = ne }) one two;
    }

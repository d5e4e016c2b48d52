-- each event has an answer
use Rattle.std.proofs.Common.{◌≡◌, ◌≢◌, ℕ, ◌+◌, ◌<◌, ◌≤◌, ◌∙◌, ◌⊎◌, inl, inr, List, [], ◌∷◌, true, false, Some, None, length, get_or, drop, sym, subst, refl, ap, arith}
use Prim.Native.Nat.{zero, suc}
use Rattle.std.specs.Prelude.{All, Contains}
use Rattle.std.specs.List.{AllZip}
use Rattle.std.proofs.lemmas.Bool.{cases_eq, cases_lt}
use Rattle.std.proofs.lemmas.List.{get_or_default}
use Rattle.std.proofs.lemmas.List.Elements.{All-nil, All-cons}
use Rattle.std.proofs.lemmas.Option.{same_Some}
use Rattle.wh_grid.specs.declared.cell.Cell.{Cell}
use Rattle.wh_points.specs.declared.points.Kind.{Kind}
use Rattle.wh_points.specs.declared.points.Point.{Point}
use Rattle.wh_grid.specs.Grids.{Floor, IsPassable}
use Rattle.wh_path.specs.Paths.{at, place_of, end_of, path_of, last_index}
use Rattle.wh_path.specs.Walks.{IsWalkBetween}
use Rattle.wh_field.specs.Distances.{IsDistance}
use Rattle.wh_points.specs.Points.{Layout, Site, IsLayout, IsStation, IsPointCell, point_at}
use Rattle.wh_points.specs.Formed.{IsFormed}
use Rattle.wh_grid.proofs.Pigeons.{cell_cases}
use Rattle.wh_points.proofs.Parkings.{kind_cases}
use Rattle.wh_path.proofs.LeastWalks.{least_walk}
use Rattle.wh_path.proofs.AtLemmas.{at-one}
use Rattle.wh_path.proofs.Trips.{IsTrip, then_go, trip-join, run_of, at-run_of, end-run_of, walk-run_of}
use Rattle.wh_points.specs.Points.{home_of}
use Rattle.wh_core.proofs.Drops.{homeward-some}
use Rattle.wh_core.proofs.Idle.{decide-idle, idle-some, off-on}
use Rattle.wh_tasks.specs.declared.task.Task.{Task}
use Rattle.wh_tasks.specs.Tasks.{IsTask, IsOpen, stops_left, pickup, delivery}
use Rattle.wh_tasks.specs.Choice.{IsEligible, NoneEligible}
use Rattle.wh_tasks.specs.declared.task.Load.{Load}
use Rattle.wh_tasks.proofs.Visiting.{bool_cases}
use Rattle.wh_tasks.proofs.Chosen.{decide-open, nearest-or-none}
use Rattle.wh_planner.specs.Duties.{Delivers, IsLawful, IsClearWay}
use Rattle.wh_core.specs.States.{State, load_of, arrived, picked, dropped, submitted, adopted, assigned, moved, reseated, shut}
use Rattle.wh_core.specs.Steps.{Answers, IsKnown, IsDue, IsNext, NoneIsNext, IsDeliveryCell, IsNextBy, IsAllowed, IsRestCell, tour, MakesWay, IsStationName, IsParkingName, IsUnknownName, IsFirstFault, other_ends, most_tasks, last_clock}
use Rattle.wh_core.specs.Laws.{IsReachedOnTheirWays, AllOnTheirWays, HasWays, HasFitStops}
use Rattle.wh_event.specs.declared.event.Spare.{Spare}
use Rattle.wh_event.specs.declared.event.Event.{Event}
use Rattle.wh_event.specs.declared.reply.Refusal.{Refusal}
use Rattle.wh_event.specs.declared.reply.Reply.{Reply}
use Rattle.wh_event.specs.declared.entry.Entry.{Entry}
use Rattle.wh_core.proofs.Motion.{IsOrderly, station-point}
use Rattle.wh_core.proofs.Opening.{walk-one}
use Rattle.wh_core.proofs.Work.{IsKept}
use Rattle.wh_core.proofs.Sound.{open-more, kept-of, sound-reached, ways-reached, ways-unloaded, none-halted}
use Rattle.wh_core.proofs.Ways.{end-berth, point-passable, ways_on_formed, due-goes, open-left}
use Rattle.wh_planner.proofs.ClearWays.{clear_delivery-lawful, clear_parking-lawful}

-- it holds or not
abbrev Decided : Type 0 → Type 0
Decided P = P ⊎ (P → ⊥)

abbrev Answered : Site → State → Event → Type 0
Answered site s event = (reply : Reply) × (new : State) × Answers site s reply event new

-- names
same-name : (a b : List ℕ) → Decided (a ≡ b)
same-name [] [] = inl refl
same-name [] (y ∷ b) = inr (λ e. (let clash : [] ≡ y ∷ b = e in cc))
same-name (x ∷ a) [] = inr (λ e. (let clash : x ∷ a ≡ [] = e in cc))
same-name (x ∷ a) (y ∷ b) = elim (cases_eq x y) [
  | inr ne ↦ inr (λ e. ne (ap (λ l. get_or l 0 0) e))
  | inl h ↦ elim (same-name a b) [
    | inr ne ↦ inr (λ e. ne (ap (λ l. drop 1 l) e))
    | inl t ↦ inl (ap (λ k. k ∷ a) h ∙ ap (λ l. y ∷ l) t)
  ]
]

none-cons : (p : Point) (points : List Point) (name : List ℕ) → p.name ≢ name → ((k : ℕ) → k < length points → (point_at points k).name ≢ name) →
    (k : ℕ) → k < length (p ∷ points) → (point_at (p ∷ points) k).name ≢ name
none-cons p points name ne none zero h = ne
none-cons p points name ne none (suc k) h = none k (omega arith)

-- the point of a name, if there is one
find-name : (points : List Point) (name : List ℕ) → ((k : ℕ) × (k < length points) × ((point_at points k).name ≡ name)) ⊎ ((k : ℕ) → k < length points → (point_at points k).name ≢ name)
find-name [] name = inr (λ k h. absurd (omega arith))
find-name (p ∷ points) name = elim (same-name p.name name) [
  | inl e ↦ inl (0, omega arith, e)
  | inr ne ↦ elim (find-name points name) [
    | inl f ↦ inl (suc f.0, (let h = f.1 in omega arith), f.2)
    | inr none ↦ inr (none-cons p points name ne none)
  ]
]

data Named (layout : Layout) (name : List ℕ) : Type 0 where
  is_station : IsStationName layout name → Named layout name
  is_parking : IsParkingName layout name → Named layout name
  is_unknown : IsUnknownName layout name → Named layout name

place-is : (points : List Point) (k : ℕ) (name : List ℕ) (kind : Kind) → k < length points → (point_at points k).name ≡ name → (point_at points k).kind ≡ kind →
    Contains points (record { name = name; cell = (point_at points k).cell; kind = kind })
place-is points k name kind h e f =
    let p = point_at points k in
    let is : p ≡ record { name = name; cell = p.cell; kind = kind } = λ i. record { name = e i; cell = p.cell; kind = f i } in
    (k, h, get_or_default points k _ _ h ∙ is)

named : (layout : Layout) (name : List ℕ) → Named layout name
named layout name = elim (find-name layout.points name) [
  | inl f ↦ elim (kind_cases (point_at layout.points f.0).kind) [
    | inl station ↦ is_station ((point_at layout.points f.0).cell, place-is layout.points f.0 name Kind.Station f.1 f.2 station)
    | inr parks ↦ is_parking ((point_at layout.points f.0).cell, place-is layout.points f.0 name Kind.Parking f.1 f.2 parks)
  ]
  | inr none ↦ is_unknown (λ c has.
      let k = has.1.0 in
      none k has.1.1 (ap (λ (p : Point). p.name) (get_or_default layout.points k _ _ has.1.1 ∙ has.1.2)))
]

-- the stops are stations, or there is a first one that is none
data Judged (layout : Layout) (stops : List (List ℕ)) : Type 0 where
  stations : (cells : List Cell) → AllZip (IsStation layout) stops cells → Judged layout stops
  a_parking : (name : List ℕ) → IsFirstFault layout stops name → IsParkingName layout name → Judged layout stops
  an_unknown : (name : List ℕ) → IsFirstFault layout stops name → IsUnknownName layout name → Judged layout stops

later-fault : (layout : Layout) (n : List ℕ) (stops : List (List ℕ)) (name : List ℕ) → IsStationName layout n → IsFirstFault layout stops name → IsFirstFault layout (n ∷ stops) name
later-fault layout n stops name at_it f =
    (n ∷ f.0, f.1, ap (λ l. n ∷ l) f.2, All-cons (λ m. IsStationName layout m) n f.0 at_it f.3)

judge-cons : (layout : Layout) (n : List ℕ) (stops : List (List ℕ)) → Named layout n → Judged layout stops → Judged layout (n ∷ stops)
judge-cons layout n stops (is_parking p) rest = a_parking n ([], stops, refl, All-nil (λ m. IsStationName layout m)) p
judge-cons layout n stops (is_unknown u) rest = an_unknown n ([], stops, refl, All-nil (λ m. IsStationName layout m)) u
judge-cons layout n stops (is_station s) (stations cells zip) = stations (s.0 ∷ cells) (s.1, zip)
judge-cons layout n stops (is_station s) (a_parking name f p) = a_parking name (later-fault layout n stops name s f) p
judge-cons layout n stops (is_station s) (an_unknown name f u) = an_unknown name (later-fault layout n stops name s f) u

judged : (layout : Layout) (stops : List (List ℕ)) → Judged layout stops
judged layout [] = stations [] tt
judged layout (n ∷ stops) = judge-cons layout n stops (named layout n) (judged layout stops)

zip-all : (layout : Layout) (names : List (List ℕ)) (cells : List Cell) → AllZip (IsStation layout) names cells → All (IsStationName layout) names
zip-all layout [] cells zip k d h = absurd (omega arith)
zip-all layout (n ∷ names) [] zip k d h = absurd zip
zip-all layout (n ∷ names) (c ∷ cells) zip zero d h = (c, zip.0)
zip-all layout (n ∷ names) (c ∷ cells) zip (suc k) d h = zip-all layout names cells zip.1 k d (omega arith)

answer-submit : (site : Site) (s : State) (client : List ℕ) (stops : List (List ℕ)) → s.closed ≡ false → length s.tasks ≤ most_tasks →
    2 ≤ length stops → length stops ≤ 8 → Judged site.layout stops → Answered site s (Event.Submit client stops)
answer-submit site s client stops not_closed room two eight (a_parking name f p) = (Reply.Refused (Refusal.NotStation name), s, ((not_closed, f, p), refl))
answer-submit site s client stops not_closed room two eight (an_unknown name f u) = (Reply.Refused (Refusal.UnknownPoint name), s, ((not_closed, f, u), refl))
answer-submit site s client stops not_closed room two eight (stations cells zip) = elim (cases_lt (length s.tasks) most_tasks) [
  | inl more ↦ (Reply.Accepted (length s.tasks), submitted client cells s, (not_closed, refl, more, two, eight, (cells, zip, refl)))
  | inr full ↦ (Reply.Refused Refusal.TasksFull, s, ((not_closed, zip-all site.layout stops cells zip, omega arith), refl))
]

-- whether an open task is delivered at a cell
none-later : (t : Task) (tasks : List Task) (c : Cell) → (IsOpen t → delivery t ≢ c) →
    ((n : ℕ) (task : Task) → IsTask tasks n task → IsOpen task → delivery task ≢ c) →
    (n : ℕ) (task : Task) → IsTask (t ∷ tasks) n task → IsOpen task → delivery task ≢ c
none-later t tasks c first rest zero task is is_open e =
    let same : t ≡ task = same_Some t task is in
    first (ap (λ (u : Task). u.agent) same ∙ is_open) (ap (λ (u : Task). delivery u) same ∙ e)
none-later t tasks c first rest (suc n) task is is_open e = rest n task is is_open e

delivery-cons : (t : Task) (tasks : List Task) (c : Cell) → Decided (IsOpen t) → Decided (delivery t ≡ c) →
    (((n : ℕ) × (task : Task) × IsTask tasks n task × IsOpen task × (delivery task ≡ c)) ⊎ ((n : ℕ) (task : Task) → IsTask tasks n task → IsOpen task → delivery task ≢ c)) →
    (((n : ℕ) × (task : Task) × IsTask (t ∷ tasks) n task × IsOpen task × (delivery task ≡ c))
    ⊎ ((n : ℕ) (task : Task) → IsTask (t ∷ tasks) n task → IsOpen task → delivery task ≢ c))
delivery-cons t tasks c (inl o) (inl e) rest = inl (0, t, refl, o, e)
delivery-cons t tasks c o d (inl f) = inl (suc f.0, f.1, f.2, f.3, f.4)
delivery-cons t tasks c (inr closed) d (inr none) = inr (none-later t tasks c (λ o e. closed o) none)
delivery-cons t tasks c (inl o) (inr ne) (inr none) = inr (none-later t tasks c (λ o e. ne e) none)

decide-delivery : (tasks : List Task) (c : Cell) →
    ((n : ℕ) × (task : Task) × IsTask tasks n task × IsOpen task × (delivery task ≡ c)) ⊎ ((n : ℕ) (task : Task) → IsTask tasks n task → IsOpen task → delivery task ≢ c)
decide-delivery [] c = inr (λ n task is. absurd (let e : None ≡ Some task = is in cc))
decide-delivery (t ∷ tasks) c = delivery-cons t tasks c (decide-open t) (cell_cases (delivery t) c) (decide-delivery tasks c)

-- a walk leads from point to point
points-walk : (site : Site) (c d : Cell) → IsFormed site → IsLayout site.grid site.layout → IsPointCell site.layout c → IsPointCell site.layout d → (walk : List Cell) × IsWalkBetween site.grid c d walk
points-walk site c d formed layout from to = elim (cell_cases c d) [
  | inl e ↦ (
    c ∷ [],
    record {
      walk = walk-one site.grid c (point-passable site c layout from);
      starts = at-one c 0;
      ends = at-one c _ ∙ e;
    },
  )
  | inr ne ↦ (let join = formed.joined c d from to ne in (join.0, join.1.between))
]

-- a walk as a trip
trip-walk : (g : Floor) (p : List Cell) (c d : Cell) → IsWalkBetween g c d p → IsTrip (IsPassable g) (λ k. at p k) (last_index p) c d
trip-walk g p c d b = record { starts = b.starts; arrives = b.ends; ok = λ k le. b.walk.passable k; moves = λ k lt. b.walk.moves k }

-- one walk after another
walks-join : (g : Floor) (p q : List Cell) (a b c : Cell) → IsWalkBetween g a b p → IsWalkBetween g b c q → (walk : List Cell) × IsWalkBetween g a c walk
walks-join g p q a b c first second =
    let n = last_index p in
    let m = last_index q in
    let trip = trip-join (IsPassable g) (λ k. at p k) (λ k. at q k) n m a b c (trip-walk g p a b first) (trip-walk g q b c second) in
    let f = then_go (λ k. at p k) n (λ k. at q k) in (
      run_of f (n + m),
      record {
        walk = walk-run_of g f (n + m) (λ k le. trip.ok k le) (λ k lt. trip.moves k lt);
        starts = at-run_of f (n + m) 0 (omega arith) ∙ trip.starts;
        ends = end-run_of f (n + m) ∙ trip.arrives;
      },
    )

-- from where a due agent is a walk leads to each point: on to its end, and from there
goes-to : (site : Site) (s : State) (agent : ℕ) (to : Cell) → IsFormed site → IsLayout site.grid site.layout → IsOrderly site s → AllOnTheirWays site s → IsDue site s agent → IsPointCell site.layout to →
    (walk : List Cell) × IsWalkBetween site.grid (place_of s.paths agent) to walk
goes-to site s agent to formed layout orderly home due point =
    let own = path_of s.paths agent in
    let on : IsWalkBetween site.grid (place_of s.paths agent) (end_of s.paths agent) own =
    record { walk = orderly.walks agent due.known.known; starts = refl; ends = refl } in
    let rest = points-walk site (end_of s.paths agent) to formed layout (end-berth site s agent home due).point point in
    walks-join site.grid own rest.0 (place_of s.paths agent) (end_of s.paths agent) to on rest.1

-- where some walk leads there is a distance
distance-of : (g : Floor) (c d : Cell) (walk : List Cell) → IsWalkBetween g c d walk → (n : ℕ) × IsDistance g c d (Some n)
distance-of g c d walk between = elim (least_walk g c d) [
  | inl least ↦ (last_index least.0, (least.0, least.1, refl))
  | inr none ↦ absurd (none walk between)
]

-- an agent for which there is no task rests, or makes way
answer-rest : (site : Site) (s : State) (agent : ℕ) → IsKept site s → AllOnTheirWays site s → IsDue site s agent → NoneIsNext s agent →
    ((site.homes ≡ false) → ¬ IsDeliveryCell s (end_of s.paths agent)) → Answered site s (Event.Request agent)
answer-rest site s agent kept home due none off =
    let rest : IsRestCell site s agent (end_of s.paths agent) = record {
      berth = end-berth site s agent home due;
      not_wanted = λ wanted. elim wanted.1 [
        | inl at_it ↦ off wanted.0 at_it
        | inr awaited ↦ none-halted site s awaited.0 awaited.1 kept home awaited.2
      ];
    } in
    (Reply.Rested, s, (due, none, rest, refl))

answer-idle : (site : Site) (s : State) (agent : ℕ) → IsKept site s → AllOnTheirWays site s → HasWays site s agent → IsDue site s agent →
    load_of s agent ≡ Load.None → NoneEligible s.tasks (other_ends s agent) → (site.homes ≡ true) ⊎ (site.homes ≡ false) →
    (((n : ℕ) × (task : Task) × IsTask s.tasks n task × IsOpen task × (delivery task ≡ end_of s.paths agent))
    ⊎ ((n : ℕ) (task : Task) → IsTask s.tasks n task → IsOpen task → delivery task ≢ end_of s.paths agent)) →
    Answered site s (Event.Request agent)
answer-idle site s agent kept home ways due unloaded none (inl on) d =
    answer-rest site s agent kept home due (unloaded, none) (λ off. off-on site.homes off on)
answer-idle site s agent kept home ways due unloaded none (inr off) (inr away) =
    answer-rest site s agent kept home due (unloaded, none) (λ e at_it. away at_it.0 at_it.1 at_it.2 at_it.3 at_it.4)
answer-idle site s agent kept home ways due unloaded none (inr off) (inl at_it) =
    let makes : MakesWay site s agent = record { no_work = inl (unloaded, none); in_the_way = inl (off, inl at_it) } in
    let way = ways.parking makes in
    let path = clear_parking-lawful site.grid site.layout.nofollow s.paths agent (IsAllowed site s agent) way.0 (due-goes site s agent kept.orderly due) way.1 in
    let point = path.1.serves.rest.berth.point in
    (Reply.Parked point.0 path.0, adopted agent path.0 s, (due, makes, path.1, point.1, refl))

answer-due : (site : Site) (s : State) (agent : ℕ) → IsFormed site → IsLayout site.grid site.layout → IsKept site s → AllOnTheirWays site s → HasWays site s agent → IsDue site s agent →
    Answered site s (Event.Request agent)
answer-due site s agent formed layout kept home ways due =
    let orderly = kept.orderly in
    let here = place_of s.paths agent in
    let unloaded = ways-unloaded site s agent kept home due in
    let dist : (n : ℕ) (task : Task) → IsEligible s.tasks (other_ends s agent) n task → (d : ℕ) × IsDistance site.grid here (pickup task) (Some d) =
    λ n task e.
    let has = orderly.stops n task e.there in
    let station = has.stations (open-more site s n task kept e.there e.is_open) 0 (let c = has.count in omega arith) in
    let walk = goes-to site s agent (pickup task) formed layout orderly home due (station-point site.layout (pickup task) station) in
    distance-of site.grid here (pickup task) walk.0 walk.1 in
    elim (nearest-or-none site.grid s.tasks (other_ends s agent) here dist) [
      | inl next ↦
          let is : IsNext site s agent next.0 next.1 = subst (λ l. IsNextBy l site s agent next.0 next.1) (sym unloaded) next.2 in
          let way = ways.delivery next.0 next.1 is in
          let has = orderly.stops next.0 next.1 next.2.eligible.there in
          let left = open-left site s next.0 next.1 kept next.2.eligible.there next.2.eligible.is_open in
          let stops = tour site agent next.1.stops in
          let some = homeward-some site.homes (home_of site.layout agent) next.1.stops (let c = has.count in omega arith) in
          let clear = subst (λ l. IsClearWay site.grid s.paths agent (Delivers (tour site agent l)) way.0) left way.1 in
          let found = clear_delivery-lawful site.grid site.layout.nofollow s.paths agent stops way.0 (due-goes site s agent orderly due) some clear in
          let path : (p : List Cell) × IsLawful site.grid site.layout.nofollow s.paths agent (length stops) (Delivers (tour site agent (stops_left next.1))) p =
          (found.0, subst (λ l. IsLawful site.grid site.layout.nofollow s.paths agent (length stops) (Delivers (tour site agent l)) found.0) (sym left) found.1) in
          (Reply.Took next.0 path.0, arrived (adopted agent path.0 (assigned agent next.0 next.1 s)), (due, (next.1, is, path.1, refl)))
      | inr none ↦ answer-idle site s agent kept home ways due unloaded none (bool_cases site.homes) (decide-delivery s.tasks (end_of s.paths agent))
    ]

answer-replace : (site : Site) (s : State) (agent : ℕ) (spare : Spare) → IsKnown s agent → Answered site s (Event.Replace agent spare)
answer-replace site s agent Spare.None known = (Reply.Refused Refusal.NoSpare, s, (known, refl))
answer-replace site s agent Spare.Foreign known = (Reply.Refused Refusal.ForeignPlanner, s, (known, refl))
answer-replace site s agent (Spare.Fits count) known = (Reply.Replaced count, reseated agent count s, (known, refl, refl))

answer-open : (site : Site) (s : State) (event : Event) → IsFormed site → IsLayout site.grid site.layout → IsKept site s → AllOnTheirWays site s →
    ((agent : ℕ) → IsDue site s agent → HasWays site s agent) → length s.tasks ≤ most_tasks → s.clock ≤ last_clock → s.closed ≡ false → HasFitStops event →
    Answered site s event
answer-open site s (Event.Submit client stops) formed layout kept home ways room time not_closed fit =
    answer-submit site s client stops not_closed room fit.0 fit.1 (judged site.layout stops)
answer-open site s (Event.Request agent) formed layout kept home ways room time not_closed fit = elim (cases_lt agent (length s.paths)) [
  | inr past ↦ (Reply.Refused (Refusal.UnknownAgent agent), s, ((not_closed, past, refl), refl))
  | inl known ↦
      let is_known : IsKnown s agent = record { not_closed = not_closed; known = known } in
      elim (decide-idle site s agent) [
        | inr busy ↦
            let left = idle-some site s agent known busy in
            (Reply.Refused (Refusal.Moving left.0), s, ((is_known, left.1, left.2), refl))
        | inl idle ↦
            let due : IsDue site s agent = record { known = is_known; idle = idle } in
            answer-due site s agent formed layout kept home (ways agent due) due
      ]
]
answer-open site s Event.Tick formed layout kept home ways room time not_closed fit = elim (cases_lt s.clock last_clock) [
  | inl before ↦ (Reply.Clock (s.clock + 1) (picked (moved s)) (dropped (moved s)), arrived (moved s), (not_closed, before, refl, refl, refl, refl))
  | inr at_end ↦ (Reply.Refused Refusal.ClockFull, s, ((not_closed, omega arith), refl))
]
answer-open site s (Event.Replace agent spare) formed layout kept home ways room time not_closed fit = elim (cases_lt agent (length s.paths)) [
  | inr past ↦ (Reply.Refused (Refusal.UnknownAgent agent), s, ((not_closed, past, refl), refl))
  | inl known ↦ answer-replace site s agent spare (record { not_closed = not_closed; known = known })
]
answer-open site s Event.Close formed layout kept home ways room time not_closed fit = (Reply.Closed, shut s, (not_closed, refl))

pub every_event : (site : Site) (entries : List Entry) (s : State) (event : Event) → IsFormed site → IsReachedOnTheirWays site entries s → HasFitStops event →
    (reply : Reply) × (new : State) × Answers site s reply event new
every_event site entries s event formed r fit = elim (bool_cases s.closed) [
  | inl is_closed ↦ (Reply.Refused Refusal.Closed, s, (is_closed, refl))
  | inr not_closed ↦
      let sound = sound-reached site entries s r.reached in
      answer-open site s event formed r.reached.is_beginning.layout (kept-of site s sound) (ways-reached site entries s r)
      (λ agent due. ways_on_formed site entries s agent formed r due) sound.few sound.clock_fits not_closed fit
]

-- clear ways: on a well-formed instance each due agent has one for its duty
use Rattle.std.proofs.Common.{◌≡◌, ◌≢◌, ℕ, ◌-◌, ◌<◌, ◌≤◌, ◌∙◌, inl, inr, List, [], ◌∷◌, false, length, drop, sym, subst, ap, arith}
use Prim.Native.Nat.{suc}
use Rattle.std.specs.Prelude.{All, Contains}
use Rattle.std.proofs.lemmas.Bool.{cases_eq}
use Rattle.std.proofs.lemmas.List.{length-map, get_or-map, get_or_default}
use Rattle.std.proofs.lemmas.List.Edits.{length-remove}
use Rattle.std.proofs.lemmas.List.Elements.{All-nil, All-cons}
use Rattle.wh_grid.specs.declared.cell.Cell.{Cell}
use Rattle.wh_points.specs.declared.points.Kind.{Kind}
use Rattle.wh_points.specs.declared.points.Point.{Point}
use Rattle.wh_grid.specs.Grids.{IsPassable}
use Rattle.wh_path.specs.Paths.{at, end, cell_at, last_index, path_of, place_of, end_of, others, ends}
use Rattle.wh_points.specs.Points.{Site, IsLayout, IsPointCell, home_of, point_at}
use Rattle.wh_points.specs.Formed.{IsFormed}
use Rattle.wh_path.proofs.Freedom.{free-ends}
use Rattle.wh_grid.proofs.Removed.{all_removed-from}
use Rattle.wh_path.proofs.Fleet.{no_end-from}
use Rattle.wh_grid.proofs.Pigeons.{cell_cases}
use Rattle.wh_path.proofs.Trips.{IsTrip, trip-stay, ShortTrip, trip-short, run_of, end-run_of}
use Rattle.wh_path.proofs.Tours.{Legs}
use Rattle.wh_points.proofs.Parkings.{free_parking}
use Rattle.wh_tasks.specs.declared.task.Task.{Task}
use Rattle.wh_tasks.specs.Tasks.{IsTask, IsOpen, stops_left, delivery}
use Rattle.wh_tasks.specs.Choice.{IsNearest}
use Rattle.wh_planner.specs.Duties.{Delivers, ParksAt, IsLawful, IsClearWay}
use Rattle.wh_planner.specs.Laws.{IsUnderWay}
use Rattle.wh_planner.proofs.Routes.{IsOff, off-passable, trip-clear, way-legs}
use Rattle.wh_planner.proofs.ClearWays.{clear_delivery-lawful, clear_parking-lawful}
use Rattle.wh_core.specs.States.{State}
use Rattle.wh_core.specs.Steps.{Refuses, Answers, Run, IsDue, IsNext, IsNextBy, IsAllowed, IsBerth, IsDeliveryCell, MakesWay, tour, other_ends}
use Rattle.wh_core.specs.Laws.{IsReached, IsReachedOnTheirWays, IsSound, AllOnTheirWays, HasSeats, HasWays}
use Rattle.wh_event.specs.declared.event.Event.{Event}
use Rattle.wh_event.specs.declared.reply.Refusal.{Refusal}
use Rattle.wh_event.specs.declared.reply.Reply.{Reply}
use Rattle.wh_event.specs.declared.entry.Entry.{Entry}
use Rattle.wh_core.proofs.StepKinds.{step-moves}
use Rattle.wh_core.proofs.Motion.{IsOrderly, station-point}
use Rattle.wh_core.proofs.Opening.{point-cell}
use Rattle.wh_core.proofs.Drops.{homeward-some, homeward-all}
use Rattle.wh_core.proofs.Work.{IsKept}
use Rattle.wh_core.proofs.Idle.{off-on}
use Rattle.wh_core.proofs.Sound.{open-more, kept-of, sound-moves, sound-reached, orderly-reached, ways-moves, ways-reached, ways-unloaded, none-halted}

-- a passable cell where no other's path ends
abbrev IsOpenCell : Site → State → ℕ → Cell → Type 0
IsOpenCell site s agent c = IsOff site.grid (other_ends s agent) c

-- an agent of an orderly state goes by a walk
pub due-goes : (site : Site) (s : State) (agent : ℕ) → IsOrderly site s → IsDue site s agent → IsUnderWay site.grid site.layout.nofollow s.paths agent
due-goes site s agent orderly due = record { known = due.known.known; walk = orderly.walks agent due.known.known; free = orderly.free }

-- what holds of each other's end holds of each cell where one ends
ends-hold : (P : Cell → Type 0) (paths : List (List Cell)) (agent : ℕ) → ((j : ℕ) → j < length paths → j ≢ agent → P (end (path_of paths j))) →
    (c : Cell) → Contains (ends (others paths agent)) c → P c
ends-hold P paths agent each c has =
    let Q : List Cell → Type 0 = λ p. P (end p) in
    let all : All Q (others paths agent) = all_removed-from Q paths agent (λ j d h ne. subst Q (get_or_default paths j [] d h) (each j h ne)) in
    let h : has.0 < length (others paths agent) = (let e = length-map (others paths agent) end in let l = has.1 in omega arith) in
    subst P (sym (get_or-map end (others paths agent) has.0 [] c h) ∙ has.2) (all has.0 [] h)

-- between two points where no other ends there is a short trip over open cells
formed-leg : (site : Site) (s : State) (agent : ℕ) → IsFormed site → AllOnTheirWays site s → (c d : Cell) →
    IsPointCell site.layout c → IsPointCell site.layout d → IsOpenCell site s agent c → IsOpenCell site s agent d →
    ShortTrip site.grid (IsOpenCell site s agent) c d
formed-leg site s agent formed home c d c_point d_point c_open d_open =
    let Ok = IsOpenCell site s agent in
    elim (cell_cases c d) [
      | inl e ↦ trip-short site.grid Ok (off-passable site.grid (other_ends s agent)) 0 (λ k. c) c d
          (subst (λ x. IsTrip Ok (λ k. c) 0 c x) e (trip-stay Ok c c_open))
      | inr ne ↦
          let join = formed.joined c d c_point d_point ne in
          let walk = join.0 in
          let n = last_index walk in
          let between = join.1.between in
          let point : (x : Cell) → Contains (ends (others s.paths agent)) x → IsPointCell site.layout x =
          ends-hold (λ x. IsPointCell site.layout x) s.paths agent (λ j h apart. (home j h).berth.point) in
          trip-short site.grid Ok (off-passable site.grid (other_ends s agent)) n (λ k. at walk k) c d (record {
            starts = between.starts;
            arrives = between.ends;
            ok = λ k le. record {
              passable = between.walk.passable k;
              off = λ has. elim (join.1.no_third k (point (at walk k) has)) [
                | inl e ↦ c_open.off (subst (λ x. Contains (ends (others s.paths agent)) x) e has)
                | inr e ↦ d_open.off (subst (λ x. Contains (ends (others s.paths agent)) x) e has)
              ];
            };
            moves = λ k lt. between.walk.moves k;
          })
    ]

-- from stop to stop
formed-legs : (site : Site) (s : State) (agent : ℕ) → IsFormed site → AllOnTheirWays site s → (from : Cell) (stops : List Cell) →
    IsPointCell site.layout from → IsOpenCell site s agent from →
    ((i : ℕ) → i < length stops → IsPointCell site.layout (cell_at stops i)) → ((i : ℕ) → i < length stops → IsOpenCell site s agent (cell_at stops i)) →
    Legs site.grid (IsOpenCell site s agent) from stops
formed-legs site s agent formed home from [] from_point from_open points opens = from_open
formed-legs site s agent formed home from (stop ∷ stops) from_point from_open points opens = (
  formed-leg site s agent formed home from stop from_point (points 0 (omega arith)) from_open (opens 0 (omega arith)),
  formed-legs site s agent formed home stop stops (points 0 (omega arith)) (opens 0 (omega arith))
      (λ i h. points (suc i) (omega arith)) (λ i h. opens (suc i) (omega arith)),
)

-- where a due agent comes to rest: at a berth, which is no other's end
pub end-berth : (site : Site) (s : State) (agent : ℕ) → AllOnTheirWays site s → IsDue site s agent → IsBerth site agent (end_of s.paths agent)
end-berth site s agent home due = (home agent due.known.known).berth

end-open : (site : Site) (s : State) (agent : ℕ) → IsOrderly site s → IsDue site s agent → IsOpenCell site s agent (end_of s.paths agent)
end-open site s agent orderly due = record {
  passable = (orderly.walks agent due.known.known).passable (last_index (path_of s.paths agent));
  off = no_end-from s.paths agent (end_of s.paths agent) (λ j h ne e.
      free-ends site.layout.nofollow (path_of s.paths j) (path_of s.paths agent) (orderly.free.pair j agent h due.known.known ne) e);
}

pub point-passable : (site : Site) (c : Cell) → IsLayout site.grid site.layout → IsPointCell site.layout c → IsPassable site.grid c
point-passable site c layout point =
    let has = point.1.1 in
    subst (λ (p : Point). IsPassable site.grid p.cell) has.2 (layout.passable has.0 _ has.1)

formed-delivery : (site : Site) (s : State) (agent n : ℕ) (task : Task) → IsFormed site → IsLayout site.grid site.layout → IsKept site s → AllOnTheirWays site s → IsDue site s agent →
    IsNearest site.grid s.tasks (other_ends s agent) (place_of s.paths agent) n task → (way : List Cell) × IsClearWay site.grid s.paths agent (Delivers (tour site agent task.stops)) way
formed-delivery site s agent n task formed layout kept home due next =
    let orderly = kept.orderly in
    let more = open-more site s n task kept next.eligible.there next.eligible.is_open in
    let Ok = IsOpenCell site s agent in
    let here = end_of s.paths agent in
    let has = orderly.stops n task next.eligible.there in
    let some : 1 ≤ length task.stops = (let c = has.count in omega arith) in
    let points : (i : ℕ) → i < length task.stops → IsPointCell site.layout (cell_at task.stops i) = λ i h. station-point site.layout _ (has.stations more i h) in
    let opens : (i : ℕ) → i < length task.stops → IsOpenCell site s agent (cell_at task.stops i) = λ i h. record {
      passable = point-passable site (cell_at task.stops i) layout (points i h);
      off = next.eligible.clear i (record { x = 0; y = 0 }) h;
    } in
    let berth = end-berth site s agent home due in
    let from_open = end-open site s agent orderly due in
    let own = home_of site.layout agent in
    let stops = tour site agent task.stops in
    let legs = formed-legs site s agent formed home here stops berth.point from_open
    (homeward-all (λ c. IsPointCell site.layout c) site.homes own task.stops (λ on. subst (λ c. IsPointCell site.layout c) (berth.own on) berth.point) points)
    (homeward-all (λ c. IsOpenCell site s agent c) site.homes own task.stops (λ on. subst (λ c. IsOpenCell site s agent c) (berth.own on) from_open) opens) in
    way-legs site.grid s.paths agent stops (homeward-some site.homes own task.stops some) legs

-- a parking is no cell where a task is delivered
parking-no_delivery : (site : Site) (s : State) (i : ℕ) → IsLayout site.grid site.layout → IsKept site s → i < length site.layout.points →
    (point_at site.layout.points i).kind ≡ Kind.Parking → ¬ IsDeliveryCell s (point_at site.layout.points i).cell
parking-no_delivery site s i layout kept i_in parking at_it =
    let points = site.layout.points in
    let has = kept.orderly.stops at_it.0 at_it.1 at_it.2 in
    let more = open-more site s at_it.0 at_it.1 kept at_it.2 at_it.3 in
    let station = has.stations more (length at_it.1.stops - 1) (let c = has.count in omega arith) in
    let x : Point = record { name = station.0; cell = delivery at_it.1; kind = Kind.Station } in
    let k = station.1.0 in
    let k_in : k < length points = station.1.1 in
    let is : point_at points k ≡ x = get_or_default points k _ x k_in ∙ station.1.2 in
    elim (cases_eq k i) [
      | inl e ↦
          let clash : Kind.Station ≡ Kind.Parking = sym (ap (λ (p : Point). p.kind) is) ∙ ap (λ m. (point_at points m).kind) e ∙ parking in
          cc
      | inr ne ↦ layout.cells k i k_in i_in ne (ap (λ (p : Point). p.cell) is ∙ at_it.4)
    ]

-- where all are on their ways nobody makes way but without homes, and then for a delivery
pub way-cause : (site : Site) (s : State) (agent : ℕ) → IsKept site s → AllOnTheirWays site s → IsDue site s agent → MakesWay site s agent →
    (site.homes ≡ false) × IsDeliveryCell s (end_of s.paths agent)
way-cause site s agent kept home due makes = elim makes.in_the_way [
  | inl wanted ↦ elim wanted.1 [
    | inl at_it ↦ (wanted.0, at_it)
    | inr awaited ↦ absurd (none-halted site s awaited.0 awaited.1 kept home awaited.2)
  ]
  | inr off ↦ absurd (off (end-berth site s agent home due))
]

-- without homes each point is a berth
pub berth-off : (site : Site) (agent : ℕ) (cell : Cell) → site.homes ≡ false → IsPointCell site.layout cell → IsBerth site agent cell
berth-off site agent cell off point = record { point = point; own = λ on. off-on site.homes off on }

formed-parking : (site : Site) (s : State) (agent : ℕ) → IsFormed site → IsLayout site.grid site.layout → HasSeats site s → IsKept site s → AllOnTheirWays site s → IsDue site s agent →
    site.homes ≡ false → (way : List Cell) × IsClearWay site.grid s.paths agent (ParksAt (IsAllowed site s agent)) way
formed-parking site s agent formed layout seats kept home due off =
    let orderly = kept.orderly in
    let Ok = IsOpenCell site s agent in
    let here = end_of s.paths agent in
    let size = length-map (others s.paths agent) end in
    let fewer = length-remove s.paths agent due.known.known in
    let few : length (ends (others s.paths agent)) < length site.layout.agents = (let e = seats.paths in omega arith) in
    let enough = formed.enough in
    let free = free_parking site.layout.points (ends (others s.paths agent)) layout.cells (omega arith) in
    let cell = (point_at site.layout.points free.0).cell in
    let point = point-cell site.layout free.0 free.1 in
    let leg = formed-leg site s agent formed home here cell (end-berth site s agent home due).point point (end-open site s agent orderly due)
    (record { passable = layout.passable free.0 _ free.1; off = free.3 }) in
    let allowed : IsAllowed site s agent cell = record {
      rest = record {
        berth = berth-off site agent cell off point;
        not_wanted = λ wanted. elim wanted.1 [
          | inl at_it ↦ parking-no_delivery site s free.0 layout kept free.1 free.2 at_it
          | inr awaited ↦ none-halted site s awaited.0 awaited.1 kept home awaited.2
        ];
      };
      no_end = free.3;
    } in (
      run_of leg.f leg.n,
      trip-clear site.grid s.paths agent (ParksAt (IsAllowed site s agent)) leg.f leg.n cell leg.trip
          (subst (λ c. IsAllowed site s agent c) (sym (end-run_of leg.f leg.n ∙ leg.trip.arrives)) allowed),
    )

-- where all are on their ways, the next task of a due agent is the nearest one, of which no stop was visited
pub next-nearest : (site : Site) (s : State) (agent n : ℕ) (task : Task) → IsKept site s → AllOnTheirWays site s → IsDue site s agent → IsNext site s agent n task →
    IsNearest site.grid s.tasks (other_ends s agent) (place_of s.paths agent) n task
next-nearest site s agent n task kept home due next =
    subst (λ l. IsNextBy l site s agent n task) (ways-unloaded site s agent kept home due) next

pub open-left : (site : Site) (s : State) (n : ℕ) (task : Task) → IsKept site s → IsTask s.tasks n task → IsOpen task → stops_left task ≡ task.stops
open-left site s n task kept is is_open = ap (λ k. drop k task.stops) (kept.working.fresh n task is is_open)

pub formed-ways : (site : Site) (s : State) (agent : ℕ) → IsFormed site → IsLayout site.grid site.layout → HasSeats site s → IsKept site s → AllOnTheirWays site s → IsDue site s agent → HasWays site s agent
formed-ways site s agent formed layout seats kept home due = record {
  delivery = λ n task next.
      let nearest = next-nearest site s agent n task kept home due next in
      subst (λ stops. (way : List Cell) × IsClearWay site.grid s.paths agent (Delivers (tour site agent stops)) way)
      (sym (open-left site s n task kept nearest.eligible.there nearest.eligible.is_open))
      (formed-delivery site s agent n task formed layout kept home due nearest);
  parking = λ way. formed-parking site s agent formed layout seats kept home due (way-cause site s agent kept home due way).0;
}

pub ways_on_formed : (site : Site) (entries : List Entry) (s : State) (agent : ℕ) → IsFormed site → IsReachedOnTheirWays site entries s → IsDue site s agent → HasWays site s agent
ways_on_formed site entries s agent formed r due =
    let sound = sound-reached site entries s r.reached in
    formed-ways site s agent formed r.reached.is_beginning.layout sound.seats (kept-of site s sound) (ways-reached site entries s r) due

-- so no request is refused for lack of a path
refused-path : (site : Site) (s : State) (refusal : Refusal) (event : Event) → ((agent : ℕ) → IsDue site s agent → HasWays site s agent) →
    Refuses site s refusal event → refusal ≢ Refusal.NoPath
refused-path site s Refusal.NoPath (Event.Request agent) ways why e = elim why.1 [
  | inl w ↦ (let way = (ways agent why.0).delivery w.0 w.1 w.2 in w.3 way.0 way.1)
  | inr w ↦ (let way = (ways agent why.0).parking w.0 in w.1 way.0 way.1)
]
refused-path site s Refusal.NoPath event ways why e = absurd why
refused-path site s refusal event ways why e = cc

abbrev refusal_of : Reply → Refusal
refusal_of (Reply.Refused refusal) = refusal
refusal_of reply = Refusal.Closed

answered-path : (site : Site) (old : State) (reply : Reply) (event : Event) (new : State) → ((agent : ℕ) → IsDue site old agent → HasWays site old agent) →
    Answers site old reply event new → reply ≢ Reply.Refused Refusal.NoPath
answered-path site old (Reply.Refused refusal) event new ways step e =
    refused-path site old refusal event ways step.0 (ap refusal_of e)
answered-path site old (Reply.Accepted n) event new ways step e = cc
answered-path site old (Reply.Took n path) event new ways step e = cc
answered-path site old Reply.Rested event new ways step e = cc
answered-path site old (Reply.Parked point path) event new ways step e = cc
answered-path site old (Reply.Clock now first last) event new ways step e = cc
answered-path site old (Reply.Replaced slots) event new ways step e = cc
answered-path site old Reply.Closed event new ways step e = cc

path-run : (site : Site) (old : State) (entries : List Entry) (new : State) → IsFormed site → IsLayout site.grid site.layout → IsSound site old → AllOnTheirWays site old →
    Run site old entries new → All (λ entry. entry.reply ≢ Reply.Refused Refusal.NoPath) entries
path-run site old [] new formed layout sound home run = All-nil (λ entry. entry.reply ≢ Reply.Refused Refusal.NoPath)
path-run site old (entry ∷ entries) new formed layout sound home run =
    let P : Entry → Type 0 = λ e. e.reply ≢ Reply.Refused Refusal.NoPath in
    let moves = step-moves site old entry run.0 run.1 in
    let kept = kept-of site old sound in
    All-cons P entry entries
    (answered-path site old entry.reply entry.event run.0 (λ agent due. formed-ways site old agent formed layout sound.seats kept home due) run.1)
    (path-run site run.0 entries new formed layout (sound-moves site old run.0 sound moves) (ways-moves site old run.0 layout sound home moves) run.2)

pub none_is_refused_a_path : (site : Site) (entries : List Entry) (s : State) → IsFormed site → IsReachedOnTheirWays site entries s →
    All (λ entry. entry.reply ≢ Reply.Refused Refusal.NoPath) entries
none_is_refused_a_path site entries s formed r =
    let opening = r.reached.opening in
    path-run site opening entries s formed r.reached.is_beginning.layout r.reached.is_beginning.sound r.on_their_ways r.reached.run

pub delivery_lawful : (site : Site) (entries : List Entry) (s : State) (agent : ℕ) (stops way : List Cell) → IsReached site entries s → IsDue site s agent →
    1 ≤ length stops → IsClearWay site.grid s.paths agent (Delivers stops) way → (path : List Cell) × IsLawful site.grid site.layout.nofollow s.paths agent (length stops) (Delivers stops) path
delivery_lawful site entries s agent stops way r due some clear =
    clear_delivery-lawful site.grid site.layout.nofollow s.paths agent stops way (due-goes site s agent (orderly-reached site entries s r) due) some clear

pub parking_lawful : (site : Site) (entries : List Entry) (s : State) (agent : ℕ) (way : List Cell) → IsReached site entries s → IsDue site s agent →
    IsClearWay site.grid s.paths agent (ParksAt (IsAllowed site s agent)) way → (path : List Cell) × IsLawful site.grid site.layout.nofollow s.paths agent 2 (ParksAt (IsAllowed site s agent)) path
parking_lawful site entries s agent way r due clear =
    clear_parking-lawful site.grid site.layout.nofollow s.paths agent (IsAllowed site s agent) way (due-goes site s agent (orderly-reached site entries s r) due) clear

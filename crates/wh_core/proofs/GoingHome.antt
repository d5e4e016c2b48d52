-- where paths go on home each ends at its agent's home, so no station is held
use Rattle.std.proofs.Common.{◌≡◌, ◌≢◌, ℕ, ◌-◌, ◌<◌, ◌∙◌, inl, inr, List, true, false, length, get_or, sym, ap, arith}
use Rattle.std.proofs.lemmas.Bool.{cases_eq}
use Rattle.std.proofs.lemmas.List.{get_or_default}
use Rattle.wh_grid.specs.declared.cell.Cell.{Cell}
use Rattle.wh_path.specs.Paths.{end, end_of, cell_at}
use Rattle.wh_path.proofs.Fleet.{no_end-from}
use Rattle.wh_points.specs.declared.points.Kind.{Kind}
use Rattle.wh_points.specs.declared.points.Point.{Point}
use Rattle.wh_points.specs.Points.{Site, IsLayout, home_of, point_at}
use Rattle.wh_tasks.specs.declared.task.Task.{Task}
use Rattle.wh_tasks.specs.declared.task.Load.{Load}
use Rattle.wh_tasks.specs.Tasks.{IsTask, IsOpen, visited, stops_left}
use Rattle.wh_tasks.specs.Choice.{IsEligible}
use Rattle.wh_core.specs.States.{State, load_of}
use Rattle.wh_core.specs.Steps.{Answers, IsDue, IsNextBy, MakesWay, other_ends}
use Rattle.wh_core.specs.Laws.{IsReached, IsReachedOnTheirWays, IsStationCell}
use Rattle.wh_core.specs.Homes.{HasHomes}
use Rattle.wh_event.specs.declared.event.Event.{Event}
use Rattle.wh_event.specs.declared.entry.Entry.{Entry}
use Rattle.wh_event.specs.declared.reply.Reply.{Reply}
use Rattle.wh_core.proofs.Opening.{home-start}
use Rattle.wh_core.proofs.Drops.{homeward-end}
use Rattle.wh_core.proofs.Idle.{off-on}
use Rattle.wh_core.proofs.Work.{IsKept}
use Rattle.wh_core.proofs.Sound.{open-more, kept-of, kept-reached, left-end, sound-reached, ways-reached}
use Rattle.wh_core.proofs.Ways.{way-cause}

-- a parking is no station's cell
parking-no_station_cell : (site : Site) (i : ℕ) (c : Cell) → IsLayout site.grid site.layout → i < length site.layout.points →
    (point_at site.layout.points i).kind ≡ Kind.Parking → IsStationCell site.layout c → (point_at site.layout.points i).cell ≢ c
parking-no_station_cell site i c layout i_in parking station same =
    let points = site.layout.points in
    let x : Point = record { name = station.0; cell = c; kind = Kind.Station } in
    let k = station.1.0 in
    let k_in : k < length points = station.1.1 in
    let is : point_at points k ≡ x = get_or_default points k _ x k_in ∙ station.1.2 in
    elim (cases_eq k i) [
      | inl e ↦
          let clash : Kind.Station ≡ Kind.Parking = sym (ap (λ (p : Point). p.kind) is) ∙ ap (λ m. (point_at points m).kind) e ∙ parking in
          cc
      | inr ne ↦ layout.cells k i k_in i_in ne (ap (λ (p : Point). p.cell) is ∙ sym same)
    ]

-- no task of which stops are left has one at a home
pub home-no_stop : (site : Site) (s : State) (i n : ℕ) (task : Task) (k : ℕ) → HasHomes site → IsLayout site.grid site.layout → IsKept site s → i < length site.layout.agents →
    IsTask s.tasks n task → visited task < length task.stops → k < length task.stops → home_of site.layout i ≢ cell_at task.stops k
home-no_stop site s i n task k has layout kept i_in is more h same =
    parking-no_station_cell site (get_or site.layout.agents i 0) (cell_at task.stops k) layout (layout.known i 0 i_in) (has.parkings i i_in)
    ((kept.orderly.stops n task is).stations more k h) (sym (home-start site.layout i i_in) ∙ same)

pub each_comes_home : (site : Site) (entries : List Entry) (s : State) (i : ℕ) → site.homes ≡ true → IsReachedOnTheirWays site entries s → i < length s.paths →
    end_of s.paths i ≡ home_of site.layout i
each_comes_home site entries s i on r h = (ways-reached site entries s r i h).berth.own on

pub each_open_eligible : (site : Site) (entries : List Entry) (s : State) (agent n : ℕ) (task : Task) → HasHomes site → IsReachedOnTheirWays site entries s → agent < length s.paths →
    IsTask s.tasks n task → IsOpen task → IsEligible s.tasks (other_ends s agent) n task
each_open_eligible site entries s agent n task has r known is open_now =
    let sound = sound-reached site entries s r.reached in
    let kept = kept-of site s sound in
    record {
      there = is;
      is_open = open_now;
      clear = λ k d h. no_end-from s.paths agent (get_or task.stops k d) (λ j j_in ne e.
          let i_in : j < length site.layout.agents = (let f = sound.seats.paths in omega arith) in
          home-no_stop site s j n task k has r.reached.is_beginning.layout kept i_in is (open-more site s n task kept is open_now) h
          (sym (each_comes_home site entries s j has.rule r j_in) ∙ e ∙ get_or_default task.stops k d _ h));
    }

pub none_makes_way : (site : Site) (entries : List Entry) (s : State) (agent : ℕ) → site.homes ≡ true → IsReachedOnTheirWays site entries s → IsDue site s agent → ¬ MakesWay site s agent
none_makes_way site entries s agent on r due makes =
    off-on site.homes (way-cause site s agent (kept-reached site entries s r.reached) (ways-reached site entries s r) due makes).0 on

pub only_idle_rest : (site : Site) (entries : List Entry) (s new : State) (agent n : ℕ) (task : Task) → HasHomes site → IsReachedOnTheirWays site entries s →
    Answers site s Reply.Rested (Event.Request agent) new → IsTask s.tasks n task → ¬ IsOpen task
only_idle_rest site entries s new agent n task has r step is open_now =
    step.1.1 n task (each_open_eligible site entries s agent n task has r step.0.known.known is open_now)

-- a task that is taken has stops left
next-more : (load : Load) (site : Site) (s : State) (agent n : ℕ) (task : Task) → IsKept site s → IsNextBy load site s agent n task →
    IsTask s.tasks n task × (visited task < length task.stops)
next-more Load.None site s agent n task kept next = (next.eligible.there, open-more site s n task kept next.eligible.there next.eligible.is_open)
next-more (Load.Fetching m) site s agent n task kept next = (next.1.there, next.1.left)
next-more (Load.Carrying m seen) site s agent n task kept next = (next.1.there, next.1.left)

pub one_rule : (site : Site) (entries : List Entry) (s new other : State) (agent n m : ℕ) (path : List Cell) → HasHomes site → IsReached site entries s →
    Answers site s (Reply.Took n path) (Event.Request agent) new →
    Answers (record site { homes = false }) s (Reply.Took m path) (Event.Request agent) other → ⊥
one_rule site entries s new other agent n m path has r step without =
    let sound = sound-reached site entries s r in
    let kept = kept-of site s sound in
    let i_in : agent < length site.layout.agents = (let f = sound.seats.paths in let k = step.0.known.known in omega arith) in
    let home : end path ≡ home_of site.layout agent = homeward-end site.homes (home_of site.layout agent) (stops_left step.1.0) path has.rule step.1.2.serves in
    let task = without.1.0 in
    let is = next-more (load_of s agent) site s agent m task kept (as-next (load_of s agent) site s agent m task without.1.1) in
    let c = (kept.orderly.stops m task is.0).count in
    home-no_stop site s agent m task (length task.stops - 1) has r.is_beginning.layout kept i_in is.0 is.1 (omega arith)
    (sym home ∙ left-end task path is.1 without.1.2.serves)
  where
    as-next : (load : Load) (site : Site) (s : State) (agent n : ℕ) (task : Task) → IsNextBy load (record site { homes = false }) s agent n task → IsNextBy load site s agent n task
    as-next Load.None site s agent n task next = next
    as-next (Load.Fetching m) site s agent n task next = next
    as-next (Load.Carrying m seen) site s agent n task next = next

-- what a run says of its last state
use Rattle.std.proofs.Common.{◌≡◌, ℕ, ◌<◌, ◌≤◌, List, [], ◌∷◌, ◌++◌, Bool, false, length, refl, sym, subst}
use Rattle.std.specs.Prelude.{Option, Some, None, IfNone, is_some}
use Rattle.std.proofs.lemmas.Bool.{false≢true}
use Rattle.wh_grid.specs.Grids.{Floor}
use Rattle.wh_points.specs.Points.{Layout, Site, IsLayout}
use Rattle.wh_core.specs.States.{State, opened}
use Rattle.wh_core.specs.Steps.{Step, last_clock}
use Rattle.wh_core.specs.Laws.{IsOpening, IsBeginning, IsSound, AllOnTheirWays}
use Rattle.wh_event.specs.declared.entry.Entry.{Entry}
use Rattle.wh_core.proofs.StepKinds.{run-join, step-moves}
use Rattle.wh_core.proofs.Sound.{beginning-reached, kept-reached, opening-begins, sound-reached, ways-moves, ways-opening}
use Rattle.wh_core.proofs.Work.{IsKept}
use Rattle.wh_book.specs.Ways.{site_at}
use Rattle.wh_judge.specs.Judged.{IsReachable}

pub is-sound : (site : Site) (s : State) → IsReachable site s → IsSound site s
is-sound site s reached = sound-reached site reached.0 s reached.1

pub is-kept : (site : Site) (s : State) → IsReachable site s → IsKept site s
is-kept site s reached = kept-reached site reached.0 s reached.1

-- there is a start for each agent
pub has-start : (site : Site) (s : State) (agent : ℕ) → IsReachable site s → agent < length s.paths → agent < length site.layout.agents
has-start site s agent reached known = let seats = (is-sound site s reached).seats in rw (← seats.paths) known

-- a run may begin there; and nothing of that depends on who holds the grid
pub begins-there : (site : Site) (s : State) → IsReachable site s → (grid : Floor) × IsBeginning (site_at grid site.layout site.homes) s
begins-there site s reached = (site.grid, beginning-reached site reached.0 s reached.1)

-- whether all are on their ways does not depend on the grid
pub ways-there : (site : Site) (s : State) → AllOnTheirWays site s → (grid : Floor) → AllOnTheirWays (site_at grid site.layout site.homes) s
ways-there site s home grid agent known =
    let way = home agent known in
    record {
      berth = record { point = way.berth.point; own = way.berth.own };
      delivers = λ n task own. way.delivers n task own;
    }

-- where no first stray is found, none is
pub none-astray : (site : Site) (s : State) (layout : Layout) (homes : Bool) (found : Option ℕ) → layout ≡ site.layout → homes ≡ site.homes →
    IfNone found ((grid : Floor) → AllOnTheirWays (site_at grid layout homes) s) → is_some found ≡ false → AllOnTheirWays site s
none-astray site s layout homes None points on none e =
    subst (λ (l : Layout). AllOnTheirWays (site_at site.grid l site.homes) s) points (subst (λ (h : Bool). AllOnTheirWays (site_at site.grid layout h) s) on (none site.grid))
none-astray site s layout homes (Some agent) points on none e = absurd (false≢true (sym e))

pub reached-step : (site : Site) (old : State) (entry : Entry) (new : State) → IsReachable site old → Step site old entry new → IsReachable site new
reached-step site old entry new reached step =
    let r = reached.1 in (
      reached.0 ++ entry ∷ [],
      record {
        opening = r.opening;
        is_beginning = r.is_beginning;
        run = run-join site r.opening reached.0 old (entry ∷ []) new r.run (new, step, refl);
      },
    )

-- once all are on their ways they stay so
pub ways-step : (site : Site) (old : State) (entry : Entry) (new : State) → IsReachable site old → AllOnTheirWays site old → Step site old entry new → AllOnTheirWays site new
ways-step site old entry new reached home step =
    ways-moves site old new reached.1.is_beginning.layout (is-sound site old reached) home (step-moves site old entry new step)

pub reached-begun : (site : Site) (s : State) → IsBeginning site s → IsReachable site s
reached-begun site s begins = ([], record { opening = s; is_beginning = begins; run = refl })

opens : (site : Site) (clock : ℕ) (slots : List ℕ) → IsLayout site.grid site.layout → clock ≤ last_clock → length slots ≡ length site.layout.agents →
    IsOpening site (opened site.layout clock slots)
opens site clock slots layout fits seats =
    record { layout = layout; clock = clock; clock_fits = fits; slots = slots; seats = seats; is_opened = refl }

pub reached-opening : (site : Site) (clock : ℕ) (slots : List ℕ) → IsLayout site.grid site.layout → clock ≤ last_clock → length slots ≡ length site.layout.agents →
    IsReachable site (opened site.layout clock slots)
reached-opening site clock slots layout fits seats =
    reached-begun site (opened site.layout clock slots) (opening-begins site (opened site.layout clock slots) (opens site clock slots layout fits seats)).0

pub home-opening : (site : Site) (clock : ℕ) (slots : List ℕ) → IsLayout site.grid site.layout → clock ≤ last_clock → length slots ≡ length site.layout.agents →
    AllOnTheirWays site (opened site.layout clock slots)
home-opening site clock slots layout fits seats = ways-opening site (opened site.layout clock slots) (opens site clock slots layout fits seats)

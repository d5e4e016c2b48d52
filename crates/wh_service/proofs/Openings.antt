-- A run over a site that was read, from an opening of the fleet, as a log tells it.
use Rattle.std.proofs.Common.{◌≡◌, ◌≤◌, ℕ, List, length, replicate, refl, arith, Ok}
use Prim.Native.Nat.{zero, suc}
use Rattle.std.specs.List.{AllByRecursion}
use Rattle.wh_lines.specs.Input.{Input}
use Rattle.wh_points.specs.Points.{Site}
use Rattle.wh_points.proofs.LayoutLaws.{read_layout}
use Rattle.wh_event.specs.declared.entry.Entry.{Entry}
use Rattle.wh_core.specs.Laws.{IsOpening}
use Rattle.wh_core.specs.States.{State, opened}
use Rattle.wh_core.specs.Steps.{Run}
use Rattle.wh_log.specs.Logs.{IsSlots}
use Rattle.wh_judge.specs.Verifying.{IsRunOf}
use Rattle.wh_edge.specs.Site.{SiteRead}

pub slots_keep : (n slots : ℕ) → 2 ≤ slots → slots ≤ 64 → AllByRecursion IsSlots (replicate n slots)
slots_keep zero slots low high = tt
slots_keep (suc n) slots low high = ((low, high), slots_keep n slots low high)

-- the opening at clock 0 of a site that was read, with a planner's slots for each agent
pub opening_read : (old new : Input) (site : Site) (slots : List ℕ) → SiteRead old new site.grid site.layout → length slots ≡ length site.layout.agents
    → IsOpening site (opened site.layout 0 slots)
opening_read old new site slots read seats = record {
  layout = read_layout site.grid read.text (Ok site.layout) read.says;
  clock = 0;
  clock_fits = omega arith;
  slots = slots;
  seats = seats;
  is_opened = refl;
}

-- a run over a site that was read, from an opening at clock 0 with a planner's slots for each agent
pub run_of : (old new : Input) (site : Site) (slots : List ℕ) (entries : List Entry) → SiteRead old new site.grid site.layout → length slots ≡ length site.layout.agents
    → (state : State) → Run site (opened site.layout 0 slots) entries state → IsRunOf site (record { clock = 0; slots = slots; entries = entries })
run_of old new site slots entries read seats state run =
    record { is_opening = opening_read old new site slots read seats; state = state; run = run }

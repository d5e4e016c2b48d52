-- when the history of a warehouse can be told as a log
use Rattle.std.specs.Prelude.{◌≡◌, ◌*◌, ◌<◌, ◌≤◌, ◌^◌, length, All}
use Rattle.std.specs.List.{AllByRecursion}
use Rattle.wh_points.specs.Points.{Site}
use Rattle.wh_event.specs.declared.entry.Entry.{Entry}
use Rattle.wh_event.specs.Grammar.{IsName}
use Rattle.wh_log.specs.Ranges.{EventKeeps}
use Rattle.wh_log.specs.Logs.{Content, IsSlots, Fits}
use Rattle.wh_log.specs.declared.version.Version.TheVariants.{Two}
use Rattle.wh_judge.specs.Verifying.{IsRunOf}

-- what a map and points that were read keep: sides of at most 4096 cells, 1 to 256 agents, and names that are names
pub record IsInRange (site : Site) : Type 0 where
  pub width : site.grid.width ≤ 4096
  pub height : site.grid.height ≤ 4096
  pub cells : length site.grid.walkable ≡ site.grid.width * site.grid.height
  pub some : 1 ≤ length site.layout.agents
  pub few : length site.layout.agents ≤ 256
  pub names : All (λ point. IsName point.name) site.layout.points

-- the caller and the event keep the ranges of a log; nothing is said of the reply
pub record IsAskedInRange (entry : Entry) : Type 0 where
  pub caller : entry.caller < 64
  pub event : EventKeeps 8 entry.event

-- Where what was asked keeps the ranges of a log, so does the history: what was answered keeps them by itself.
abbrev pub RunsAreLogs : Type 0
RunsAreLogs =
    (site : Site) (content : Content) → IsInRange site → IsRunOf site content → AllByRecursion IsSlots content.slots →
    All IsAskedInRange content.entries → length content.entries < 10 ^ 9 → Fits Two content

-- What `replay --vehicles` does: a script is served, and each vehicle carries out its agent's part at its own pace.
use Rattle.std.specs.Prelude.{◌≡◌, ◌⊎◌, ◌++◌, ◌==◌, ℕ, Bool, true, false, List, [], ◌∷◌, Option, Result, cond, codes, decimal, length}
use Rattle.std.specs.List.{count_by}
use Rattle.std.specs.declared.alloc.AllocError.{AllocError}
use Rattle.std.specs.Io.KnownBytes.{Appends, Keeps}
use Rattle.wh_lines.specs.Input.{Input}
use Rattle.wh_grid.specs.Grids.{Floor}
use Rattle.wh_points.specs.Points.{Site}
use Rattle.wh_points.specs.Formed.{IsFormed}
use Rattle.wh_core.specs.Laws.{IsOpening}
use Rattle.wh_core.specs.Steps.{Run}
use Rattle.wh_judge.specs.Drafts.{AllServed, Seen}
use Rattle.wh_edge.specs.Site.{SiteFault, SiteRuled}
use Rattle.wh_edge.specs.declared.trouble.Trouble.{Trouble}
use Rattle.wh_edge.specs.declared.trouble.Trouble.TheVariants as trouble
use Rattle.wh_replay.specs.declared.asker.Asker.{Asker}
use Rattle.wh_options.specs.declared.chosen.Fleet.{Fleet}
use Rattle.wh_options.specs.declared.chosen.Tail.{Tail}
use Rattle.wh_options.specs.declared.chosen.VehicleOptions.{VehicleOptions}
use Rattle.wh_drive.specs.Drives as drives
use Rattle.wh_vehicles.specs.Plans.{places}
use Rattle.wh_dispatch.specs.Crews.{is_under_way}
use Rattle.wh_dispatch.specs.Lines.{Depot}
use Rattle.wh_dispatch.specs.Scripts.{Dispatches, Stops}
use Rattle.wh_dispatch.specs.declared.script.DispatchFault.{DispatchFault}
use Rattle.wh_dispatch.specs.declared.script.DispatchFault.TheVariants as dispatch
use Rattle.wh_service.specs.Fleets.{IsEquipped}
use Rattle.wh_service.specs.Plays.{IsOpened}
use Rattle.wh_service.specs.Serves.{EndsAtFleet}
use Rattle.wh_service.specs.Tails.{IsWhyNoTail, tail_after}
use Rattle.wh_service.specs.declared.parts.PlannerParts.{PlannerParts}

-- what is told of a script that was not served to its end
abbrev pub trouble_of : DispatchFault → Trouble
trouble_of dispatch.Broken = trouble.Broken
trouble_of dispatch.Endless = trouble.Endless
trouble_of dispatch.Unwritten = trouble.Unwritten
trouble_of dispatch.NoMemory = trouble.NoMemory
trouble_of dispatch.NoRoom = trouble.NoMemory

-- the warehouse of the book, with a vehicle for each agent where the agent stands, each told at most this many cells ahead
abbrev pub setting_out : {X : Type 0} → ℕ → Seen → List X → Depot X
setting_out ahead book spares =
    record { book = book; spares = spares; drive = drives.opened book.site.layout.nofollow ahead (places book.state) }

-- A warehouse was opened with its vehicles, and served the script to its end. Its run is one of the abstract warehouse, from an
-- opening state; on a well-formed site no request was refused for lack of a path.
pub record DrivesThrough {X : Type 0} (fits : X → Floor → Bool) (count : X → ℕ) (asker : Asker) (site : Site) (planners spares : List X) (pace : VehicleOptions)
    (before after : Input) (had has : Option (List ℕ)) (final : Depot X) : Type 0 where
  pub book : Seen
  pub opened : IsOpened fits count site planners book
  pub dispatches : Dispatches fits count asker pace.behind before after (setting_out pace.ahead book spares) final had has
  pub is_opening : IsOpening final.book.site final.book.opening
  pub run : Run final.book.site final.book.opening final.book.history final.book.state
  pub served : IsFormed final.book.site → AllServed final.book.history

-- and what must follow the replies follows them; this many vehicles are on their way then
pub record Drives {X : Type 0} (fits : X → Floor → Bool) (count : X → ℕ) (asker : Asker) (site : Site) (planners spares : List X) (tail : Tail) (pace : VehicleOptions)
    (before after : Input) (had has : Option (List ℕ)) (left : ℕ) : Type 0 where
  pub final : Depot X
  pub replied : Option (List ℕ)
  pub drives : DrivesThrough fits count asker site planners spares pace before after had replied final
  pub follows : Appends replied has (tail_after tail final.book.opening final.book.history final.book.state)
  pub left_is : left ≡ count_by is_under_way final.drive.vehicles

-- or it does not follow
pub record DrivesWithoutTail {X : Type 0} (fits : X → Floor → Bool) (count : X → ℕ) (asker : Asker) (site : Site) (planners spares : List X) (tail : Tail) (pace : VehicleOptions)
    (told : Trouble) (before after : Input) (had has : Option (List ℕ)) : Type 0 where
  pub final : Depot X
  pub replied : Option (List ℕ)
  pub drives : DrivesThrough fits count asker site planners spares pace before after had replied final
  pub why : IsWhyNoTail told replied has (tail_after tail final.book.opening final.book.history final.book.state)

-- a warehouse was opened with its vehicles, and served a beginning of the script
pub record DrivesUntil {X : Type 0} (fits : X → Floor → Bool) (count : X → ℕ) (asker : Asker) (site : Site) (planners spares : List X) (pace : VehicleOptions)
    (fault : DispatchFault) (before after : Input) (had has : Option (List ℕ)) : Type 0 where
  pub book : Seen
  pub opened : IsOpened fits count site planners book
  pub final : Depot X
  pub stops : Stops fits count asker pace.behind fault before after (setting_out pace.ahead book spares) final had has

-- Why it was not served to its end: memory ran out to open the warehouse or its vehicles, or for what is told to them, or
-- the reader or the writer failed, or what is to follow the replies does not.
abbrev pub IsWhyUndriven : {X : Type 0} → (X → Floor → Bool) → (X → ℕ) → Asker → Site → List X → List X → Tail → VehicleOptions → Trouble → Input → Input → Option (List ℕ) → Option (List ℕ) → Type 0
IsWhyUndriven fits count asker site planners spares tail pace told before after had has =
    ((told ≡ trouble.NoMemory) × (after ≡ before) × Keeps had has)
    ⊎ ((fault : DispatchFault) × (told ≡ trouble_of fault) × DrivesUntil fits count asker site planners spares pace fault before after had has)
    ⊎ DrivesWithoutTail fits count asker site planners spares tail pace told before after had has

-- A site was read by whose rule nobody follows, planners were made for its agents and to stand by, and with these a warehouse
-- with vehicles served the script.
pub record ServesLate {X : Type 0} (fits : X → Floor → Bool) (count : X → ℕ) (asker : Asker) (gives : PlannerParts → Result X AllocError → Type 0) (fleet : Fleet) (tail : Tail)
    (pace : VehicleOptions) (old new : Input) (had has : Option (List ℕ)) (left : ℕ) : Type 0 where
  pub between : Input
  pub site : Site
  pub site_read : SiteRuled fleet.homes old between site
  pub rule : site.layout.nofollow ≡ true
  pub planners : List X
  pub spares : List X
  pub equipped : IsEquipped gives fleet site.grid (length site.layout.agents) planners spares
  pub drives : Drives fits count asker site planners spares tail pace between new had has left

-- so far it came, and then not to its end
pub record StopsLate {X : Type 0} (fits : X → Floor → Bool) (count : X → ℕ) (asker : Asker) (gives : PlannerParts → Result X AllocError → Type 0) (fleet : Fleet) (tail : Tail)
    (pace : VehicleOptions) (told : Trouble) (old new : Input) (had has : Option (List ℕ)) : Type 0 where
  pub between : Input
  pub site : Site
  pub site_read : SiteRuled fleet.homes old between site
  pub rule : site.layout.nofollow ≡ true
  pub planners : List X
  pub spares : List X
  pub equipped : IsEquipped gives fleet site.grid (length site.layout.agents) planners spares
  pub why : IsWhyUndriven fits count asker site planners spares tail pace told between new had has

-- a site was read by whose rule agents may follow, so that vehicles might stand still for ever
pub record LetsFollow (homes : Bool) (told : Trouble) (old new : Input) : Type 0 where
  pub is : told ≡ trouble.MayFollow
  pub site : Site
  pub site_read : SiteRuled homes old new site
  pub rule : site.layout.nofollow ≡ false

-- Why a script was not served to its end with vehicles. Before the script nothing is written.
abbrev pub IsWhyUnservedLate : {X : Type 0} → (X → Floor → Bool) → (X → ℕ) → Asker → (PlannerParts → Result X AllocError → Type 0) → Fleet → Tail
    → VehicleOptions → Trouble → Input → Input → Option (List ℕ) → Option (List ℕ) → Type 0
IsWhyUnservedLate fits count asker gives fleet tail pace told old new had has =
    (SiteFault fleet.homes told old new × Keeps had has)
    ⊎ (LetsFollow fleet.homes told old new × Keeps had has)
    ⊎ (EndsAtFleet fleet told old new × Keeps had has)
    ⊎ StopsLate fits count asker gives fleet tail pace told old new had has

-- the line that tells how many vehicles are on their way, if some are
abbrev pub way_text : ℕ → List ℕ
way_text left = cond (left == 0) [] (codes "vehicles on their way: " ++ (decimal left ++ 10 ∷ []))

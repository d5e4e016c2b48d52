-- What a whole run of `live` does.
use Rattle.std.specs.Prelude.{◌≡◌, ◌⊎◌, ◌<◌, ◌^◌, ℕ, Bool, List, length, map, replicate, All, Option, Result}
use Rattle.std.specs.declared.alloc.AllocError.{AllocError}
use Rattle.std.specs.Io.KnownBytes.{Appends, Keeps}
use Rattle.wh_lines.specs.Input.{Input}
use Rattle.wh_grid.specs.Grids.{Floor}
use Rattle.wh_points.specs.Points.{Site}
use Rattle.wh_points.specs.Formed.{IsFormed}
use Rattle.wh_event.specs.declared.event.Command.{Command}
use Rattle.wh_core.specs.Laws.{IsOpening}
use Rattle.wh_core.specs.States.{opened}
use Rattle.wh_judge.specs.Drafts.{AllServed}
use Rattle.wh_claims.specs.Bank.{bank_total}
use Rattle.wh_log.specs.Logs.{IsLogText}
use Rattle.wh_claims.specs.declared.bank.Bank.{Bank}
use Rattle.wh_edge.specs.Site.{SiteFault, SiteRuled}
use Rattle.wh_edge.specs.declared.work.Work.{Work}
use Rattle.wh_edge.specs.declared.trouble.Trouble.{Trouble}
use Rattle.wh_edge.specs.declared.trouble.Trouble.TheVariants as trouble
use Rattle.wh_options.specs.declared.chosen.Fleet.{Fleet}
use Rattle.wh_options.specs.declared.chosen.LiveOptions.{LiveOptions}
use Rattle.wh_replay.specs.Scripts.{WritesFront}
use Rattle.wh_live.specs.Clients.{ClientsRead, ClientsFault}
use Rattle.wh_live.specs.Works.{AreWorks}
use Rattle.wh_live.specs.Lives.{Lives}
use Rattle.wh_crew.specs.Troubles.{IsWhyDead}
use Rattle.wh_service.specs.Fleets.{AreMembers, IsWhyUnclaimed}
use Rattle.wh_service.specs.declared.parts.PlannerParts.{PlannerParts}

-- each client has as many spare planners as the options name, of its own
abbrev pub HaveSpares : {X : Type 0} → (PlannerParts → Result X AllocError → Type 0) → Fleet → Floor → Bank → List (Work X) → Type 0
HaveSpares gives fleet grid bank clients = All (λ work. AreMembers gives fleet grid bank fleet.spares work.spares.items) clients

-- The planners of the given number of agents, and the workers: the clients with these scripts and with spares of their own, the
-- agents and the clock. All planners have their claims on one bank, which has as many slots in all as the options name.
pub record IsTeam {X : Type 0} (gives : PlannerParts → Result X AllocError → Type 0) (options : LiveOptions) (grid : Floor) (agents : ℕ)
    (scripts : List (List Command)) (planners : List X) (works : List (Work X)) : Type 0 where
  pub bank : Bank
  pub total : bank_total bank ≡ options.fleet.bank
  pub planners_are : AreMembers gives options.fleet grid bank agents planners
  pub clients : List (Work X)
  pub scripts_are : map (λ work. work.commands.items) clients ≡ scripts
  pub spares_are : HaveSpares gives options.fleet grid bank clients
  pub works_are : AreWorks agents options.turns clients works

-- a site was read by the rule that was asked for, and then the clients, up to the end of the input, with these scripts
pub record ReadsAll (homes : Bool) (old new : Input) (site : Site) (scripts : List (List Command)) : Type 0 where
  pub between : Input
  pub site_read : SiteRuled homes old between site
  pub clients_read : ClientsRead (length site.layout.agents) between new scripts

-- A site and its clients were read, and the team did its works; each agent's planner had the fleet's slots at the opening.
-- The text is the log of all that was done: it has no more entries than the journal of the options has positions, and
-- where these are fewer than 1,000,000,000 it is of the format, so that it is read back as what was done. The run is from an
-- opening state, so that each law of runs is one of it; on a well-formed site no request is refused for lack of a path.
pub record Hosts {X : Type 0} (fits : X → Floor → Bool) (count : X → ℕ) (gives : PlannerParts → Result X AllocError → Type 0) (options : LiveOptions)
    (old new : Input) (text : List ℕ) : Type 0 where
  pub site : Site
  pub scripts : List (List Command)
  pub reads : ReadsAll options.fleet.homes old new site scripts
  pub planners : List X
  pub works : List (Work X)
  pub team : IsTeam gives options site.grid (length site.layout.agents) scripts planners works
  pub lives : Lives fits count site planners works options.journal text
  pub is_opening : IsOpening site (opened site.layout 0 lives.slots)
  pub served : IsFormed site → AllServed lives.history
  pub slots : lives.slots ≡ replicate (length site.layout.agents) options.fleet.slots
  pub is_log : options.journal < 10 ^ 9 → IsLogText (record { clock = 0; slots = lives.slots; entries = lives.history }) text

-- A team did its works, and the log of them stands behind what was written.
pub record HostsTo {X : Type 0} (fits : X → Floor → Bool) (count : X → ℕ) (gives : PlannerParts → Result X AllocError → Type 0) (options : LiveOptions)
    (old new : Input) (had has : Option (List ℕ)) : Type 0 where
  pub text : List ℕ
  pub hosts : Hosts fits count gives options old new text
  pub appends : Appends had has text

-- a site was read, and there or at the clients this was wrong
pub record EndsAtClients (homes : Bool) (told : Trouble) (old new : Input) : Type 0 where
  pub between : Input
  pub site : Site
  pub site_read : SiteRuled homes old between site
  pub fault : ClientsFault told (length site.layout.agents) between new

-- all was read, and there it ended: a planner got no slots, or memory ran out
pub record EndsAtTeam (options : LiveOptions) (told : Trouble) (old new : Input) : Type 0 where
  pub site : Site
  pub scripts : List (List Command)
  pub reads : ReadsAll options.fleet.homes old new site scripts
  pub why : IsWhyUnclaimed options.fleet.slots told

-- all was read, a team stood, and its run came to no history
pub record EndsAtRun {X : Type 0} (gives : PlannerParts → Result X AllocError → Type 0) (options : LiveOptions) (told : Trouble) (old new : Input) : Type 0 where
  pub site : Site
  pub scripts : List (List Command)
  pub reads : ReadsAll options.fleet.homes old new site scripts
  pub planners : List X
  pub works : List (Work X)
  pub team : IsTeam gives options site.grid (length site.layout.agents) scripts planners works
  pub why : IsWhyDead told

-- a team did its works, and a front of their log was written
pub record EndsUnwritten {X : Type 0} (fits : X → Floor → Bool) (count : X → ℕ) (gives : PlannerParts → Result X AllocError → Type 0) (options : LiveOptions)
    (told : Trouble) (old new : Input) (had has : Option (List ℕ)) : Type 0 where
  pub told_is : told ≡ trouble.Unwritten
  pub text : List ℕ
  pub hosts : Hosts fits count gives options old new text
  pub front : WritesFront had has text

-- Why no log was written, the earlier first. Before the log nothing is written.
abbrev pub IsWhyUnhosted : {X : Type 0} → (X → Floor → Bool) → (X → ℕ) → (PlannerParts → Result X AllocError → Type 0) → LiveOptions → Trouble → Input → Input
    → (had has : Option (List ℕ)) → Type 0
IsWhyUnhosted fits count gives options told old new had has =
    (SiteFault options.fleet.homes told old new × Keeps had has)
    ⊎ (EndsAtClients options.fleet.homes told old new × Keeps had has)
    ⊎ (EndsAtTeam options told old new × Keeps had has)
    ⊎ (EndsAtRun gives options told old new × Keeps had has)
    ⊎ EndsUnwritten fits count gives options told old new had has

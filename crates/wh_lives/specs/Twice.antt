-- Two lives of one run, and what a kill leaves between them.
use Rattle.std.specs.Prelude.{◌≡◌, ◌<◌, ◌≤◌, ◌^◌, ℕ, Bool, true, false, List, length, Option, Some, IfSome, is_some, Result, Ok, Err, All}
use Rattle.std.specs.List.{AllByRecursion}
use Rattle.wh_lines.specs.Input.{Input}
use Rattle.wh_grid.specs.Grids.{Floor}
use Rattle.wh_points.specs.Points.{Site}
use Rattle.wh_judge.specs.Written.{IsInRange}
use Rattle.wh_log.specs.Logs.{IsSlots}
use Rattle.wh_resume.specs.Drafts.{Seen}
use Rattle.wh_replay.specs.declared.asker.Asker.{Asker}
use Rattle.wh_journal.specs.Surviving.{IsLeft}
use Rattle.wh_path.specs.Paths.{last_index}
use Rattle.wh_continue.specs.declared.starting.Start.{Start}
use Rattle.wh_continue.specs.declared.running.RunFault.{RunFault}
use Rattle.wh_continue.specs.declared.running.RunFault.TheVariants.{Begin}
use Rattle.wh_lives.specs.Lives.{Deeds, Finds, Lived}
use Rattle.wh_lives.specs.declared.dying.Dying.{Dying}
use Rattle.wh_lives.specs.declared.life.LifeFault.{LifeFault}
use Rattle.wh_lives.specs.declared.life.LifeFault.TheVariants.{Unstarted, Unbegun, Stopped}

-- the fault of a run as that of a life
abbrev pub ended : RunFault → LifeFault
ended (Begin fault) = Unbegun fault
ended fault = Stopped fault

-- there are agents, and each planner has 2 to 64 slots at an opening
pub record IsEquipped (site : Site) (slots : List ℕ) : Type 0 where
  pub some : 1 ≤ length site.layout.agents
  pub seats : length slots ≡ length site.layout.agents
  pub range : All IsSlots slots

-- A kill leaves of a file that tells its bytes a front of them, with all that was synced.
abbrev pub LeavesOf : (synced holds left : Option (List ℕ)) → Type 0
LeavesOf synced holds left = IfSome synced (λ safe. IfSome holds (λ text. (bytes : List ℕ) × (left ≡ Some bytes) × IsLeft safe text bytes))

-- a call that stands for a kill, whatever it makes of a file
abbrev pub IsKill : {F G : Type 0} → (synced contents : F → Option (List ℕ)) → (G → Option (List ℕ)) → (Dying F → G → Type 0) → Type 0
IsKill {F} {G} synced contents left gives = (dying : Dying F) (file : G) → gives dying file → LeavesOf (synced dying.file) (contents dying.file) (left file)

-- whether its log was begun: else it served and told nothing
abbrev pub has_lived : Result Unit LifeFault → Bool
has_lived (Ok _) = true
has_lived (Err (Unstarted fault)) = false
has_lived (Err (Unbegun fault)) = false
has_lived (Err (Stopped fault)) = true

-- A log can tell the run: the map and the points are in its ranges, as all that are read; so are the slots of the planners; there are fewer than
-- 1,000,000,000 entries; and where it began with the state of a front, that has paths of fewer than 2^63 steps.
pub record CanBeTold {X : Type 0} (count : X → ℕ) (site : Site) (spares : List X) (start : Start) (final : Seen) : Type 0 where
  pub range : IsInRange site
  pub slots : AllByRecursion (λ planner. count planner < 10 ^ 9) spares
  pub few : length final.history < 10 ^ 9
  pub paths : IfSome start.preface (λ _. All (λ path. last_index path < 2 ^ 63) start.book.opening.paths)

-- A session over a log file that tells its bytes; then some kill, which left something of the file; then a session over that. What the second finds of the
-- first is all that the first can have told.
pub record LivesTwice {X : Type 0} (fits : X → Floor → Bool) (count : X → ℕ) (asker : Asker) (site : Site) (slots : List ℕ) (spares : List X) (next_slots : List ℕ) (next_spares : List X) (file : Option (List ℕ))
    (before after : Input) (had has : Option (List ℕ)) (next_before next_after : Input) (next_had next_has : Option (List ℕ)) (first second : Result Unit LifeFault) : Type 0 where
  pub early : Deeds
  pub synced : Option (List ℕ)
  pub holds : Option (List ℕ)
  pub lived : Lived fits count asker site slots spares first before after had has file synced holds early
  pub left : Option (List ℕ)
  pub is_left : LeavesOf synced holds left
  pub late : Deeds
  pub safe : Option (List ℕ)
  pub stands : Option (List ℕ)
  pub lived_on : Lived fits count asker site next_slots next_spares second next_before next_after next_had next_has left safe stands late
  pub finds : is_some file ≡ true → has_lived first ≡ true → CanBeTold count site spares early.start early.final → Finds site left early second late

-- What `serve` comes to, over the files and the folders that the options name.
use Rattle.std.specs.Prelude.{◌≡◌, ◌≢◌, ◌⊎◌, ℕ, Bool, List, length, All, Option, None, Some, Result, Ok, Err}
use Rattle.std.specs.declared.alloc.AllocError.{AllocError}
use Rattle.wh_lines.specs.Input.{Input}
use Rattle.wh_grid.specs.Grids.{Floor}
use Rattle.wh_client.specs.declared.client.ClientOptions.{ClientOptions}
use Rattle.wh_desk.specs.Lists.{AllAt}
use Rattle.wh_edge.specs.declared.trouble.Status.{Status}
use Rattle.wh_edge.specs.declared.trouble.Status.TheVariants.{Done}
use Rattle.wh_edge.specs.declared.trouble.Trouble.{Trouble}
use Rattle.wh_edge.specs.declared.trouble.Trouble.TheVariants as trouble
use Rattle.wh_options.specs.Setting.{Text}
use Rattle.wh_options.specs.declared.chosen.ServeOptions.{ServeOptions}
use Rattle.wh_service.specs.Kept.{Siding}
use Rattle.wh_service.specs.declared.parts.PlannerParts.{PlannerParts}
use Rattle.wh_attend.specs.Guests.{IsNamed}
use Rattle.wh_attend.specs.Attends.{Attends, IsWhyUnattended}
use Rattle.wh_program.specs.Programs.{silent}

-- the folder of the client of this number, or none, where nobody has it
abbrev pub IsFolderAt : List ClientOptions → ℕ → Option Text → Type 0
IsFolderAt clients number None = All (λ named. named.number ≢ number) clients
IsFolderAt clients number (Some folder) = (named : ClientOptions) × IsNamed clients number named × (named.folder.now ≡ folder)

-- the folders of the clients, each at the place of its number, 0 to 61
pub record AreFolders (clients : List ClientOptions) (folders : List (Option Text)) : Type 0 where
  pub places : length folders ≡ 62
  pub each : AllAt (IsFolderAt clients) folders

-- It was so over a log file that told this, the file beside it, and a screen, or none; left is what the log file tells then, where a run did not
-- have it. Here and below fits and count say
-- what a planner returns, gives what makes it, remaining and contents what a client's reader and writer tell; showed is what the screen told before, if
-- there is one, and shows what it tells then.
abbrev pub AttendsOver : {R W X : Type 0} → (X → Floor → Bool) → (X → ℕ) → (PlannerParts → Result X AllocError → Type 0) → (R → Option (List ℕ)) → (W → Option (List ℕ)) → ServeOptions → (file : Option (List ℕ)) → Siding
    → (showed shows : Option (Option (List (List ℕ)))) → Result Status Trouble → (old new : Input) → Type 0
AttendsOver fits count gives remaining contents o file beside showed shows (Ok status) old new =
    (status ≡ Done) × ((synced holds : Option (List ℕ)) × Attends fits count remaining contents gives o old new file synced holds beside showed shows)
AttendsOver fits count gives remaining contents o file beside showed shows (Err told) old new =
    (left : Option (Option (List ℕ))) × IsWhyUnattended fits count remaining contents gives o told old new file left beside showed shows

-- `serve` came to this, and nothing was written to the output: memory ran out for names or for the doors, and nothing was read; or it was
-- so, over a log file and the one beside it, and over the file of the board, if one is named.
abbrev pub Attended : {R W X : Type 0} → (X → Floor → Bool) → (X → ℕ) → (PlannerParts → Result X AllocError → Type 0) → (R → Option (List ℕ)) → (W → Option (List ℕ))
    → ServeOptions → Result Status Trouble → (old new : Input) → (had has : Option (List ℕ)) → Type 0
Attended fits count gives remaining contents o came old new had has =
    (has ≡ had)
    × (((came ≡ Err trouble.NoMemory) × (new ≡ old))
    ⊎ ((file : Option (List ℕ)) × (beside : Siding) × (shows : Option (Option (List (List ℕ)))) × AttendsOver fits count gives remaining contents o file beside (silent o.board) shows came old new))

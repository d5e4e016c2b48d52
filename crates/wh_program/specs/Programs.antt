-- What the whole program comes to: from its words and its input to its output and its status.
use Rattle.std.specs.Prelude.{◌≡◌, ◌≢◌, ◌⊎◌, ◌≤◌, ℕ, Bool, MatchBool, List, [], ◌∷◌, false, IfSome, Option, Some, None, cond, true, is_some, option_map, Result, Ok, Err}
use Rattle.std.specs.declared.alloc.AllocError.{AllocError}
use Rattle.std.specs.Io.KnownBytes.{Keeps}
use Rattle.wh_lines.specs.Input.{Input}
use Rattle.wh_lines.specs.Output.{WritesFront}
use Rattle.wh_grid.specs.Grids.{Floor}
use Rattle.wh_edge.specs.Trouble.{status_of, trouble_text}
use Rattle.wh_edge.specs.declared.trouble.Status.{Status}
use Rattle.wh_edge.specs.declared.trouble.Status.TheVariants.{Done, CommandLine, NoMemory}
use Rattle.wh_edge.specs.declared.trouble.Trouble.{Trouble}
use Rattle.wh_edge.specs.declared.trouble.Trouble.TheVariants as trouble
use Rattle.wh_options.specs.Options.{WordsGive}
use Rattle.wh_options.specs.Requests.{AsksBy, help_flags, version_flags}
use Rattle.wh_options.specs.Setting.{Text}
use Rattle.wh_options.specs.declared.chosen.CheckOptions.{CheckOptions}
use Rattle.wh_options.specs.declared.chosen.LiveOptions.{LiveOptions}
use Rattle.wh_options.specs.declared.chosen.Options.{Options}
use Rattle.wh_options.specs.declared.chosen.Options.TheVariants.{Check, Replay, Verify, Live, Serve, State}
use Rattle.wh_options.specs.declared.chosen.ReplayOptions.{ReplayOptions}
use Rattle.wh_options.specs.declared.chosen.ServeOptions.{ServeOptions}
use Rattle.wh_options.specs.declared.chosen.StateOptions.{StateOptions}
use Rattle.wh_service.specs.Chained.{Chains, IsWhyUnchained}
use Rattle.wh_service.specs.Checks.{IsWhyUnjudged, Judges}
use Rattle.wh_live.specs.Hosts.{HostsTo, IsWhyUnhosted}
use Rattle.wh_options.specs.declared.chosen.VehicleOptions.{VehicleOptions}
use Rattle.wh_options.specs.declared.chosen.VerifyOptions.{VerifyOptions}
use Rattle.wh_convoy.specs.Convoys.{Held}
use Rattle.wh_service.specs.Convoys.{IsWhyUnconvoyed, ServesConvoy, drive_status, drive_text}
use Rattle.wh_service.specs.Fleets.{IsOfFleet}
use Rattle.wh_service.specs.Late.{IsWhyUnservedLate, ServesLate, way_text}
use Rattle.wh_service.specs.declared.convoys.DriveTrouble.{DriveTrouble}
use Rattle.wh_service.specs.declared.convoys.DriveTrouble.TheVariants.{Plain}
use Rattle.wh_service.specs.Kept.{IsWhyUnkept, ServesKept, Siding}
use Rattle.wh_service.specs.Plays.{form_of}
use Rattle.wh_service.specs.Serves.{IsWhyUnserved, IsWhyUnservedByFleet, ServesByFleet}
use Rattle.wh_service.specs.Stands.{IsWhyUnstood, StatesStand}
use Rattle.wh_service.specs.States.{IsWhyUnstated, States}
use Rattle.wh_service.specs.Verifies.{IsWhyUnverified, Verifies}
use Rattle.wh_service.specs.declared.parts.PlannerParts.{PlannerParts}
use Rattle.wh_attend.specs.Guests.{AreNamed}
use Rattle.wh_program.specs.Barring.{Begins, IsBarred}
use Rattle.wh_replay.specs.Scripts.{script_asker}
use Rattle.wh_journal.specs.Journals.{log_asker}

-- each planner of the options' fleet may keep 2 to 64 fields, vehicles may be told one cell ahead or more, and running clients were named
abbrev pub HasRange : Options → Type 0
HasRange (Check o) = Unit {0}
HasRange (Replay o) = IsOfFleet o.fleet × IfSome o.vehicles (λ pace. 1 ≤ pace.ahead)
HasRange (Verify o) = Unit {0}
HasRange (Live o) = IsOfFleet o.fleet
HasRange (Serve o) = IsOfFleet o.fleet × AreNamed o.clients.items
HasRange (State o) = Unit {0}

-- how vehicles carry out the plan, where the options say that they do so at their own pace
abbrev pub pace_of : Options → Option VehicleOptions
pace_of (Replay o) = o.vehicles
pace_of _ = None

-- `check` came to this
abbrev pub Checked : CheckOptions → Result Status Trouble → Input → Input → Option (List ℕ) → Option (List ℕ) → Type 0
Checked o (Ok status) old new had has = Judges o.homes old new had has status
Checked o (Err told) old new had has = IsWhyUnjudged o.homes told old new had has

-- `verify` over one log came to this
abbrev pub VerifiedLog : VerifyOptions → Result Status Trouble → Input → Input → Option (List ℕ) → Option (List ℕ) → Type 0
VerifiedLog o (Ok status) old new had has = Verifies o old new had has status
VerifiedLog o (Err told) old new had has = IsWhyUnverified o told old new had has

-- `verify` over the logs of a chain came to this
abbrev pub VerifiedChain : VerifyOptions → Result Status Trouble → Input → Input → Option (List ℕ) → Option (List ℕ) → Type 0
VerifiedChain o (Ok status) old new had has = Chains o old new had has status
VerifiedChain o (Err told) old new had has = IsWhyUnchained o told old new had has

-- `verify` came to this: over a chain where the options say so, else over one log
abbrev pub Verified : VerifyOptions → Result Status Trouble → Input → Input → Option (List ℕ) → Option (List ℕ) → Type 0
Verified o came old new had has = MatchBool o.chain (VerifiedChain o came old new had has) (VerifiedLog o came old new had has)

-- `state` over a file that told this came to this
abbrev pub StatedOver : StateOptions → (file : Option (List ℕ)) → Result Status Trouble → Input → Input → Option (List ℕ) → Option (List ℕ) → Type 0
StatedOver o file (Ok status) old new had has = States o old new had has file status
StatedOver o file (Err told) old new had has = IsWhyUnstated o told old new had has file

-- it was so over the file that the options name
abbrev pub Stated : StateOptions → Result Status Trouble → Input → Input → Option (List ℕ) → Option (List ℕ) → Type 0
Stated o came old new had has = (file : Option (List ℕ)) × StatedOver o file came old new had has

-- the options of `state`, where the vehicles' stand is asked for
abbrev pub stand_of : Options → Option StateOptions
stand_of (State o) = cond o.stand (Some o) None
stand_of _ = None

-- `state` came to this over files that told these bytes, as the vehicles stand
abbrev pub StatedOverBoth : StateOptions → (file arrivals : Option (List ℕ)) → Result Status DriveTrouble → Input → Input → Option (List ℕ) → Option (List ℕ) → Type 0
StatedOverBoth o file arrivals (Ok status) old new had has = StatesStand o old new had has file arrivals status
StatedOverBoth o file arrivals (Err told) old new had has = IsWhyUnstood o told old new had has file arrivals

-- it was so over the file that the options name, and the file of arrivals beside it; or memory ran out before
abbrev pub StatedStanding : StateOptions → Result Status DriveTrouble → Input → Input → Option (List ℕ) → Option (List ℕ) → Type 0
StatedStanding o came old new had has =
    ((file arrivals : Option (List ℕ)) × StatedOverBoth o file arrivals came old new had has)
    ⊎ ((came ≡ Err (Plain trouble.NoMemory)) × (new ≡ old) × Keeps had has)

-- `live` came to this. Here and below fits and count say what a planner returns, and gives what makes it.
abbrev pub Lived : {X : Type 0} → (X → Floor → Bool) → (X → ℕ) → (PlannerParts → Result X AllocError → Type 0) → LiveOptions → Result Status Trouble
    → Input → Input → Option (List ℕ) → Option (List ℕ) → Type 0
Lived fits count gives options (Ok status) old new had has = (status ≡ Done) × HostsTo fits count gives options old new had has
Lived fits count gives options (Err told) old new had has = IsWhyUnhosted fits count gives options told old new had has

-- the screen over the file of this name, if there is one: a file tells nothing of what it is shown
abbrev pub silent : {N : Type 0} → (board : Option N) → Option (Option (List (List ℕ)))
silent board = option_map (λ name. None) board

-- `replay` over no file came to this; here and below, report is what is to be told of orders that are open
abbrev pub Replayed : {X : Type 0} → (X → Floor → Bool) → (X → ℕ) → (PlannerParts → Result X AllocError → Type 0) → ReplayOptions → Result Status Trouble → (report : List ℕ)
    → Input → Input → Option (List ℕ) → Option (List ℕ) → Type 0
Replayed fits count gives o (Ok status) report old new had has =
    (status ≡ Done) × ((written : ℕ) × ServesByFleet fits count (script_asker (form_of o.replies)) gives o.fleet o.deliver o.tail old new had has written report)
Replayed fits count gives o (Err told) report old new had has = MatchBool o.deliver
    (IsWhyUnservedByFleet fits count (script_asker (form_of o.replies)) gives o.fleet o.deliver o.tail told old new had has)
    (IsWhyUnserved (script_asker (form_of o.replies)) o.fleet o.tail told old new had has)

-- what the log told, and the file beside it, before anything was done
pub record Files : Type 0 where
  pub log : Option (List ℕ)
  pub site : Option (List ℕ)

-- `replay` over files that told these bytes came to this; then they tell others, and this many of them outlive a kill.
abbrev pub Kept : {X : Type 0} → (X → Floor → Bool) → (X → ℕ) → (PlannerParts → Result X AllocError → Type 0) → ReplayOptions → Result Status Trouble → (report : List ℕ)
    → Input → Input → (had has : Option (List ℕ)) → Files → Type 0
Kept fits count gives o (Ok status) report old new had has files =
    (status ≡ Done) × ((synced holds : Option (List ℕ)) × (beside : Siding) × (beside.before ≡ files.site)
    × ServesKept fits count (log_asker (form_of o.replies)) gives o.fleet o.deliver o.tail o.told o.anew old new had has files.log synced holds beside report)
Kept fits count gives o (Err told) report old new had has files =
    (failed : Bool) × (synced holds : Option (List ℕ)) × (beside : Siding) × (beside.before ≡ files.site)
    × IsWhyUnkept fits count (log_asker (form_of o.replies)) gives o.fleet o.deliver o.tail o.told o.anew told old new had has files.log failed synced holds beside

-- over the files that were named, or over none; files says what they told
abbrev pub ReplayedOver : {X : Type 0} → (X → Floor → Bool) → (X → ℕ) → (PlannerParts → Result X AllocError → Type 0) → ReplayOptions
    → Option Files → Result Status Trouble → (report : List ℕ) → Input → Input → Option (List ℕ) → Option (List ℕ) → Type 0
ReplayedOver fits count gives o None came report old new had has = Replayed fits count gives o came report old new had has
ReplayedOver fits count gives o (Some files) came report old new had has = Kept fits count gives o came report old new had has files

-- What the options ask for was done, and came to this. Guests says what `serve` comes to. Only a replay has something to tell of open orders.
abbrev pub Did : {X : Type 0} → (X → Floor → Bool) → (X → ℕ) → (PlannerParts → Result X AllocError → Type 0) → (guests : ServeOptions → Result Status Trouble → Input → Input → Option (List ℕ) → Option (List ℕ) → Type 0) → Options
    → Option Files → Result Status Trouble → (report : List ℕ) → Input → Input → Option (List ℕ) → Option (List ℕ) → Type 0
Did fits count gives guests (Check o) files came report old new had has = Checked o came old new had has × (report ≡ [])
Did fits count gives guests (Verify o) files came report old new had has = Verified o came old new had has × (report ≡ [])
Did fits count gives guests (Live o) files came report old new had has = Lived fits count gives o came old new had has × (report ≡ [])
Did fits count gives guests (Serve o) files came report old new had has = guests o came old new had has × (report ≡ [])
Did fits count gives guests (Replay o) files came report old new had has = ReplayedOver fits count gives o files came report old new had has
Did fits count gives guests (State o) files came report old new had has = Stated o came old new had has × (report ≡ [])

-- whether the options name a log file
abbrev pub names_file : Options → Bool
names_file (Replay o) = is_some o.log
names_file _ = false

-- Its status tells what it came to, and a line on standard error tells a trouble, as far as that can be written.
abbrev pub Ends : Result Status Trouble → Status → Option (List ℕ) → Option (List ℕ) → Type 0
Ends (Ok status) ended had has = (ended ≡ status) × Keeps had has
Ends (Err told) ended had has = (ended ≡ status_of told) × WritesFront had has (trouble_text told)

-- What is told of open orders, if there is something, as far as that can be written.
abbrev pub TellsOpen : (report : List ℕ) → Option (List ℕ) → Option (List ℕ) → Type 0
TellsOpen [] had has = Keeps had has
TellsOpen (byte ∷ rest) had has = WritesFront had has (byte ∷ rest)

-- The same, and what is to be told of open orders.
abbrev pub EndsOpen : Result Status Trouble → (report : List ℕ) → Status → Option (List ℕ) → Option (List ℕ) → Type 0
EndsOpen (Ok status) report ended had has = (ended ≡ status) × TellsOpen report had has
EndsOpen (Err told) report ended had has = Ends (Err told) ended had has

-- The words give options without vehicles, and what these ask for was done, over a log file and the file beside it where they name one.
pub record Obeys {X : Type 0} (fits : X → Floor → Bool) (count : X → ℕ) (gives : PlannerParts → Result X AllocError → Type 0)
    (guests : ServeOptions → Result Status Trouble → Input → Input → Option (List ℕ) → Option (List ℕ) → Type 0)
    (words : List Text) (ended : Status) (old new : Input) (had has blamed blames : Option (List ℕ)) : Type 0 where
  pub options : Options
  pub given : WordsGive words options
  pub plain : pace_of options ≡ None
  pub exact : stand_of options ≡ None
  pub begins : Begins options (pace_of options)
  pub files : Option Files
  pub named : is_some files ≡ names_file options
  pub came : Result Status Trouble
  pub report : List ℕ
  pub did : Did fits count gives guests options files came report old new had has
  pub ends : EndsOpen came report ended blamed blames

-- what the log, the file beside it and the file of arrivals told before anything was done
pub record LateFiles : Type 0 where
  pub log : Option (List ℕ)
  pub site : Option (List ℕ)
  pub arrivals : Option (List ℕ)

-- `replay --vehicles` over these files, or over none, came to this: to the number of vehicles that are on their way at the end, or to a trouble.
-- Then the files tell others, and this many of their bytes outlive a kill.
abbrev pub Drove : {X : Type 0} → (X → Floor → Bool) → (X → ℕ) → (PlannerParts → Result X AllocError → Type 0) → ReplayOptions → VehicleOptions → Option LateFiles → Result ℕ DriveTrouble
    → Input → Input → Option (List ℕ) → Option (List ℕ) → Type 0
Drove fits count gives o pace None (Ok left) old new had has = ServesLate fits count (script_asker (form_of o.replies)) gives o.fleet o.tail pace old new had has left
Drove fits count gives o pace None (Err (Plain told)) old new had has = IsWhyUnservedLate fits count (script_asker (form_of o.replies)) gives o.fleet o.tail pace told old new had has
Drove fits count gives o pace None (Err _) old new had has = ⊥
Drove fits count gives o pace (Some files) (Ok left) old new had has =
    (holds : Held) × (synced : Held) × (beside : Siding) × (beside.before ≡ files.site)
    × ServesConvoy fits count (log_asker (form_of o.replies)) gives o.fleet o.tail o.told o.anew pace old new had has (record { log = files.log; arrivals = files.arrivals }) holds synced beside left
Drove fits count gives o pace (Some files) (Err told) old new had has =
    (holds : Held) × (synced : Held) × (log_failed : Bool) × (arrivals_failed : Bool) × (beside : Siding) × (beside.before ≡ files.site)
    × IsWhyUnconvoyed fits count (log_asker (form_of o.replies)) gives o.fleet o.tail o.told o.anew pace told old new had has (record { log = files.log; arrivals = files.arrivals }) holds synced log_failed arrivals_failed beside

-- A line on standard error tells how many vehicles are on their way, or a trouble, as far as that can be written.
abbrev pub EndsDrive : Result ℕ DriveTrouble → Status → Option (List ℕ) → Option (List ℕ) → Type 0
EndsDrive (Ok left) ended had has = (ended ≡ Done) × WritesFront had has (way_text left)
EndsDrive (Err told) ended had has = (ended ≡ drive_status told) × WritesFront had has (drive_text told)

-- Its status tells what it came to, and a line on standard error tells a trouble, as far as that can be written.
abbrev pub EndsStand : Result Status DriveTrouble → Status → Option (List ℕ) → Option (List ℕ) → Type 0
EndsStand (Ok status) ended had has = (ended ≡ status) × Keeps had has
EndsStand (Err told) ended had has = (ended ≡ drive_status told) × WritesFront had has (drive_text told)

-- The words ask for the state as the vehicles stand, and that was told.
pub record ObeysStand (words : List Text) (ended : Status) (old new : Input) (had has blamed blames : Option (List ℕ)) : Type 0 where
  pub options : StateOptions
  pub given : WordsGive words (State options)
  pub stand : options.stand ≡ true
  pub begins : Begins (State options) None
  pub came : Result Status DriveTrouble
  pub did : StatedStanding options came old new had has
  pub ends : EndsStand came ended blamed blames

-- The words give options of a replay with vehicles, and that was done, over the files that they name, or over none.
pub record ObeysLate {X : Type 0} (fits : X → Floor → Bool) (count : X → ℕ) (gives : PlannerParts → Result X AllocError → Type 0)
    (words : List Text) (ended : Status) (old new : Input) (had has blamed blames : Option (List ℕ)) : Type 0 where
  pub options : ReplayOptions
  pub given : WordsGive words (Replay options)
  pub pace : VehicleOptions
  pub late : options.vehicles ≡ Some pace
  pub begins : Begins (Replay options) options.vehicles
  pub files : Option LateFiles
  pub named : is_some files ≡ is_some options.log
  pub came : Result ℕ DriveTrouble
  pub did : Drove fits count gives options pace files came old new had has
  pub ends : EndsDrive came ended blamed blames

-- The words give no options, or memory ran out to read them; no input was read. Who asks for help or the version by a flag
-- is told of no mistake. Of a mistake, or where memory ran out, nothing is written to the output.
pub record Declines (words : List Text) (ended : Status) (old new : Input) (had has : Option (List ℕ)) : Type 0 where
  pub none : (options : Options) → WordsGive words options → ended ≡ NoMemory
  pub help : AsksBy help_flags words → ended ≢ CommandLine
  pub version : AsksBy version_flags words → ended ≢ CommandLine
  pub unread : new ≡ old
  pub mistake : ended ≡ CommandLine → Keeps had has
  pub starved : ended ≡ NoMemory → Keeps had has

-- The words give options that name a run over files, and it is not begun, for what the system tells of these and of the standard streams, or
-- for what its file of arrivals holds: no input is read, nothing is written to the output, and the line that tells so, or nothing, on
-- standard error.
pub record Bars (words : List Text) (ended : Status) (old new : Input) (had has blamed blames : Option (List ℕ)) : Type 0 where
  pub options : Options
  pub given : WordsGive words options
  pub why : Trouble
  pub bars : IsBarred options (pace_of options) why
  pub unread : new ≡ old
  pub untold : Keeps had has
  pub ends : Ends (Err why) ended blamed blames

-- What the program comes to. Blamed and blames are what stood on standard error before, and stands there after.
abbrev pub Comes : {X : Type 0} → (X → Floor → Bool) → (X → ℕ) → (PlannerParts → Result X AllocError → Type 0) → (guests : ServeOptions → Result Status Trouble → Input → Input → Option (List ℕ) → Option (List ℕ) → Type 0) → List Text → Status
    → (old new : Input) → (had has blamed blames : Option (List ℕ)) → Type 0
Comes fits count gives guests words ended old new had has blamed blames =
    Obeys fits count gives guests words ended old new had has blamed blames ⊎ ObeysLate fits count gives words ended old new had has blamed blames
    ⊎ ObeysStand words ended old new had has blamed blames ⊎ Declines words ended old new had has ⊎ Bars words ended old new had has blamed blames

-- a run with vehicles over its two files, from what these hold to the line that ends the log
use Rattle.std.specs.Prelude.{◌≡◌, ◌⊎◌, ℕ, Bool, true, List, length, Option, IfSome}
use Rattle.std.specs.Io.KnownBytes.{Appends}
use Rattle.wh_lines.specs.Input.{Input}
use Rattle.wh_lines.specs.Output.{WritesFront}
use Rattle.wh_grid.specs.Grids.{Floor}
use Rattle.wh_replay.specs.declared.asker.Asker.{Asker}
use Rattle.wh_book.specs.Drafts.{Seen}
use Rattle.wh_drive.specs.Drives.{Drive}
use Rattle.wh_order.specs.Orders.{Order}
use Rattle.wh_dispatch.specs.Crews.{Crew, IsInStep, IsManned, AreWatched}
use Rattle.wh_dispatch.specs.Scripts.{TellsSome}
use Rattle.wh_dispatch.specs.SettingOut.{SetsOut, NoneIsTold}
use Rattle.wh_dispatch.specs.declared.script.DispatchFault.{DispatchFault}
use Rattle.wh_dispatch.specs.declared.visits.Pending.{Pending}
use Rattle.wh_journal.specs.Fleet.{RefusesToResume}
use Rattle.wh_journal.specs.Surviving.{StaysLog}
use Rattle.wh_journal.specs.declared.rounds.Round.TheVariants.{Ended}
use Rattle.wh_continue.specs.Running.{BeginsShort, Counts, EndsShort, IsKeptLog, closing, first_text}
use Rattle.wh_continue.specs.declared.starting.Start.{Start}
use Rattle.wh_continue.specs.declared.running.KeepFault.{KeepFault}
use Rattle.wh_continue.specs.declared.running.KeepFault.TheVariants.{Unkept}
use Rattle.wh_convoy.specs.Beginning.{BeginsArrivals, LeavesArrivals, first_line}
use Rattle.wh_convoy.specs.Convoys.{Held, ConvoysOn, ConvoysUntil, HasCause, depot}
use Rattle.wh_convoy.specs.declared.finding.Stood.{Stood}
use Rattle.wh_convoy.specs.declared.riding.RideFault.{RideFault}
use Rattle.wh_convoy.specs.declared.riding.RideFault.TheVariants.{Begin, Uncounted, Resume, NoMemory, SetOut, Script, End}

-- The number of the entries so far was told, and those that were asked for again; the log was made the log of the run so far, and the
-- file of arrivals its whole lines.
pub record BeginsBoth (again : Option ℕ) (start : Start) (bytes : ℕ) (had counted : Option (List ℕ)) (files begun : Held) : Type 0 where
  pub counts : Counts again start had counted files.log begun.log
  pub arrivals : BeginsArrivals (first_line start.preface) bytes files.arrivals begun.arrivals

-- why one of the files was not begun
abbrev pub BeginsNot : KeepFault → Start → (bytes : ℕ) → (files holds : Held) → (log_failed arrivals_failed : Bool) → Type 0
BeginsNot fault start bytes files holds log_failed arrivals_failed =
    (BeginsShort fault start files.log holds.log log_failed × (holds.arrivals ≡ files.arrivals))
    ⊎ ((fault ≡ Unkept) × (arrivals_failed ≡ true) × StaysLog files.log holds.log start.book × LeavesArrivals (first_line start.preface) bytes files.arrivals holds.arrivals)

-- Why nothing was served: a file was not begun; or both were, and not all was told.
abbrev pub StopsBeginning : RideFault → (again : Option ℕ) → Start → (bytes : ℕ) → (had has : Option (List ℕ)) → (files holds synced : Held) → (log_failed arrivals_failed : Bool) → Type 0
StopsBeginning (Begin fault) again start bytes had has files holds synced log_failed arrivals_failed = (has ≡ had) × BeginsNot fault start bytes files holds log_failed arrivals_failed
StopsBeginning Uncounted again start bytes had has files holds synced log_failed arrivals_failed =
    WritesFront had has (first_text again start) × StaysLog files.log holds.log start.book × BeginsArrivals (first_line start.preface) bytes files.arrivals holds.arrivals × (synced ≡ holds)
StopsBeginning (Resume fault) again start bytes had has files holds synced log_failed arrivals_failed = ⊥
StopsBeginning NoMemory again start bytes had has files holds synced log_failed arrivals_failed = ⊥
StopsBeginning (SetOut fault) again start bytes had has files holds synced log_failed arrivals_failed = ⊥
StopsBeginning (Script fault) again start bytes had has files holds synced log_failed arrivals_failed = ⊥
StopsBeginning (End fault) again start bytes had has files holds synced log_failed arrivals_failed = ⊥

-- Why there are no vehicles: the planners are refused, or memory ran out.
abbrev pub MansNot : {X : Type 0} → (X → Floor → Bool) → (X → ℕ) → RideFault → Seen → (planners : List X) → Type 0
MansNot fits count (Begin fault) book planners = ⊥
MansNot fits count Uncounted book planners = ⊥
MansNot fits count (Resume fault) book planners = RefusesToResume fits count book.site.grid planners book.state.slots fault
MansNot fits count NoMemory book planners = Unit {0}
MansNot fits count (SetOut fault) book planners = ⊥
MansNot fits count (Script fault) book planners = ⊥
MansNot fits count (End fault) book planners = ⊥

-- The vehicles set out, and the script was served to its end.
pub record Rides {X : Type 0} (fits : X → Floor → Bool) (count : X → ℕ) (asker : Asker) (bound : ℕ) (before after : Input) (old : Seen) (spares : List X) (d : Drive)
    (new : Seen) (rest : List X) (crew : Crew) (had has : Option (List ℕ)) (begun kept safe : Held) : Type 0 where
  pub out : Option (List ℕ)
  pub set : Drive
  pub sets_out : SetsOut old d set had out
  pub final : Drive
  pub manned : IsManned new crew final
  pub convoys : ConvoysOn fits count asker bound Ended before after (depot old spares set) (depot new rest final) out has begun kept safe

-- And the log was given what ends it.
pub record RidesToEnd {X : Type 0} (fits : X → Floor → Bool) (count : X → ℕ) (asker : Asker) (bound : ℕ) (before after : Input) (old : Seen) (spares : List X) (d : Drive)
    (new : Seen) (rest : List X) (crew : Crew) (had has : Option (List ℕ)) (begun holds synced : Held) : Type 0 where
  pub kept : Held
  pub rides : Rides fits count asker bound before after old spares d new rest crew had has begun kept kept
  pub ends : Appends kept.log holds.log (closing new.state.closed (length new.history))
  pub arrivals : holds.arrivals ≡ kept.arrivals
  pub synced_is : synced ≡ holds

-- From each drive by which the run of the book is carried out, here and below.
abbrev pub RidesFrom : {X : Type 0} → (X → Floor → Bool) → (X → ℕ) → Asker → ℕ → Input → Input → Seen → List X → Order → Seen → List X → Crew
    → (had has : Option (List ℕ)) → (begun holds synced : Held) → Type 0
RidesFrom fits count asker bound before after old spares order new rest crew had has begun holds synced =
    (d : Drive) → IsInStep old order d → RidesToEnd fits count asker bound before after old spares d new rest crew had has begun holds synced

-- what vehicles are told as they set out was not told to the end
pub record SetsOutShort (fault : DispatchFault) (book : Seen) (d : Drive) (had has : Option (List ℕ)) : Type 0 where
  pub pending : List Pending
  pub untold : AreWatched book.state NoneIsTold pending
  pub set : Drive
  pub tells : TellsSome fault book pending d set had has

-- the vehicles set out, and the script was served until a fault
pub record RidesUntil {X : Type 0} (fits : X → Floor → Bool) (count : X → ℕ) (asker : Asker) (bound : ℕ) (before after : Input) (old : Seen) (spares : List X) (d : Drive)
    (had has : Option (List ℕ)) (begun holds synced : Held) : Type 0 where
  pub out : Option (List ℕ)
  pub set : Drive
  pub sets_out : SetsOut old d set had out
  pub until : ConvoysUntil fits count asker bound before after (depot old spares set) out has begun holds synced

-- all was served, and the log was not ended
pub record RidesUnended {X : Type 0} (fits : X → Floor → Bool) (count : X → ℕ) (asker : Asker) (bound : ℕ) (fault : KeepFault) (before after : Input) (old : Seen) (spares rest : List X) (d : Drive)
    (had has : Option (List ℕ)) (begun holds synced : Held) (log_failed : Bool) : Type 0 where
  pub new : Seen
  pub crew : Crew
  pub kept : Held
  pub rides : Rides fits count asker bound before after old spares d new rest crew had has begun kept kept
  pub ends : EndsShort fault (closing new.state.closed (length new.history)) kept.log holds.log kept.log synced.log log_failed
  pub arrivals : holds.arrivals ≡ kept.arrivals
  pub arrivals_synced : synced.arrivals ≡ kept.arrivals

-- Why a run that was begun was not brought to its end.
abbrev pub Stops : {X : Type 0} → (X → Floor → Bool) → (X → ℕ) → Asker → ℕ → RideFault → Input → Input → Seen → (spares rest : List X) → Drive
    → (had has : Option (List ℕ)) → (begun holds synced : Held) → (log_failed arrivals_failed : Bool) → Type 0
Stops fits count asker bound (Begin fault) before after old spares rest d had has begun holds synced log_failed arrivals_failed = ⊥
Stops fits count asker bound Uncounted before after old spares rest d had has begun holds synced log_failed arrivals_failed = ⊥
Stops fits count asker bound (Resume fault) before after old spares rest d had has begun holds synced log_failed arrivals_failed = ⊥
Stops fits count asker bound NoMemory before after old spares rest d had has begun holds synced log_failed arrivals_failed = ⊥
Stops fits count asker bound (SetOut fault) before after old spares rest d had has begun holds synced log_failed arrivals_failed =
    (after ≡ before) × (rest ≡ spares) × SetsOutShort fault old d had has × (holds ≡ begun) × (synced ≡ begun)
Stops fits count asker bound (Script fault) before after old spares rest d had has begun holds synced log_failed arrivals_failed = HasCause fault log_failed arrivals_failed × RidesUntil fits count asker bound before after old spares d had has begun holds synced
Stops fits count asker bound (End fault) before after old spares rest d had has begun holds synced log_failed arrivals_failed = RidesUnended fits count asker bound fault before after old spares rest d had has begun holds synced log_failed

abbrev pub StopsFrom : {X : Type 0} → (X → Floor → Bool) → (X → ℕ) → Asker → ℕ → RideFault → Input → Input → Seen → (spares rest : List X) → Order
    → (had has : Option (List ℕ)) → (begun holds synced : Held) → (log_failed arrivals_failed : Bool) → Type 0
StopsFrom fits count asker bound fault before after old spares rest order had has begun holds synced log_failed arrivals_failed =
    (d : Drive) → IsInStep old order d → Stops fits count asker bound fault before after old spares rest d had has begun holds synced log_failed arrivals_failed

-- Both files were begun, that was told, the vehicles set out, the script was served to its end, each line told when its entry and the reports
-- that it rests on were synced, and the log was ended: it is the log of the whole run.
pub record RidesOn {X : Type 0} (fits : X → Floor → Bool) (count : X → ℕ) (asker : Asker) (again : Option ℕ) (bound : ℕ) (before after : Input) (start : Start) (stood : Stood) (spares : List X)
    (new : Seen) (rest : List X) (crew : Crew) (had has : Option (List ℕ)) (files holds synced : Held) : Type 0 where
  pub counted : Option (List ℕ)
  pub begun : Held
  pub begins : BeginsBoth again start stood.bytes had counted files begun
  pub rides : RidesFrom fits count asker bound before after start.book spares stood.order new rest crew counted has begun holds synced
  pub whole : IfSome files.log (λ _. IsKeptLog holds.log new)

-- Why a run was not brought to its end.
abbrev pub StopsRide : {X : Type 0} → (X → Floor → Bool) → (X → ℕ) → Asker → (again : Option ℕ) → (bound : ℕ) → RideFault → (before after : Input) → Start → Stood → (planners spares rest : List X)
    → (had has : Option (List ℕ)) → (files holds synced : Held) → (log_failed arrivals_failed : Bool) → Type 0
StopsRide fits count asker again bound fault before after start stood planners spares rest had has files holds synced log_failed arrivals_failed =
    ((after ≡ before) × (rest ≡ spares) × StopsBeginning fault again start stood.bytes had has files holds synced log_failed arrivals_failed)
    ⊎ (MansNot fits count fault start.book planners × (after ≡ before) × (rest ≡ spares) × BeginsBoth again start stood.bytes had has files holds × (synced ≡ holds))
    ⊎ ((counted : Option (List ℕ)) × (begun : Held) × BeginsBoth again start stood.bytes had counted files begun
    × StopsFrom fits count asker bound fault before after start.book spares rest stood.order counted has begun holds synced log_failed arrivals_failed)

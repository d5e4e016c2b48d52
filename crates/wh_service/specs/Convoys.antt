-- What `replay --vehicles` does over a log file and a file of arrivals.
use Rattle.std.specs.Prelude.{◌≡◌, ◌⊎◌, ◌++◌, ◌∷◌, [], ℕ, Bool, true, false, List, Option, None, Result, IfSome, codes, decimal}
use Rattle.std.specs.List.{count_by}
use Rattle.std.specs.declared.alloc.AllocError.{AllocError}
use Rattle.std.specs.Io.KnownBytes.{Appends, Keeps}
use Rattle.wh_lines.specs.Input.{Input}
use Rattle.wh_grid.specs.Grids.{Floor}
use Rattle.wh_points.specs.Points.{Site}
use Rattle.wh_replay.specs.declared.asker.Asker.{Asker}
use Rattle.wh_core.specs.Laws.{IsBeginning, IsOpening}
use Rattle.wh_core.specs.Steps.{Run}
use Rattle.wh_judge.specs.Drafts.{AllServed, Seen, HasWaysForAll}
use Rattle.wh_edge.specs.Site.{SiteKept, SiteFault}
use Rattle.wh_edge.specs.Trouble.{status_of, trouble_text}
use Rattle.wh_edge.specs.declared.trouble.Status.{Status}
use Rattle.wh_edge.specs.declared.trouble.Status.TheVariants.{Refused}
use Rattle.wh_edge.specs.declared.trouble.Trouble.{Trouble}
use Rattle.wh_edge.specs.declared.trouble.Trouble.TheVariants as trouble
use Rattle.wh_options.specs.declared.chosen.Fleet.{Fleet}
use Rattle.wh_options.specs.declared.chosen.Tail.{Tail}
use Rattle.wh_options.specs.declared.chosen.VehicleOptions.{VehicleOptions}
use Rattle.wh_drive.specs.Drives.{Drive}
use Rattle.wh_dispatch.specs.Crews.{Crew, IsManned, is_under_way}
use Rattle.wh_continue.specs.Opening.{IsOpened, IsWhyNotBoth}
use Rattle.wh_continue.specs.declared.running.KeepFault.{KeepFault}
use Rattle.wh_continue.specs.declared.starting.Start.{Start}
use Rattle.wh_convoy.specs.Convoys.{Held}
use Rattle.wh_convoy.specs.Riding.{RidesOn, StopsRide}
use Rattle.wh_convoy.specs.Standing.{IsWhyNotStood, StandsBy}
use Rattle.wh_convoy.specs.declared.fault.ConvoyFault.{ConvoyFault}
use Rattle.wh_convoy.specs.declared.fault.ConvoyFault.TheVariants as convoy
use Rattle.wh_convoy.specs.declared.riding.RideFault.{RideFault}
use Rattle.wh_convoy.specs.declared.riding.RideFault.TheVariants as ride
use Rattle.wh_convoy.specs.declared.finding.Stood.{Stood}
use Rattle.wh_convoy.specs.declared.finding.StoodFault.TheVariants as stood
use Rattle.wh_service.specs.Kept.{IsSet, IsUnequipped, IsUntouched, IsWhyNoRun, Siding, StartsFrom, StartsOver, keep_trouble}
use Rattle.wh_service.specs.Late.{trouble_of}
use Rattle.wh_service.specs.Tails.{IsWhyNoTail, tail_behind}
use Rattle.wh_service.specs.declared.convoys.DriveTrouble.{DriveTrouble}
use Rattle.wh_service.specs.declared.convoys.DriveTrouble.TheVariants.{Plain, Arrivals, Astray}
use Rattle.wh_service.specs.declared.parts.PlannerParts.{PlannerParts}

-- the line on standard error
abbrev pub drive_text : DriveTrouble → List ℕ
drive_text (Plain told) = trouble_text told
drive_text (Arrivals line) = codes "refused L1 at line " ++ decimal line ++ 10 ∷ []
drive_text (Astray agent) = codes "refused L1 at agent " ++ decimal agent ++ 10 ∷ []

-- a file of arrivals that is refused is told by status 1, as a log is
abbrev pub drive_status : DriveTrouble → Status
drive_status (Plain told) = status_of told
drive_status (Arrivals line) = Refused
drive_status (Astray agent) = Refused

-- what is told of a script that was not served to its end
abbrev pub convoy_trouble : ConvoyFault → Trouble
convoy_trouble convoy.Broken = trouble.Broken
convoy_trouble convoy.Endless = trouble.Endless
convoy_trouble convoy.Unwritten = trouble.Unwritten
convoy_trouble convoy.Unkept = trouble.Unkept
convoy_trouble convoy.NoMemory = trouble.NoMemory

-- what is told of a run that was not brought to its end
abbrev pub ride_trouble : RideFault → Trouble
ride_trouble (ride.Begin fault) = keep_trouble fault
ride_trouble ride.Uncounted = trouble.Unwritten
ride_trouble (ride.Resume fault) = trouble.NoMemory
ride_trouble ride.NoMemory = trouble.NoMemory
ride_trouble (ride.SetOut fault) = trouble_of fault
ride_trouble (ride.Script fault) = convoy_trouble fault
ride_trouble (ride.End fault) = keep_trouble fault

-- The file of arrivals was read, and by it vehicles stand so. A file that tells its bytes was read as it was.
pub record StandsOver (start : Start) (ahead : ℕ) (file : Option (List ℕ)) (stands : Stood) : Type 0 where
  pub text : List ℕ
  pub text_is : IfSome file (λ held. text ≡ held)
  pub stood : StandsBy start.book ahead start.preface text stands

-- Why they do not: it was not to be read, or by its text no vehicles of the run stand anywhere, or memory ran out.
abbrev pub IsWhyNotOver : Start → ℕ → Option (List ℕ) → DriveTrouble → Type 0
IsWhyNotOver start ahead file (Arrivals line) = (text : List ℕ) × IfSome file (λ held. text ≡ held) × IsWhyNotStood start.book ahead start.preface text (stood.BadLine line)
IsWhyNotOver start ahead file (Astray agent) = (text : List ℕ) × IfSome file (λ held. text ≡ held) × IsWhyNotStood start.book ahead start.preface text (stood.Astray agent)
IsWhyNotOver start ahead file (Plain trouble.Unkept) = Unit {0}
IsWhyNotOver start ahead file (Plain trouble.NoMemory) = Unit {0}
IsWhyNotOver start ahead file (Plain _) = ⊥

-- A run starts over the files, by whose site nobody follows, and its vehicles stand so.
pub record StartsConvoy {X : Type 0} (gives : PlannerParts → Result X AllocError → Type 0) (fleet : Fleet) (again : Option ℕ) (anew : Bool) (ahead : ℕ) (old between : Input) (files : Held) (beside : Siding)
    (site : Site) (start : Start) (stands : Stood) (planners spares : List X) : Type 0 where
  pub starts : StartsOver gives fleet again anew old between files.log beside site start planners spares
  pub rule : site.layout.nofollow ≡ true
  pub over : StandsOver start ahead files.arrivals stands

-- It was brought to its end from there: the vehicles set out, and the script that was left was served to its end over both files. The
-- log is that of the whole run now.
pub record GoesToEnd {X : Type 0} (fits : X → Floor → Bool) (count : X → ℕ) (asker : Asker) (again : Option ℕ) (bound : ℕ) (before after : Input) (start : Start) (stands : Stood) (spares : List X)
    (final : Seen) (crew : Crew) (had has : Option (List ℕ)) (files holds synced : Held) : Type 0 where
  pub rest : List X
  pub runs : RidesOn fits count asker again bound before after start stands spares final rest crew had has files holds synced
  -- the vehicles carry out the whole run, old and new entries: their plan's rows are the ticks of its history
  pub drive : Drive
  pub manned : IsManned final crew drive
  -- the whole run is one of the abstract warehouse, from the state and on the site with which it began
  pub site_is : final.site ≡ start.book.site
  pub opening_is : final.opening ≡ start.book.opening
  pub is_beginning : IsBeginning final.site final.opening
  pub run : Run final.site final.opening final.history final.state
  -- on a well-formed site, where all were on their ways as the log began, no request was ever refused for lack of a path
  pub served : HasWaysForAll final.site final.opening → AllServed final.history

-- And what must follow the replies follows them. This many vehicles are on their way then.
pub record GoesOn {X : Type 0} (fits : X → Floor → Bool) (count : X → ℕ) (asker : Asker) (tail : Tail) (again : Option ℕ) (bound : ℕ) (before after : Input) (start : Start) (stands : Stood) (spares : List X)
    (had has : Option (List ℕ)) (files holds synced : Held) (left : ℕ) : Type 0 where
  pub final : Seen
  pub crew : Crew
  pub replied : Option (List ℕ)
  pub goes : GoesToEnd fits count asker again bound before after start stands spares final crew had replied files holds synced
  pub follows : Appends replied has (tail_behind start.preface tail final.opening final.history final.state)
  pub left_is : left ≡ count_by is_under_way crew.order.vehicles

-- or it does not follow
pub record GoesWithoutTail {X : Type 0} (fits : X → Floor → Bool) (count : X → ℕ) (asker : Asker) (tail : Tail) (again : Option ℕ) (bound : ℕ) (told : Trouble) (before after : Input) (start : Start) (stands : Stood)
    (spares : List X) (had has : Option (List ℕ)) (files holds synced : Held) : Type 0 where
  pub final : Seen
  pub crew : Crew
  pub replied : Option (List ℕ)
  pub goes : GoesToEnd fits count asker again bound before after start stands spares final crew had replied files holds synced
  pub why : IsWhyNoTail told replied has (tail_behind start.preface tail final.opening final.history final.state)

-- Why a run that starts was not brought to its end, or not all was told.
abbrev pub IsWhyNotOn : {X : Type 0} → (X → Floor → Bool) → (X → ℕ) → Asker → Tail → (again : Option ℕ) → (bound : ℕ) → Trouble → (before after : Input) → Start → Stood → (planners spares : List X)
    → (had has : Option (List ℕ)) → (files holds synced : Held) → (log_failed arrivals_failed : Bool) → Type 0
IsWhyNotOn {X} fits count asker tail again bound told before after start stands planners spares had has files holds synced log_failed arrivals_failed =
    ((fault : RideFault) × (rest : List X) × (told ≡ ride_trouble fault) × StopsRide fits count asker again bound fault before after start stands planners spares rest had has files holds synced log_failed arrivals_failed)
    ⊎ GoesWithoutTail fits count asker tail again bound told before after start stands spares had has files holds synced

-- A site was read, a run of it starts over the files, and its vehicles stand somewhere; the site stands beside the log; and the run went on
-- from there to its end.
pub record ServesConvoy {X : Type 0} (fits : X → Floor → Bool) (count : X → ℕ) (asker : Asker) (gives : PlannerParts → Result X AllocError → Type 0) (fleet : Fleet) (tail : Tail) (again : Option ℕ) (anew : Bool)
    (pace : VehicleOptions) (old new : Input) (had has : Option (List ℕ)) (files holds synced : Held) (beside : Siding) (left : ℕ) : Type 0 where
  pub site : Site
  pub between : Input
  pub start : Start
  pub stands : Stood
  pub planners : List X
  pub spares : List X
  pub starts : StartsConvoy gives fleet again anew pace.ahead old between files beside site start stands planners spares
  pub site_is : start.book.site ≡ site
  pub is_set : IsSet beside starts.starts.text
  pub goes_on : GoesOn fits count asker tail again pace.behind between new start stands spares had has files holds synced left
  -- it began with an opening state of the site where its log begins with no front
  pub is_opening : start.preface ≡ None → IsOpening site goes_on.final.opening

-- a site was read by whose rule agents may follow, so that vehicles might stand still for ever
pub record LetsFollowKept (homes : Bool) (told : DriveTrouble) (old new : Input) : Type 0 where
  pub is : told ≡ Plain trouble.MayFollow
  pub site : Site
  pub text : List ℕ
  pub site_read : SiteKept homes old new site text
  pub rule : site.layout.nofollow ≡ false

-- Why no run of the site starts over the files, with vehicles that stand somewhere, and planners for its agents.
abbrev pub IsWhyNoConvoy : Fleet → (again : Option ℕ) → (anew : Bool) → (ahead : ℕ) → Site → Held → (beside : Option (List ℕ)) (text : List ℕ) → DriveTrouble → Type 0
IsWhyNoConvoy fleet again anew ahead site files beside text told =
    ((fault : Trouble) × (told ≡ Plain fault) × (IsWhyNoRun fleet again anew site files.log beside text fault ⊎ IsUnequipped fleet site files.log fault))
    ⊎ ((start : Start) × StartsFrom fleet site files.log start × IsWhyNotOver start ahead files.arrivals told)

-- a site was read, and there it ended
pub record EndsAtConvoy (fleet : Fleet) (again : Option ℕ) (anew : Bool) (ahead : ℕ) (told : DriveTrouble) (old new : Input) (files : Held) (beside : Option (List ℕ)) : Type 0 where
  pub site : Site
  pub text : List ℕ
  pub site_read : SiteKept fleet.homes old new site text
  pub why : IsWhyNoConvoy fleet again anew ahead site files beside text told

-- the run starts, and its log was not begun, or its site not kept beside it
pub record StopsConvoyOpening {X : Type 0} (gives : PlannerParts → Result X AllocError → Type 0) (fleet : Fleet) (again : Option ℕ) (anew : Bool) (ahead : ℕ) (fault : KeepFault) (old new : Input) (files : Held) (failed : Bool)
    (holds : Held) (beside : Siding) : Type 0 where
  pub site : Site
  pub start : Start
  pub stands : Stood
  pub planners : List X
  pub spares : List X
  pub starts : StartsConvoy gives fleet again anew ahead old new files beside site start stands planners spares
  pub arrivals : holds.arrivals ≡ files.arrivals
  pub why : IsWhyNotBoth fault start files.log holds.log failed beside.before beside.after beside.failed starts.starts.text

-- the log was begun, the site stands beside it, and the run that started was not brought to its end, or not all was told
pub record StopsConvoy {X : Type 0} (fits : X → Floor → Bool) (count : X → ℕ) (asker : Asker) (gives : PlannerParts → Result X AllocError → Type 0) (fleet : Fleet) (tail : Tail) (again : Option ℕ) (anew : Bool)
    (pace : VehicleOptions) (told : Trouble) (old new : Input) (had has : Option (List ℕ)) (files holds synced : Held) (log_failed arrivals_failed : Bool) (beside : Siding) : Type 0 where
  pub site : Site
  pub between : Input
  pub start : Start
  pub stands : Stood
  pub planners : List X
  pub spares : List X
  pub starts : StartsConvoy gives fleet again anew pace.ahead old between files beside site start stands planners spares
  pub is_set : IsSet beside starts.starts.text
  pub begun : Start
  pub opened : Option (List ℕ)
  pub opens : IsOpened start begun files.log opened
  pub why : IsWhyNotOn fits count asker tail again pace.behind told between new begun stands planners spares had has (record { log = opened; arrivals = files.arrivals }) holds synced log_failed arrivals_failed

-- nothing was told, and the files hold what they held
abbrev pub IsStill : (had has : Option (List ℕ)) → (files holds : Held) → Siding → Type 0
IsStill had has files holds beside = Keeps had has × (holds ≡ files) × IsUntouched beside

-- Why it ended otherwise, in this order: the site, its rule, the file beside the log, the log, the file of arrivals, the planners, the log's first
-- lines and the site's file, the run, what is to follow the replies. Before the run starts nothing is told, and the file of arrivals is as it was;
-- before its planners are made, so are the others.
abbrev pub IsWhyUnconvoyed : {X : Type 0} → (X → Floor → Bool) → (X → ℕ) → Asker → (PlannerParts → Result X AllocError → Type 0) → Fleet → Tail → (again : Option ℕ) → (anew : Bool) → VehicleOptions → DriveTrouble
    → (old new : Input) → (had has : Option (List ℕ)) → (files holds synced : Held) → (log_failed arrivals_failed : Bool) → Siding → Type 0
IsWhyUnconvoyed fits count asker gives fleet tail again anew pace told old new had has files holds synced log_failed arrivals_failed beside =
    ((fault : Trouble) × (told ≡ Plain fault) × SiteFault fleet.homes fault old new × IsStill had has files holds beside)
    ⊎ (LetsFollowKept fleet.homes told old new × IsStill had has files holds beside)
    ⊎ (EndsAtConvoy fleet again anew pace.ahead told old new files beside.before × IsStill had has files holds beside)
    ⊎ ((fault : KeepFault) × (told ≡ Plain (keep_trouble fault)) × StopsConvoyOpening gives fleet again anew pace.ahead fault old new files log_failed holds beside × Keeps had has)
    ⊎ ((fault : Trouble) × (told ≡ Plain fault) × StopsConvoy fits count asker gives fleet tail again anew pace fault old new had has files holds synced log_failed arrivals_failed beside)

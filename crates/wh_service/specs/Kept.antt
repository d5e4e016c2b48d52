-- What a whole run of `replay` over a log file does.
use Rattle.std.specs.Prelude.{◌≡◌, ◌⊎◌, ℕ, Bool, true, false, List, length, replicate, Option, None, Result, All, is_some}
use Rattle.std.specs.declared.alloc.AllocError.{AllocError}
use Rattle.std.specs.Io.KnownBytes.{Appends, Keeps}
use Rattle.wh_lines.specs.Input.{Input}
use Rattle.wh_grid.specs.Grids.{Floor}
use Rattle.wh_points.specs.Points.{Site}
use Rattle.wh_claims.specs.Bank.{bank_total}
use Rattle.wh_claims.specs.declared.bank.Bank.{Bank}
use Rattle.wh_replay.specs.declared.asker.Asker.{Asker}
use Rattle.wh_core.specs.Laws.{IsBeginning, IsOpening}
use Rattle.wh_core.specs.Steps.{Run}
use Rattle.wh_judge.specs.Drafts.{AllServed, Seen, HasWaysForAll}
use Rattle.wh_continue.specs.Again.{CanTellAgain, IsWhyNotAgain}
use Rattle.wh_continue.specs.Starting.{IsWhyNoStart, StartsByFile}
use Rattle.wh_continue.specs.Besides.{HoldsOther, StandsBeside}
use Rattle.wh_continue.specs.Opening.{IsOpened, IsWhyNotBoth}
use Rattle.wh_continue.specs.Running.{Opens, RunsOn, StopsRun}
use Rattle.wh_continue.specs.declared.beside.Beside.{Beside}
use Rattle.wh_continue.specs.declared.beside.Beside.TheVariants as aside
use Rattle.wh_continue.specs.declared.continuing.ContinueFault.TheVariants as continued
use Rattle.wh_continue.specs.declared.running.KeepFault.{KeepFault}
use Rattle.wh_continue.specs.declared.running.KeepFault.TheVariants as kept
use Rattle.wh_continue.specs.declared.running.RunFault.{RunFault}
use Rattle.wh_continue.specs.declared.running.RunFault.TheVariants as ran
use Rattle.wh_continue.specs.declared.starting.Start.{Start}
use Rattle.wh_continue.specs.declared.starting.StartFault.{StartFault}
use Rattle.wh_continue.specs.declared.starting.StartFault.TheVariants as started
use Rattle.wh_continue.specs.declared.again.AgainFault.{AgainFault}
use Rattle.wh_continue.specs.declared.again.AgainFault.TheVariants as againfault
use Rattle.wh_journal.specs.declared.fault.JournaledFault.{JournaledFault}
use Rattle.wh_journal.specs.declared.fault.JournaledFault.TheVariants as journaled
use Rattle.wh_edge.specs.Site.{SiteKept, SiteFault}
use Rattle.wh_edge.specs.declared.trouble.Trouble.{Trouble}
use Rattle.wh_edge.specs.declared.trouble.Trouble.TheVariants as trouble
use Rattle.wh_options.specs.declared.chosen.Fleet.{Fleet}
use Rattle.wh_options.specs.declared.chosen.Tail.{Tail}
use Rattle.wh_service.specs.Fleets.{AreSeated, IsMember, IsWhyUnclaimed, IsWhyUnseated}
use Rattle.wh_service.specs.Plays.{deliver_trouble}
use Rattle.wh_service.specs.Tails.{IsWhyNoTail, tail_behind, told_open}
use Rattle.wh_service.specs.declared.parts.PlannerParts.{PlannerParts}

-- One planner for each agent, with the slots that its state tells, and as many spare ones as the options name, with the
-- fleet's slots. All are of the fleet's kind, on the grid, and with their claims on one bank, which has as many slots in all as
-- the options name.
pub record IsSeated {X : Type 0} (gives : PlannerParts → Result X AllocError → Type 0) (fleet : Fleet) (grid : Floor) (slots : List ℕ) (planners spares : List X) : Type 0 where
  pub bank : Bank
  pub total : bank_total bank ≡ fleet.bank
  pub stands_by : length spares ≡ fleet.spares
  pub planners_are : AreSeated gives fleet grid bank slots planners
  pub spares_are : All (IsMember gives fleet grid bank) spares

-- the slots of each agent at an opening
abbrev pub first_slots : Fleet → Site → List ℕ
first_slots fleet site = replicate (length site.layout.agents) fleet.slots

-- this is what a run of the site starts from, by the log file
abbrev pub StartsFrom : Fleet → Site → (file : Option (List ℕ)) → Start → Type 0
StartsFrom fleet site file start = StartsByFile site (first_slots fleet site) file start

-- the file beside the log: what it told before and tells after, what of that was synced, and whether a call of it has failed
pub record Siding : Type 0 where
  pub before : Option (List ℕ)
  pub after : Option (List ℕ)
  pub synced : Option (List ℕ)
  pub failed : Bool

-- nothing of it has changed
abbrev pub IsUntouched : Siding → Type 0
IsUntouched beside = beside.after ≡ beside.before

-- it holds this text and nothing else, all of it synced
abbrev pub IsSet : Siding → List ℕ → Type 0
IsSet beside text = Opens beside.before beside.after text × (beside.synced ≡ beside.after)

-- Where the site's text stands whole beside the log, that was begun, or a new run was asked for.
abbrev pub HasLog : (anew : Bool) → Beside → Start → Type 0
HasLog anew found start = found ≡ aside.Whole → anew ≡ false → is_some start.bytes ≡ true

-- A site was read, and stands beside the log, or a beginning of its text does; then the log was read, and planners were made
-- for what the run starts from. Entries are told again from one on that the log has, or from the run's next one. Again, here and
-- below, says from which, if any are, and anew whether a new run may begin where its log was lost.
pub record StartsOver {X : Type 0} (gives : PlannerParts → Result X AllocError → Type 0) (fleet : Fleet) (again : Option ℕ) (anew : Bool) (old between : Input) (file : Option (List ℕ)) (beside : Siding)
    (site : Site) (start : Start) (planners spares : List X) : Type 0 where
  pub text : List ℕ
  pub site_read : SiteKept fleet.homes old between site text
  pub found : Beside
  pub stands : StandsBeside beside.before text found
  pub starts : StartsFrom fleet site file start
  pub has_log : HasLog anew found start
  pub within : CanTellAgain again start
  pub seated : IsSeated gives fleet site.grid start.book.state.slots planners spares

-- The run went on from there: the site stands beside the log, the script behind the site was served to its end, with planners
-- for its agents, over the file, all was delivered behind it, where deliver says so, the file is the log of the whole run now, and what must
-- follow the replies follows them. This is to be told of orders that are open.
pub record ServesKept {X : Type 0} (fits : X → Floor → Bool) (count : X → ℕ) (asker : Asker) (gives : PlannerParts → Result X AllocError → Type 0) (fleet : Fleet) (deliver : Bool) (tail : Tail) (again : Option ℕ) (anew : Bool)
    (old new : Input) (had has file synced holds : Option (List ℕ)) (beside : Siding) (report : List ℕ) : Type 0 where
  pub site : Site
  pub between : Input
  pub start : Start
  pub planners : List X
  pub spares : List X
  pub starts : StartsOver gives fleet again anew old between file beside site start planners spares
  pub is_set : IsSet beside starts.text
  pub rest : List X
  pub final : Seen
  pub replied : Option (List ℕ)
  pub runs : RunsOn fits count asker again deliver between new start spares final rest had replied file synced holds
  pub open_is : report ≡ told_open deliver final.state
  pub follows : Appends replied has (tail_behind start.preface tail final.opening final.history final.state)
  -- the whole run, old and new entries, is one of the abstract warehouse, from an opening state of this site, or from the state that the
  -- front of its log tells
  pub site_is : final.site ≡ site
  pub is_beginning : IsBeginning site final.opening
  pub is_opening : start.preface ≡ None → IsOpening site final.opening
  pub run : Run site final.opening final.history final.state
  -- on a well-formed site, where all were on their ways as the log began, no request was ever refused for lack of a path
  pub served : HasWaysForAll site final.opening → AllServed final.history

-- what is told of a log file that was not begun or not ended
abbrev pub keep_trouble : KeepFault → Trouble
keep_trouble kept.Unkept = trouble.Unkept
keep_trouble kept.NoMemory = trouble.NoMemory

-- what is told of a script that was not served to its end over a log file
abbrev pub journal_trouble : JournaledFault → Trouble
journal_trouble journaled.Broken = trouble.Broken
journal_trouble journaled.Endless = trouble.Endless
journal_trouble journaled.Unwritten = trouble.Unwritten
journal_trouble journaled.Unjournaled = trouble.Unkept

-- what is told of a run that was not brought to its end
abbrev pub run_trouble : RunFault → Trouble
run_trouble (ran.Begin fault) = keep_trouble fault
run_trouble ran.Uncounted = trouble.Unwritten
run_trouble (ran.Continue (continued.Replay fault)) = journal_trouble fault
run_trouble (ran.Continue (continued.Resume fault)) = trouble.NoMemory
run_trouble (ran.Deliver fault) = deliver_trouble fault
run_trouble (ran.End fault) = keep_trouble fault

-- Why the file beside the log does not allow a run: it holds the text of another site, or another text, which is told as line
-- 0; or it was not to be read; or memory ran out.
abbrev pub IsWhyAside : (beside : Option (List ℕ)) (text : List ℕ) → Trouble → Type 0
IsWhyAside beside text (trouble.Log line) = (line ≡ 0) × HoldsOther beside text
IsWhyAside beside text trouble.Unkept = Unit {0}
IsWhyAside beside text trouble.NoMemory = Unit {0}
IsWhyAside beside text _ = ⊥

-- what is told of a start that the log file does not allow
abbrev pub start_trouble : StartFault → Trouble
start_trouble (started.Bad line) = trouble.Log line
start_trouble (started.Flawed line reason) = trouble.Front reason line
start_trouble started.Unread = trouble.Unkept
start_trouble started.NoMemory = trouble.NoMemory

-- what is told where entries cannot be told again from the one that is named
abbrev pub again_trouble : AgainFault → Trouble
again_trouble (againfault.Earlier first) = trouble.Forgotten first
again_trouble (againfault.Missing line) = trouble.Log line

-- Why no run starts over the log of a site that was read: it was not to be read, or its text is none that a run goes on from,
-- or memory ran out.
abbrev pub IsWhyNotStarted : Fleet → Site → Option (List ℕ) → Trouble → Type 0
IsWhyNotStarted fleet site file told = (fault : StartFault) × (told ≡ start_trouble fault) × IsWhyNoStart site (first_slots fleet site) file fault

-- A run could start, and entries are to be told again from one on that its log does not have.
pub record IsBeyond (fleet : Fleet) (again : Option ℕ) (site : Site) (file : Option (List ℕ)) (told : Trouble) : Type 0 where
  pub start : Start
  pub starts : StartsFrom fleet site file start
  pub fault : AgainFault
  pub told_is : told ≡ again_trouble fault
  pub why : IsWhyNotAgain again start fault

-- The site's text stands whole beside a log that was not begun, as it does only once a log was: that log was lost, and no new run is asked for.
pub record IsLostLog (fleet : Fleet) (anew : Bool) (site : Site) (file beside : Option (List ℕ)) (text : List ℕ) (told : Trouble) : Type 0 where
  pub told_is : told ≡ trouble.LostLog
  pub unasked : anew ≡ false
  pub stands : StandsBeside beside text aside.Whole
  pub start : Start
  pub starts : StartsFrom fleet site file start
  pub unbegun : start.bytes ≡ None

-- why no run starts over both files, the earlier first
abbrev pub IsWhyNoRun : Fleet → (again : Option ℕ) → (anew : Bool) → Site → (file beside : Option (List ℕ)) (text : List ℕ) → Trouble → Type 0
IsWhyNoRun fleet again anew site file beside text told =
    IsWhyAside beside text told ⊎ IsWhyNotStarted fleet site file told ⊎ IsLostLog fleet anew site file beside text told ⊎ IsBeyond fleet again site file told

-- the run starts, and a planner got no slots, or memory ran out for one
pub record IsUnequipped (fleet : Fleet) (site : Site) (file : Option (List ℕ)) (told : Trouble) : Type 0 where
  pub start : Start
  pub starts : StartsFrom fleet site file start
  pub why : IsWhyUnseated start.book.state.slots told ⊎ IsWhyUnclaimed fleet.slots told

-- A site was read, and there it ended: no run starts over the files, or its planners were not made.
pub record EndsAtStart (fleet : Fleet) (again : Option ℕ) (anew : Bool) (told : Trouble) (old new : Input) (file beside : Option (List ℕ)) : Type 0 where
  pub site : Site
  pub text : List ℕ
  pub site_read : SiteKept fleet.homes old new site text
  pub why : IsWhyNoRun fleet again anew site file beside text told ⊎ IsUnequipped fleet site file told

-- A run starts, with planners, and its log was not begun, or its site not kept beside it.
pub record StopsOpening {X : Type 0} (gives : PlannerParts → Result X AllocError → Type 0) (fleet : Fleet) (again : Option ℕ) (anew : Bool) (fault : KeepFault) (old new : Input) (file : Option (List ℕ)) (failed : Bool)
    (holds : Option (List ℕ)) (beside : Siding) : Type 0 where
  pub site : Site
  pub start : Start
  pub planners : List X
  pub spares : List X
  pub starts : StartsOver gives fleet again anew old new file beside site start planners spares
  pub why : IsWhyNotBoth fault start file holds failed beside.before beside.after beside.failed starts.text

-- The log was begun, the site stands beside it, and the run that started was not brought to its end.
pub record StopsKept {X : Type 0} (fits : X → Floor → Bool) (count : X → ℕ) (asker : Asker) (gives : PlannerParts → Result X AllocError → Type 0) (fleet : Fleet) (deliver : Bool) (again : Option ℕ) (anew : Bool) (fault : RunFault)
    (old new : Input) (had has file : Option (List ℕ)) (failed : Bool) (synced holds : Option (List ℕ)) (beside : Siding) : Type 0 where
  pub site : Site
  pub between : Input
  pub start : Start
  pub planners : List X
  pub spares : List X
  pub starts : StartsOver gives fleet again anew old between file beside site start planners spares
  pub is_set : IsSet beside starts.text
  pub begun : Start
  pub opened : Option (List ℕ)
  pub opens : IsOpened start begun file opened
  pub rest : List X
  pub stops : StopsRun fits count asker again deliver fault between new begun planners spares rest had has opened failed synced holds

-- The run was brought to its end, and what is to follow the replies does not.
pub record KeptWithoutTail {X : Type 0} (fits : X → Floor → Bool) (count : X → ℕ) (asker : Asker) (gives : PlannerParts → Result X AllocError → Type 0) (fleet : Fleet) (deliver : Bool) (tail : Tail) (again : Option ℕ) (anew : Bool)
    (told : Trouble) (old new : Input) (had has file synced holds : Option (List ℕ)) (beside : Siding) : Type 0 where
  pub site : Site
  pub between : Input
  pub start : Start
  pub planners : List X
  pub spares : List X
  pub starts : StartsOver gives fleet again anew old between file beside site start planners spares
  pub is_set : IsSet beside starts.text
  pub rest : List X
  pub final : Seen
  pub replied : Option (List ℕ)
  pub runs : RunsOn fits count asker again deliver between new start spares final rest had replied file synced holds
  pub why : IsWhyNoTail told replied has (tail_behind start.preface tail final.opening final.history final.state)

-- Why it ended otherwise, in this order: the site, both files, the bank and the planners, the log's first lines and the site's file, the run,
-- what is to follow the replies. Before the run starts nothing is told; before its planners are made, both files are as they were.
abbrev pub IsWhyUnkept : {X : Type 0} → (X → Floor → Bool) → (X → ℕ) → Asker → (PlannerParts → Result X AllocError → Type 0) → Fleet → (deliver : Bool) → Tail → (again : Option ℕ) → (anew : Bool) → Trouble
    → (old new : Input) → (had has file : Option (List ℕ)) → Bool → (synced holds : Option (List ℕ)) → Siding → Type 0
IsWhyUnkept fits count asker gives fleet deliver tail again anew told old new had has file failed synced holds beside =
    (SiteFault fleet.homes told old new × Keeps had has × (holds ≡ file) × IsUntouched beside)
    ⊎ (EndsAtStart fleet again anew told old new file beside.before × Keeps had has × (holds ≡ file) × IsUntouched beside)
    ⊎ ((fault : KeepFault) × (told ≡ keep_trouble fault) × StopsOpening gives fleet again anew fault old new file failed holds beside × Keeps had has)
    ⊎ ((fault : RunFault) × (told ≡ run_trouble fault) × StopsKept fits count asker gives fleet deliver again anew fault old new had has file failed synced holds beside)
    ⊎ KeptWithoutTail fits count asker gives fleet deliver tail again anew told old new had has file synced holds beside

-- What a whole run of `serve` does, from the site that is read to the log that is kept.
use Rattle.std.specs.Prelude.{◌≡◌, ◌⊎◌, ◌+◌, ℕ, Bool, true, false, List, [], length, cond, Option, None, Some, IfSome, Result, Ok, Err}
use Rattle.std.specs.declared.alloc.AllocError.{AllocError}
use Rattle.wh_lines.specs.Input.{Input}
use Rattle.wh_lines.specs.Output.{WritesFront}
use Rattle.wh_grid.specs.Grids.{Floor}
use Rattle.wh_points.specs.Points.{Site}
use Rattle.wh_event.specs.declared.entry.Entry.{Entry}
use Rattle.wh_core.specs.States.{State}
use Rattle.wh_restore.specs.Heads.{IsHeadOf}
use Rattle.wh_journal.specs.Surviving.{IsLogOfBook, StaysLog}
use Rattle.wh_continue.specs.Besides.{StandsBeside}
use Rattle.wh_continue.specs.Opening.{IsOpened, IsWhyNotBoth}
use Rattle.wh_continue.specs.Running.{IsLeft, IsKeptLog, closing}
use Rattle.wh_continue.specs.declared.running.KeepFault.{KeepFault}
use Rattle.wh_continue.specs.declared.starting.Start.{Start}
use Rattle.wh_edge.specs.Site.{SiteFault, SiteKept}
use Rattle.wh_edge.specs.declared.trouble.Trouble.{Trouble}
use Rattle.wh_edge.specs.declared.trouble.Trouble.TheVariants as trouble
use Rattle.wh_options.specs.declared.chosen.ServeOptions.{ServeOptions}
use Rattle.wh_desk.specs.Pasts.{Origin, origin_of}
use Rattle.wh_desk.specs.Drafts.{Seen}
use Rattle.wh_display.specs.declared.screen.ShowFault.{ShowFault}
use Rattle.wh_host.specs.Displays.{BoardsFrom, IsWhyUnlived, trouble_of_show}
use Rattle.wh_serve.specs.Texts.{receipt_text}
use Rattle.wh_serve.specs.declared.threads.Client.{Client}
use Rattle.wh_serve.specs.declared.doors.WorkerEnd.{WorkerEnd}
use Rattle.wh_host.specs.declared.pacing.Pacing.{Pacing}
use Rattle.wh_host.specs.Runs.{IsJournalOf, ServedFrom}
use Rattle.wh_service.specs.Kept.{EndsAtStart, HasLog, IsSet, IsUntouched, Siding, StartsFrom, keep_trouble}
use Rattle.wh_service.specs.Plays.{form_of}
use Rattle.wh_service.specs.declared.parts.PlannerParts.{PlannerParts}
use Rattle.wh_attend.specs.Guests.{IsStaffed, counts_before}
use Rattle.wh_attend.specs.Shares.{IsPacingOf}
use Rattle.wh_attend.specs.declared.ready.Ready.{Ready}

-- the line that ends the log of a closed run, to which nothing can be added; a run that may go on has none
abbrev pub ending_of : Seen → List ℕ
ending_of final = closing final.state.closed (length final.history)

-- A run is ready. A site was read, and the input ended after it; its text stands beside the log, or a beginning of it does; by the log
-- the run starts from this, with one planner for each agent, and with the clients and their spare planners.
pub record IsReady {X : Type 0} (gives : PlannerParts → Result X AllocError → Type 0) (options : ServeOptions) (old new : Input) (file beside : Option (List ℕ)) (site : Site) (run : Ready X) : Type 0 where
  pub site_read : SiteKept options.fleet.homes old new site run.text.items
  pub alone : new.ended ≡ true
  pub stands : StandsBeside beside run.text.items run.found
  pub starts : StartsFrom options.fleet site file run.start
  pub has_log : HasLog options.anew run.found run.start
  pub staffed : IsStaffed gives options site.grid run.start.book.state.slots run.start.book.history (counts_before run.start.preface) run.planners.items run.clients.items

-- Clients were served, and beside them a worker for all agents and the clock took turns, where the options name one: the history goes on
-- from the earlier one, by no more entries than the options name. Remaining and contents are the bytes that a reader and a writer of a
-- client tell.
pub record ServesClients {R W X : Type 0} (fits : X → Floor → Bool) (count : X → ℕ) (remaining : R → Option (List ℕ)) (contents : W → Option (List ℕ))
    (options : ServeOptions) (origin : Origin) (earlier : List Entry) (clients : List (Client X)) (history : List Entry) (state : State) : Type 0 where
  pub pace : Option Pacing
  pub pace_is : IsPacingOf options.every options earlier pace
  pub connections : List ℕ
  pub worker : Option WorkerEnd
  pub served : ServedFrom fits count (receipt_text (form_of options.replies) origin) remaining contents origin earlier clients pace (length earlier + options.journal) history state connections worker

-- The clients of a run were served, over what it started from, as one run from the same opening of the site.
pub record Serves {R W X : Type 0} (fits : X → Floor → Bool) (count : X → ℕ) (remaining : R → Option (List ℕ)) (contents : W → Option (List ℕ))
    (options : ServeOptions) (site : Site) (run : Ready X) (final : Seen) : Type 0 where
  pub site_is : final.site ≡ site
  pub opening_is : final.opening ≡ run.start.book.opening
  pub served : ServesClients fits count remaining contents options (origin_of final) run.start.book.history run.clients.items final.history final.state

-- Boards of a run were shown, if there is a screen: the first of what it started from. Whether the last one was shown is told. Showed is
-- what a screen told before, if there is one, and shows what it tells then.
abbrev pub ShowsRun : {X : Type 0} → Ready X → Seen → Result Unit ShowFault → (showed shows : Option (Option (List (List ℕ)))) → Type 0
ShowsRun run final last showed shows = BoardsFrom (origin_of final) run.start.book.history final.history last showed shows

-- A run was ready, its site was kept beside the log, and its clients were served, until the run was closed or the service stopped. The
-- file is the log of the whole run now, old and new entries, if it tells its bytes, and all of it is synced; and the board of the whole run
-- was shown.
pub record Attends {R W X : Type 0} (fits : X → Floor → Bool) (count : X → ℕ) (remaining : R → Option (List ℕ)) (contents : W → Option (List ℕ)) (gives : PlannerParts → Result X AllocError → Type 0) (options : ServeOptions)
    (old new : Input) (file synced holds : Option (List ℕ)) (beside : Siding) (showed shows : Option (Option (List (List ℕ)))) : Type 0 where
  pub site : Site
  pub run : Ready X
  pub ready : IsReady gives options old new file beside.before site run
  pub is_set : IsSet beside run.text.items
  pub final : Seen
  pub serves : Serves fits count remaining contents options site run final
  pub whole : IfSome file (λ _. IsKeptLog holds final)
  pub synced_is : synced ≡ holds
  pub boards : ShowsRun run final (Ok tt) showed shows

-- A site was read by the rule that was asked for, and more follows it.
pub record IsFollowed (homes : Bool) (old new : Input) : Type 0 where
  pub site : Site
  pub text : List ℕ
  pub site_read : SiteKept homes old new site text
  pub more : new.ended ≡ false

-- A run is ready, except that this client has no way in.
pub record EndsAtHall {X : Type 0} (gives : PlannerParts → Result X AllocError → Type 0) (options : ServeOptions) (client : ℕ) (old new : Input) (file beside : Option (List ℕ)) : Type 0 where
  pub site : Site
  pub run : Ready X
  pub ready : IsReady gives options old new file beside site run

-- why no run is ready, the earlier first: the site, what follows it, both files, the bank and the planners, the hall
abbrev pub IsWhyUnready : {X : Type 0} → (PlannerParts → Result X AllocError → Type 0) → ServeOptions → Trouble → (old new : Input) → (file beside : Option (List ℕ)) → Type 0
IsWhyUnready gives options told old new file beside =
    SiteFault options.fleet.homes told old new
    ⊎ ((told ≡ trouble.Scripted) × IsFollowed options.fleet.homes old new)
    ⊎ ((new.ended ≡ true) × EndsAtStart options.fleet None options.anew told old new file beside)
    ⊎ ((client : ℕ) × (told ≡ trouble.NoPipes client) × EndsAtHall gives options client old new file beside)

-- A run was ready, and its log was not begun, or its site not kept beside it. Left, here and below, is what the file of the log holds then,
-- if it is given back.
pub record StopsOpening {X : Type 0} (gives : PlannerParts → Result X AllocError → Type 0) (options : ServeOptions) (fault : KeepFault) (old new : Input) (file : Option (List ℕ)) (left : Option (Option (List ℕ))) (beside : Siding) : Type 0 where
  pub site : Site
  pub run : Ready X
  pub ready : IsReady gives options old new file beside.before site run
  pub opened : Option (List ℕ)
  pub left_is : left ≡ Some opened
  pub failed : Bool
  pub why : IsWhyNotBoth fault run.start file opened failed beside.before beside.after beside.failed run.text.items

-- Why a log was not begun, and what its file holds then: it took it not, and the log of a run is still one that this goes on from; or memory ran
-- out, and the file is as it was or the log that was begun.
abbrev pub IsWhyUnbegun : Trouble → Start → (file holds : Option (List ℕ)) → Type 0
IsWhyUnbegun trouble.Unkept start file holds = IsLeft start file holds
IsWhyUnbegun trouble.NoMemory start file holds = (holds ≡ file) ⊎ StaysLog file holds start.book
IsWhyUnbegun _ start file holds = ⊥

-- the log of this start was not begun, and its file is given back
abbrev pub IsUnbegun : Trouble → Start → (file : Option (List ℕ)) → (left : Option (Option (List ℕ))) → Type 0
IsUnbegun told start file left =
    (begun : Start) × (opened holds : Option (List ℕ)) × IsOpened start begun file opened × (left ≡ Some holds) × IsWhyUnbegun told begun opened holds

-- why there is no history: the log was not begun, the first board was not shown, or there is none of the clients
abbrev pub IsWhyNoHistory : {D : Type 0} → (screen : Option D) → Trouble → Start → (file : Option (List ℕ)) → (left : Option (Option (List ℕ))) → Type 0
IsWhyNoHistory screen told start file left = IsUnbegun told start file left ⊎ IsWhyUnlived screen told

-- A run was ready, with its site beside its log, and came to no history.
pub record StopsAttending {X D : Type 0} (gives : PlannerParts → Result X AllocError → Type 0) (options : ServeOptions) (told : Trouble) (old new : Input) (file : Option (List ℕ)) (left : Option (Option (List ℕ))) (beside : Siding) (screen : Option D) : Type 0 where
  pub site : Site
  pub run : Ready X
  pub ready : IsReady gives options old new file beside.before site run
  pub is_set : IsSet beside run.text.items
  pub why : IsWhyNoHistory screen told run.start file left

-- Why a log was not kept to its end: the file failed, or memory ran out.
abbrev pub IsWhyUnkept : Trouble → Type 0
IsWhyUnkept trouble.Unkept = Unit {0}
IsWhyUnkept trouble.NoMemory = Unit {0}
IsWhyUnkept _ = ⊥

-- Why a run whose clients were served did not end well: its log was not kept to its end; or the screen did not take the last board.
abbrev pub IsWhyUnended : (last : Result Unit ShowFault) → Trouble → Type 0
IsWhyUnended last told = IsWhyUnkept told ⊎ ((fault : ShowFault) × (last ≡ Err fault) × (told ≡ trouble_of_show fault))

-- What a journal holds at a fault behind a run, which is given back: what it held, where it was not whole; else a front of what ends its
-- log follows.
abbrev pub LeavesRun : (is_whole : Bool) → Trouble → (ending : List ℕ) → (journal : Option (List ℕ)) → (left : Option (Option (List ℕ))) → Type 0
LeavesRun is_whole told ending journal left =
    (holds : Option (List ℕ)) × (left ≡ Some holds)
    × (((is_whole ≡ true) × WritesFront journal holds ending) ⊎ ((is_whole ≡ false) × (told ≡ trouble.Unkept) × (holds ≡ journal)))

-- all entries of a run stand in its log, and maybe a front of what ends it
abbrev pub HoldsAll : (holds : Option (List ℕ)) → Seen → Type 0
HoldsAll holds final = (log : Option (List ℕ)) × IsLogOfBook log final × WritesFront log holds (ending_of final)

-- its first entries stand there, and maybe a front of the lines of the next ones
pub record HoldsFirst (holds : Option (List ℕ)) (final : Seen) : Type 0 where
  pub head : List ℕ
  pub is_head : IsHeadOf final.opening head
  pub synced : Option (List ℕ)
  pub journal : IsJournalOf (Some head) holds synced final.history false

-- The file of the log, if it tells its bytes, is given back with all entries of the run; or, where it failed, with the first of them.
abbrev pub HoldsRun : Trouble → (file : Option (List ℕ)) → Seen → (left : Option (Option (List ℕ))) → Type 0
HoldsRun told file final left =
    IfSome file (λ _. (holds : Option (List ℕ)) × (left ≡ Some holds) × (HoldsAll holds final ⊎ ((told ≡ trouble.Unkept) × HoldsFirst holds final)))

-- The clients of a run were served, and boards were shown as far as may be; and its log was not kept to its end.
pub record AttendsUnkept {R W X : Type 0} (fits : X → Floor → Bool) (count : X → ℕ) (remaining : R → Option (List ℕ)) (contents : W → Option (List ℕ)) (gives : PlannerParts → Result X AllocError → Type 0) (options : ServeOptions)
    (told : Trouble) (old new : Input) (file : Option (List ℕ)) (left : Option (Option (List ℕ))) (beside : Siding) (showed shows : Option (Option (List (List ℕ)))) : Type 0 where
  pub site : Site
  pub run : Ready X
  pub ready : IsReady gives options old new file beside.before site run
  pub is_set : IsSet beside run.text.items
  pub final : Seen
  pub serves : Serves fits count remaining contents options site run final
  pub why : IsWhyUnkept told
  pub holds : HoldsRun told file final left
  pub last : Result Unit ShowFault
  pub boards : ShowsRun run final last showed shows

-- The clients of a run were served, and its log was kept to its end; but the screen did not take the board of the whole run.
pub record AttendsUnshown {R W X : Type 0} (fits : X → Floor → Bool) (count : X → ℕ) (remaining : R → Option (List ℕ)) (contents : W → Option (List ℕ)) (gives : PlannerParts → Result X AllocError → Type 0) (options : ServeOptions)
    (told : Trouble) (old new : Input) (file : Option (List ℕ)) (left : Option (Option (List ℕ))) (beside : Siding) (showed shows : Option (Option (List (List ℕ)))) : Type 0 where
  pub fault : ShowFault
  pub told_is : told ≡ trouble_of_show fault
  pub site : Site
  pub run : Ready X
  pub ready : IsReady gives options old new file beside.before site run
  pub is_set : IsSet beside run.text.items
  pub final : Seen
  pub serves : Serves fits count remaining contents options site run final
  pub holds : HoldsRun told file final left
  pub boards : ShowsRun run final (Err fault) showed shows

-- Why it ended otherwise, the earlier first. Before the run is ready the file of the log, which is given back, and the one beside it are as they
-- were; once the clients were served the file of the log holds their run.
abbrev pub IsWhyUnattended : {R W X : Type 0} → (X → Floor → Bool) → (X → ℕ) → (R → Option (List ℕ)) → (W → Option (List ℕ)) → (PlannerParts → Result X AllocError → Type 0) → ServeOptions → Trouble
    → (old new : Input) → (file : Option (List ℕ)) → (left : Option (Option (List ℕ))) → Siding → (showed shows : Option (Option (List (List ℕ)))) → Type 0
IsWhyUnattended fits count remaining contents gives options told old new file left beside showed shows =
    (IsWhyUnready gives options told old new file beside.before × (left ≡ Some file) × IsUntouched beside)
    ⊎ ((fault : KeepFault) × (told ≡ keep_trouble fault) × StopsOpening gives options fault old new file left beside)
    ⊎ StopsAttending gives options told old new file left beside showed
    ⊎ AttendsUnkept fits count remaining contents gives options told old new file left beside showed shows
    ⊎ AttendsUnshown fits count remaining contents gives options told old new file left beside showed shows

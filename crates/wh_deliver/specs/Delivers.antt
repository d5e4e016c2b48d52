-- What is delivered behind a script, kept and told.
use Rattle.std.specs.Prelude.{◌≡◌, ◌⊎◌, ◌+◌, ◌*◌, ◌<◌, ◌≤◌, ℕ, Bool, true, false, List, [], ◌∷◌, length, drop, Option}
use Rattle.std.specs.Io.KnownBytes.{Appends}
use Rattle.wh_lines.specs.Output.{WritesFront}
use Rattle.wh_tasks.specs.declared.task.Task.{Task}
use Rattle.wh_tasks.specs.declared.task.Phase.{Phase}
use Rattle.wh_tasks.specs.Tasks.{IsTask, IsOpen, phase}
use Rattle.wh_core.specs.States.{State}
use Rattle.wh_core.specs.Steps.{last_clock}
use Rattle.wh_core.specs.Laws.{AllOnTheirWays}
use Rattle.wh_event.specs.declared.entry.Entry.{Entry}
use Rattle.wh_log.specs.Told.{Answered, told_text}
use Rattle.wh_book.specs.Drafts.{Seen, HasWaysForAll}
use Rattle.wh_session.specs.Machines.{Records}
use Rattle.wh_replay.specs.declared.asker.Asker.{Asker}
use Rattle.wh_replay.specs.Answers.{clock_after, text_of}
use Rattle.wh_replay.specs.Appending.{lines_for, logged}
use Rattle.wh_progress.specs.Progress.{span, open_tasks, left_to_do, first_paths_left, HaveAtMost, AreOfTwoPlaces, StandsStill, IsHeld, AllDone}
use Rattle.wh_progress.specs.Laws.{NoneCanStand}
use Rattle.wh_delivery.specs.Deliveries.{GoesOn, IsStuck}
use Rattle.wh_deliver.specs.declared.delivering.DeliverFault.{DeliverFault}
use Rattle.wh_deliver.specs.declared.delivering.DeliverFault.TheVariants.{NoMemory, TooMany, Unkept, Unwritten}

-- the warehouse is closed, or its clock is at its last
abbrev pub IsOver : State → Type 0
IsOver s = (s.closed ≡ true) ⊎ (s.clock ≡ last_clock)

-- These requests and ticks of the caller were done. None were where it was over.
pub record Does (caller : ℕ) (old : Seen) (added : List Entry) (new : Seen) : Type 0 where
  pub goes : GoesOn caller old added new
  pub over : IsOver old.state → added ≡ []

-- All stands still, after so many ticks. Where all were on their ways as the run began: where paths go on home to parkings, or each task has its stops at two cells at most, all are done;
-- where paths end at the last stop each task is done, or two agents hold it. On a well-formed instance it takes no more ticks than rounds
-- were left to do; where paths end at the last stop, at most two spans for each agent and each open task, and the steps that were left of the
-- paths with which the run began.
pub record IsDelivered (old new : Seen) : Type 0 where
  pub ticks : ℕ
  pub clock : new.state.clock ≡ old.state.clock + ticks
  pub still : StandsStill new.site new.state
  pub held : AllOnTheirWays old.site old.opening → old.site.homes ≡ false → 0 < length old.site.layout.agents → (n : ℕ) (task : Task) → IsTask new.state.tasks n task
      → (phase task ≡ Phase.Done) ⊎ (IsOpen task × IsHeld new.state task)
  pub all_done : AllOnTheirWays old.site old.opening → 0 < length old.site.layout.agents → NoneCanStand old.site old.state → AllDone new.state
  pub done : AllOnTheirWays old.site old.opening → old.site.homes ≡ false → 0 < length old.site.layout.agents → AreOfTwoPlaces old.state → AllDone new.state
  pub within : (stops : ℕ) → HasWaysForAll old.site old.opening → HaveAtMost stops old.state → ticks ≤ left_to_do old.site stops old.state
  pub bounded : old.site.homes ≡ false → (stops : ℕ) → HasWaysForAll old.site old.opening → HaveAtMost stops old.state
      → ticks ≤ 2 * span old.site stops * (length old.site.layout.agents + open_tasks old.state) + first_paths_left old.opening old.state

-- The clock came to its last. On a well-formed instance it had no more ticks left than that bound.
pub record IsLate (old new : Seen) : Type 0 where
  pub last : new.state.clock ≡ last_clock
  pub within : (stops : ℕ) → HasWaysForAll old.site old.opening → HaveAtMost stops old.state → last_clock ≤ old.state.clock + left_to_do old.site stops old.state
  pub late : old.site.homes ≡ false → (stops : ℕ) → HasWaysForAll old.site old.opening → HaveAtMost stops old.state
      → last_clock ≤ old.state.clock + 2 * span old.site stops * (length old.site.layout.agents + open_tasks old.state) + first_paths_left old.opening old.state

-- All stand, and what is left to do finds no path: so on no well-formed instance.
pub record EndsStuck (old new : Seen) : Type 0 where
  pub stuck : IsStuck new.site new.state
  pub unformed : ¬ HasWaysForAll old.site old.opening

-- all stands still, or it is closed, or out of time, or stuck
abbrev pub ComesToRest : (old new : Seen) → Type 0
ComesToRest old new = IsDelivered old new ⊎ (new.state.closed ≡ true) ⊎ IsLate old new ⊎ EndsStuck old new

-- What entries are told as, one after another, where the first of them has this place in the history, from 0, and finds the clock so. Text, here and
-- below, says what a reply is told as.
abbrev pub replies_of : (Answered → List ℕ) → ℕ → ℕ → List Entry → List (List ℕ)
replies_of text place clock [] = []
replies_of text place clock (entry ∷ entries) =
    text (record { place = place; clock = clock; reply = entry.reply }) ∷ replies_of text (place + 1) (clock_after clock entry.reply) entries

-- The entries from this place on, the first of which found the clock so, were kept and then told, and are no more than they may be. Keeps and
-- leaves, here and below, say what a keeper did.
pub record Settles {H : Type 0} (keeps : H → Records → H → Type 0) (most : ℕ) (text : Answered → List ℕ) (clock : ℕ) (history : List Entry) (first : ℕ)
    (had has : Option (List ℕ)) (stood holds : H) : Type 0 where
  pub few : length history ≤ most
  pub kept : keeps stood (logged (lines_for (drop first history))) holds
  pub told : Appends had has (text_of (replies_of text first clock (drop first history)))

-- What of the records is kept at a fault: all of them, or none where there are too many, or what a failed call of the keeper leaves.
abbrev pub KeepsShort : {H : Type 0} → (keeps leaves : H → Records → H → Type 0) → DeliverFault → (stood : H) → Records → (holds : H) → Type 0
KeepsShort keeps leaves NoMemory stood records holds = keeps stood records holds
KeepsShort keeps leaves TooMany stood records holds = holds ≡ stood
KeepsShort keeps leaves Unkept stood records holds = leaves stood records holds
KeepsShort keeps leaves Unwritten stood records holds = keeps stood records holds

-- What of the text is told at a fault, and by how many entries the history then has: all, or none, or a front where the writer failed.
abbrev pub TellsShort : DeliverFault → (most entries : ℕ) → (text : List ℕ) → (had has : Option (List ℕ)) → Type 0
TellsShort NoMemory most entries text had has = (entries ≤ most) × Appends had has text
TellsShort TooMany most entries text had has = (most < entries) × (has ≡ had)
TellsShort Unkept most entries text had has = (entries ≤ most) × (has ≡ had)
TellsShort Unwritten most entries text had has = (entries ≤ most) × WritesFront had has text

-- the entries were not kept, or not told, or there are too many
pub record SettlesShort {H : Type 0} (keeps leaves : H → Records → H → Type 0) (fault : DeliverFault) (most : ℕ) (text : Answered → List ℕ) (clock : ℕ) (history : List Entry) (first : ℕ)
    (had has : Option (List ℕ)) (stood holds : H) : Type 0 where
  pub has_memory : fault ≡ NoMemory → ⊥
  pub kept : KeepsShort keeps leaves fault stood (logged (lines_for (drop first history))) holds
  pub told : TellsShort fault most (length history) (text_of (replies_of text first clock (drop first history))) had has

-- what these entries are told as, which were added to the book
abbrev pub told_as : (Answered → List ℕ) → Seen → List Entry → List ℕ
told_as text old added = text_of (replies_of text (length old.history) old.state.clock added)

-- Requests and ticks of the asker brought all to rest, and their replies were told.
pub record Delivers (asker : Asker) (most : ℕ) (old new : Seen) (added : List Entry) (had has : Option (List ℕ)) : Type 0 where
  pub does : Does asker.caller old added new
  pub rests : ComesToRest old new
  pub few : length new.history ≤ most
  pub told : Appends had has (told_as (told_text asker.form) old added)

-- They did not: memory ran out, and what was done until then was told; or it was not told, or not all of it.
pub record DeliversShort (fault : DeliverFault) (asker : Asker) (most : ℕ) (old new : Seen) (added : List Entry) (had has : Option (List ℕ)) : Type 0 where
  pub does : Does asker.caller old added new
  pub told : TellsShort fault most (length new.history) (told_as (told_text asker.form) old added) had has

-- this, where it is asked for; else nothing
abbrev pub MayDeliver : (is_asked : Bool) → Asker → (most : ℕ) → (old new : Seen) → (added : List Entry) → (had has : Option (List ℕ)) → Type 0
MayDeliver false asker most old new added had has = (new ≡ old) × (added ≡ []) × (has ≡ had)
MayDeliver true asker most old new added had has = Delivers asker most old new added had has

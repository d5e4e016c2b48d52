-- how the logs of a chain follow one another: each goes on from where the one before has come to
use Rattle.std.proofs.Common.{inl, inr}
use Rattle.std.specs.Prelude.{◌≡◌, ◌≢◌, ◌⊎◌, ℕ, ◌+◌, Bool, true, false, List, [], ◌∷◌, ◌++◌, take, length, slice_get, count_by, Option, None, Some}
use Rattle.wh_text.specs.Lines.{is_line_feed}
use Rattle.wh_points.specs.Points.{Site}
use Rattle.wh_core.specs.States.{State}
use Rattle.wh_core.specs.Steps.{Run}
use Rattle.wh_core.specs.Stopping.{made_of}
use Rattle.wh_tasks.specs.declared.task.Task.{Task}
use Rattle.wh_tasks.specs.Tasks.{IsTask, visited}
use Rattle.wh_front.specs.declared.front.Front.{Front}
use Rattle.wh_front.specs.declared.front.Seat.{Seat}
use Rattle.wh_front.specs.declared.front.Submission.{Submission}
use Rattle.wh_front.specs.declared.rules.Kind.{Kind}
use Rattle.wh_front.specs.declared.rules.Kind.TheVariants as kind
use Rattle.wh_front.specs.Fronts.{Fits, front_text}
use Rattle.wh_front.specs.FirstBad.{IsFirstBad}
use Rattle.wh_handover.specs.Handing.{Told, Tells, HoldsFirst, HoldsLater, IsHandover, IsWhyNone, text_to}
use Rattle.wh_handover.specs.declared.front.HandoverFault.{HandoverFault}
use Rattle.wh_handover.specs.declared.front.HandoverFault.TheVariants as fault
use Rattle.wh_handover.specs.declared.chain.Linked.{Linked}
use Rattle.wh_handover.specs.declared.chain.LinkFault.{LinkFault}
use Rattle.wh_handover.specs.declared.chain.LinkFault.TheVariants as faults

-- ---- where a log goes on
-- an item as the other has it, if there is one
abbrev pub match_with : {X : Type 0} → (X → X → X) → X → Option X → X
match_with f x None = x
match_with f x (Some other) = f x other

-- each item as the other of its place has it, if there is one
abbrev pub matched : {X : Type 0} → (X → X → X) → List X → List X → List X
matched f [] others = []
matched f (x ∷ xs) [] = x ∷ xs
matched f (x ∷ xs) (other ∷ others) = f x other ∷ matched f xs others

-- an agent with its slots, at rest where the other's path begins
abbrev pub at_rest_as : Seat → Seat → Seat
at_rest_as seat other = record { slots = seat.slots; path = take 1 other.path }

-- a task with no more of its visits than the other has: without one it is open again
abbrev pub as_far_as : Submission → Submission → Submission
as_far_as told other = record { caller = told.caller; task = made_of (visited other.task) told.task }

-- A log has come to what the front `whole` tells. The front with which the next begins is due to be that one; or, where vehicles were
-- stopped, that one with each agent at rest somewhere, and of each task some of its visits, from the first on; or, where somebody has edited
-- it, one that names the same log before and the same counts.
abbrev pub due_by : Kind → Front → Front → Front
due_by kind.Whole whole front = whole
due_by kind.Stopped whole front = record whole { kind = kind.Stopped; seats = matched at_rest_as whole.seats front.seats; tasks = matched as_far_as whole.tasks front.tasks }
due_by kind.Edited whole front = record front { before = whole.before; counts = whole.counts }

abbrev pub due : Front → Front → Front
due whole front = due_by front.kind whole front

-- ---- the logs
-- The first log of a chain begins as it may; on a later one a front is due, with which it begins.
abbrev pub Joins : Option Front → (text : List ℕ) → Option Kind → Type 0
Joins None text joined = joined ≡ None
Joins (Some whole) text joined =
    (front : Front) × (rest : List ℕ) × Fits front × (text ≡ front_text front ++ rest) × (front_text (due whole front) ≡ front_text front) × (joined ≡ Some front.kind)

-- whether the log has its last line
abbrev pub is_ended : {site : Site} {text : List ℕ} {told : Told} → HoldsFirst site text told ⊎ HoldsLater site text told → Bool
is_ended (inl first) = first.is_ended
is_ended (inr later) = later.is_ended

-- what is due on the log behind this one, if there is one
abbrev pub IsDueBehind : Site → (text : List ℕ) → (goes_on : Bool) → Option Front → Type 0
IsDueBehind site text false next = next ≡ None
IsDueBehind site text true next = (whole : Front) × IsHandover site text None whole × (next ≡ Some whole)

-- The text is the log of a run that goes on from where the one before has come to.
pub record IsLink (site : Site) (before : Option Front) (text : List ℕ) (goes_on : Bool) (link : Linked) : Type 0 where
  pub told : Told
  pub tells : Tells site text told
  pub joins : Joins before text link.joined
  pub entries_are : link.entries ≡ length told.entries
  pub lines_are : link.lines ≡ count_by is_line_feed (text_to (length told.entries) told)
  pub ended_is : link.is_ended ≡ is_ended tells.holds
  pub next : IsDueBehind site text goes_on link.next
  pub setting_is : link.setting ≡ site

-- two texts go on otherwise
abbrev pub StartOtherwise : List ℕ → List ℕ → Type 0
StartOtherwise rest other = slice_get rest 0 ≢ slice_get other 0

-- the line, from 1, with the first byte that two texts have otherwise
pub record IsFirstOther (text other : List ℕ) (line : ℕ) : Type 0 where
  pub same : List ℕ
  pub rest : List ℕ
  pub others : List ℕ
  pub text_is : text ≡ same ++ rest
  pub other_is : other ≡ same ++ others
  pub otherwise : StartOtherwise rest others
  pub line_is : line ≡ count_by is_line_feed same + 1

-- The text begins with no front, or with another than is due: this is the first line with which none goes on, or that is otherwise.
abbrev pub IsOther : Front → (text : List ℕ) → (line : ℕ) → Type 0
IsOther whole text line =
    IsFirstBad text line
    ⊎ ((front : Front) × (rest : List ℕ) × Fits front × (text ≡ front_text front ++ rest) × IsFirstOther (front_text (due whole front)) (front_text front) line)

abbrev pub IsOtherwise : Front → (text : List ℕ) → LinkFault → Type 0
IsOtherwise whole text (faults.Bad line) = IsOther whole text line
IsOtherwise whole text faults.NoMemory = Unit {0}

-- on the text a front is due, and it begins otherwise
abbrev pub BeginsOtherwise : Option Front → (text : List ℕ) → LinkFault → Type 0
BeginsOtherwise None text why = ⊥
BeginsOtherwise (Some whole) text why = IsOtherwise whole text why

-- the first bad line of a log that tells no state to go on from
abbrev pub fault_of : HandoverFault → LinkFault
fault_of fault.Empty = faults.Bad 1
fault_of (fault.Flawed line reason) = faults.Bad line
fault_of (fault.Bad line) = faults.Bad line
fault_of fault.NoMemory = faults.NoMemory

-- Why a text is no such log: it begins otherwise than is due; or it tells no state to go on from.
abbrev pub IsWhyUnlinked : Site → Option Front → (text : List ℕ) → LinkFault → Type 0
IsWhyUnlinked site before text why =
    BeginsOtherwise before text why ⊎ ((told : HandoverFault) × IsWhyNone site text None told × (why ≡ fault_of told))

-- ---- laws
-- Where a log begins with the very state to which the one before has led, their entries are one run.
abbrev pub WholeJoinsAreOneRun : Type 0
WholeJoinsAreOneRun =
    (site : Site) (first second : List ℕ) (whole : Front) (led : IsHandover site first None whole) (other : Told) → Joins (Some whole) second (Some kind.Whole) → Tells site second other
    → (state : State) × Run site led.told.opening (led.told.entries ++ other.entries) state

-- Where vehicles were stopped in between, the next log begins with each task as it was, but with the first so many of its visits.
abbrev pub StoppedJoinsKeepTasks : Type 0
StoppedJoinsKeepTasks =
    (site : Site) (first second : List ℕ) (whole : Front) (led : IsHandover site first None whole) (other : Told) → Joins (Some whole) second (Some kind.Stopped) → Tells site second other
    → (length other.opening.tasks ≡ length led.state.tasks)
    × ((n : ℕ) (task : Task) → IsTask led.state.tasks n task → (seen : ℕ) × IsTask other.opening.tasks n (made_of seen task))

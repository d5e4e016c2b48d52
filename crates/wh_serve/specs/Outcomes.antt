-- what came of the commands of lines, and how the lines are answered
use Rattle.std.specs.Prelude.{◌≡◌, ◌+◌, ◌≤◌, ◌⊎◌, ℕ, Bool, List, [], ◌∷◌, ◌++◌, length, drop, codes, cond, Result, Ok, Err}
use mathlib.Core.List.{IsPrefix}
use Rattle.wh_grid.specs.Grids.{Floor}
use Rattle.wh_event.specs.declared.event.Command.{Command}
use Rattle.wh_event.specs.declared.entry.Entry.{Entry}
use Rattle.wh_event.specs.declared.fault.LineFault.{LineFault}
use Rattle.wh_event.specs.declared.fault.LineFault.TheVariants.{Form, TooLong}
use Rattle.wh_desk.specs.Lists.{Received}
use Rattle.wh_crew.specs.Work.{Takes}
use Rattle.wh_crew.specs.Work as work
use Rattle.wh_serve.specs.Allowances.{MayCall, IsWhyNone}
use Rattle.wh_serve.specs.Sayings.{asked, commands_of, says}
use Rattle.wh_serve.specs.declared.allowance.Allowance.{Allowance}
use Rattle.wh_serve.specs.declared.allowance.Rights.{Rights}
use Rattle.wh_serve.specs.declared.call.NoReceipt.{NoReceipt}
use Rattle.wh_serve.specs.declared.call.NoReceipt.TheVariants as without
use Rattle.wh_serve.specs.declared.said.Said.{Said}
use Rattle.wh_serve.specs.declared.said.Said.TheVariants.{Nothing, Asks, Stop, NoCommand}
use Rattle.wh_desk.specs.declared.answer.DeskFault.TheVariants as fault
use Rattle.wh_serve.specs.Texts as texts

-- what came of a command: the receipt's position and entry, or why there is none
abbrev pub Outcome : Type 0
Outcome = Result (ℕ × Entry) NoReceipt

-- the receipts among the outcomes
abbrev pub receipts_of : List Outcome → List (ℕ × Entry)
receipts_of [] = []
receipts_of (Ok receipt ∷ outcomes) = receipt ∷ receipts_of outcomes
receipts_of (Err without ∷ outcomes) = receipts_of outcomes

abbrev pub outcome_text : (ℕ × Entry → List ℕ) → Outcome → List ℕ
outcome_text text (Ok receipt) = text receipt
outcome_text text (Err without) = texts.without_text without

-- what the fault of a line is told as
abbrev pub line_text : LineFault → List ℕ
line_text Form = codes "refused C1"
line_text TooLong = codes "refused C2"

-- what `stop` is answered, by whether the client has the right to it
abbrev pub stop_text : Rights → List ℕ
stop_text rights = cond rights.stop (codes "stopped") (texts.without_text without.Barred)

-- What a line is answered. A line that asks for nothing is answered nothing, and one that is no command its fault; `stop` by the
-- right to it; for a command it is told by the first outcome.
abbrev pub answers : Rights → (ℕ × Entry → List ℕ) → Said → List Outcome → List (List ℕ)
answers rights text Nothing outcomes = []
answers rights text (NoCommand fault) outcomes = line_text fault ∷ []
answers rights text Stop outcomes = stop_text rights ∷ []
answers rights text (Asks command) [] = []
answers rights text (Asks command) (outcome ∷ outcomes) = outcome_text text outcome ∷ []

-- the replies to lines, line by line, where their commands have these outcomes
abbrev pub replies_to : Rights → (ℕ × Entry → List ℕ) → List (List ℕ) → List Outcome → List (List ℕ)
replies_to rights text [] outcomes = []
replies_to rights text (line ∷ lines) outcomes =
    answers rights text (says line) outcomes ++ replies_to rights text lines (drop (length (asked (says line))) outcomes)

-- What came of a command of a client with a given number of entries. A receipt answers the command, and takes the spare that its event
-- tells; without one no spare is taken, and it is told why.
abbrev pub Moves : {X : Type 0} → Allowance → (X → Floor → Bool) → (X → ℕ) → Floor → ℕ → Command → Outcome → List X → List X → Type 0
Moves may fits count grid held command (Ok receipt) spares left =
    MayCall may held command × (work.command_of receipt.1.event ≡ command) × Takes fits count grid receipt.1.event spares left
Moves may fits count grid held command (Err without) spares left = IsWhyNone may held command without × (left ≡ spares)

-- the commands of a client with a given number of entries, one after another, each with its outcome
abbrev pub Made : {X : Type 0} → Allowance → (X → Floor → Bool) → (X → ℕ) → Floor → ℕ → List Command → List Outcome → List X → List X → Type 0
Made may fits count grid held [] [] spares rest = rest ≡ spares
Made {X} may fits count grid held (command ∷ commands) (outcome ∷ outcomes) spares rest =
    (left : List X) × Moves may fits count grid held command outcome spares left
    × Made may fits count grid (held + length (receipts_of (outcome ∷ []))) commands outcomes left rest
Made may fits count grid held [] (outcome ∷ outcomes) spares rest = ⊥
Made may fits count grid held (command ∷ commands) [] spares rest = ⊥

-- a call was refused since the journal is full
abbrev pub HasFull : List Outcome → Type 0
HasFull [] = ⊥
HasFull (outcome ∷ outcomes) = (outcome ≡ Err (without.Refused fault.Full)) ⊎ HasFull outcomes

-- The commands had these outcomes, one after another, by calls of the desk where the client may make them, and these tell the
-- replies. What the pass gained are the receipts, in order, and nothing else. What it knows of goes on, and where a call was
-- refused since the journal is full, it knows of a history with an entry for each cell. Fits and count say what a planner
-- returns.
pub record Gives {X : Type 0} (may : Allowance) (cells : ℕ) (fits : X → Floor → Bool) (count : X → ℕ) (grid : Floor) (commands : List Command) (told : List Outcome → List (List ℕ))
    (old : Received) (spares : List X) (new : Received) (rest : List X) (replies : List (List ℕ)) : Type 0 where
  pub outcomes : List Outcome
  pub replies_are : replies ≡ told outcomes
  pub made : Made may fits count grid (length old.list) commands outcomes spares rest
  pub caller_is : new.caller ≡ old.caller
  pub gained : new.list ≡ old.list ++ receipts_of outcomes
  pub known : IsPrefix old.known new.known
  pub filled : HasFull outcomes → cells ≤ length new.known

-- the output of lines: line by line nothing for one that is skipped, its fault for one that is no command, what the right gives for
-- `stop`, and for a command what its call was answered
abbrev pub IsOutputOf : {X : Type 0} → Allowance → ℕ → (X → Floor → Bool) → (X → ℕ) → Floor → (ℕ × Entry → List ℕ) → List (List ℕ) → Received → List X → Received → List X → List (List ℕ) → Type 0
IsOutputOf may cells fits count grid text lines old spares new rest replies = Gives may cells fits count grid (commands_of lines) (replies_to may.rights text lines) old spares new rest replies

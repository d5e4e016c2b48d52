-- What a call of the desk came to, by its answer.
use Rattle.std.proofs.Common.{◌≡◌, ℕ, List, Bool, Option, None, Result, Ok, Err, IfOk, IfErr, refl, ap, sym, ◌∙◌, subst}
use Rattle.std.specs.Result.{result_err}
use mathlib.Core.List.{IsPrefix}
use Rattle.wh_grid.specs.Grids.{Floor}
use Rattle.wh_event.specs.declared.entry.Entry.{Entry}
use Rattle.wh_event.specs.declared.event.Event.{Event}
use Rattle.wh_event.specs.declared.event.Spare.{Spare}
use Rattle.wh_event.specs.declared.event.Command.{Command}
use Rattle.wh_desk.specs.Commands.{event_of}
use Rattle.wh_desk.specs.Pasts.{Origin}
use Rattle.wh_desk.specs.Lists.{Received}
use Rattle.wh_desk.specs.Calls.{Called, Refuses}
use Rattle.wh_desk.specs.declared.answer.DeskFault.{DeskFault}
use Rattle.wh_desk.specs.declared.answer.Receipt.{Receipt}
use Rattle.wh_crew.specs.Work.{command_of, Takes, Tried}
use Rattle.wh_crew.proofs.Calls.{command_back}

-- the command is no Replace
abbrev pub TakesNone : Command → Type 0
TakesNone (Command.Replace agent) = ⊥
TakesNone command = Unit {0}

takes_none : {X : Type 0} (fits : X → Floor → Bool) (count : X → ℕ) (grid : Floor) (command : Command) (told : Spare) (spares : List X) → TakesNone command → Takes fits count grid (event_of command told) spares spares
takes_none fits count grid (Command.Submit client stops) told spares none = refl
takes_none fits count grid (Command.Token agent) told spares none = refl
takes_none fits count grid Command.Tick told spares none = refl
takes_none fits count grid (Command.Replace agent) told spares none = absurd none
takes_none fits count grid Command.Close told spares none = refl

-- an answer to a call
pub tried_receipt : {X : Type 0} (fits : X → Floor → Bool) (count : X → ℕ) (grid : Floor) (cells : ℕ) {origin : Origin} {command : Command} {had has : Received} {position : ℕ} {entry : Entry} (spares left : List X)
    → Called origin had command has position entry → Takes fits count grid entry.event spares left → Tried fits count grid cells command had spares None has left
tried_receipt fits count grid cells {origin} {command} {had} {has} {position} {entry} spares left called takes = (
  (position, entry),
  ap command_of called.command_is.1 ∙ command_back command called.command_is.0,
  called.has_caller,
  called.has_list,
  takes,
  subst (λ (l : List Entry). IsPrefix had.known l) (sym called.has_known) called.goes_on,
)

-- what a call came to that takes no spare
pub tried : {X : Type 0} (fits : X → Floor → Bool) (count : X → ℕ) (grid : Floor) (cells : ℕ) (origin : Origin) (command : Command) (had has : Received) (spares : List X) (answer : Result Receipt DeskFault) (why : Option DeskFault)
    → why ≡ result_err answer → IfOk answer (λ r. Called origin had command has r.position r.entry) → IfErr answer (λ fault. Refuses cells had fault has) → TakesNone command
    → Tried fits count grid cells command had spares why has spares
tried {X} fits count grid cells origin command had has spares (Ok r) why is called refused none =
    subst (λ (w : Option DeskFault). Tried fits count grid cells command had spares w has spares) (sym is)
    (tried_receipt fits count grid cells spares spares called
    (subst (λ (e : Event). Takes fits count grid e spares spares) (sym called.command_is.1) (takes_none fits count grid command called.command_is.0 spares none)))
tried {X} fits count grid cells origin command had has spares (Err fault) why is called refused none =
    subst (λ (w : Option DeskFault). Tried fits count grid cells command had spares w has spares) (sym is) (refused, refl)

-- the same of the command that was asked
pub tried_as : {X : Type 0} (fits : X → Floor → Bool) (count : X → ℕ) (grid : Floor) (cells : ℕ) (origin : Origin) (command asked : Command) (had has : Received) (spares : List X) (answer : Result Receipt DeskFault) (why : Option DeskFault)
    → command ≡ asked → why ≡ result_err answer → IfOk answer (λ r. Called origin had asked has r.position r.entry) → IfErr answer (λ fault. Refuses cells had fault has) → TakesNone asked
    → Tried fits count grid cells command had spares why has spares
tried_as {X} fits count grid cells origin command asked had has spares answer why same is called refused none =
    subst (λ (c : Command). Tried fits count grid cells c had spares why has spares) (sym same)
    (tried fits count grid cells origin asked had has spares answer why is called refused none)

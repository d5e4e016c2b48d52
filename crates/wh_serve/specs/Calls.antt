-- what a command of a client came to
use Rattle.std.specs.Prelude.{◌≡◌, ℕ, Bool, List, length}
use Rattle.wh_grid.specs.Grids.{Floor}
use Rattle.wh_event.specs.declared.entry.Entry.{Entry}
use Rattle.wh_event.specs.declared.event.Command.{Command}
use Rattle.wh_desk.specs.Lists.{Received}
use Rattle.wh_desk.specs.Calls.{Refuses}
use Rattle.wh_desk.specs.Pasts.{Origin}
use Rattle.wh_scribe.specs.Calls.{Receives}
use Rattle.wh_serve.specs.Texts.{InEach, clock_at}
use Rattle.wh_serve.specs.Allowances.{MayCall, IsWhyNone}
use Rattle.wh_serve.specs.declared.allowance.Allowance.{Allowance}
use Rattle.wh_serve.specs.declared.call.NoReceipt.{NoReceipt}
use Rattle.wh_serve.specs.declared.call.NoReceipt.TheVariants as without
use Rattle.wh_serve.specs.declared.call.Lost.TheVariants as lost
use Rattle.wh_serve.specs.declared.call.Came.{Came}
use Rattle.wh_serve.specs.declared.call.Came.TheVariants as came

-- what is left of a pass where a command has no receipt: all as it was, but for what a refusal of the desk tells
abbrev pub Leaves : ℕ → Received → NoReceipt → Received → Type 0
Leaves cells had (without.Refused fault) has = Refuses cells had fault has
Leaves cells had without.Barred has = has ≡ had
Leaves cells had without.ShareUsed has = has ≡ had

-- A command that may be called has a receipt, or it is told why it has none, and then no spare is taken. Where the journal had
-- failed, all is as it was; where it failed at the call, the pass has the receipt, which is told to nobody.
abbrev pub Comes : {X : Type 0} → Allowance → ℕ → (X → Floor → Bool) → (X → ℕ) → Floor → Command → Received → List X → Received → List X → Came → Type 0
Comes may cells fits count grid command had spares has left (came.Receipt receipt) =
    MayCall may (length had.list) command × Receives fits count grid command had spares (receipt.position, receipt.entry) has left
Comes may cells fits count grid command had spares has left (came.Without why) =
    IsWhyNone may (length had.list) command why × Leaves cells had why has × (left ≡ spares)
Comes may cells fits count grid command had spares has left (came.Lost lost.Failed) = (has ≡ had) × (left ≡ spares)
Comes may cells fits count grid command had spares has left (came.Lost lost.Unkept) =
    MayCall may (length had.list) command × ((receipt : ℕ × Entry) × Receives fits count grid command had spares receipt has left)

-- a receipt tells the clock before its place
abbrev pub TellsClock : Origin → List Entry → Came → Type 0
TellsClock origin known (came.Receipt receipt) = InEach known (λ history. receipt.clock ≡ clock_at origin history receipt.position)
TellsClock origin known (came.Without why) = Unit {0}
TellsClock origin known (came.Lost why) = Unit {0}

-- what a client may do
use Rattle.std.specs.Prelude.{◌≡◌, ◌<◌, ◌≤◌, ℕ, Bool, true, false}
use Rattle.wh_event.specs.declared.event.Command.{Command}
use Rattle.wh_event.specs.declared.event.Command.TheVariants as command
use Rattle.wh_serve.specs.declared.allowance.Rights.{Rights}
use Rattle.wh_serve.specs.declared.allowance.Allowance.{Allowance}
use Rattle.wh_serve.specs.declared.call.NoReceipt.{NoReceipt}
use Rattle.wh_serve.specs.declared.call.NoReceipt.TheVariants as without

-- whether these rights allow a command
abbrev pub allows : Rights → Command → Bool
allows rights (command.Submit client stops) = rights.submit
allows rights (command.Token agent) = rights.token
allows rights command.Tick = rights.tick
allows rights (command.Replace agent) = rights.replace
allows rights command.Close = rights.close

-- A command of a client with a given number of entries may be called: it has the right to it, and may have an entry more.
abbrev pub MayCall : Allowance → ℕ → Command → Type 0
MayCall may held asked = (allows may.rights asked ≡ true) × (held < may.entries)

-- Why it has no receipt. The desk is called only where that may be.
abbrev pub IsWhyNone : Allowance → ℕ → Command → NoReceipt → Type 0
IsWhyNone may held asked without.Barred = allows may.rights asked ≡ false
IsWhyNone may held asked without.ShareUsed = (allows may.rights asked ≡ true) × (may.entries ≤ held)
IsWhyNone may held asked (without.Refused fault) = MayCall may held asked

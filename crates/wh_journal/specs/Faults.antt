-- what a script came to whose session came to this, and why it was not served to its end
use Rattle.std.specs.Prelude.{◌≡◌, ◌≤◌, ◌^◌, ◌-◌, ◌⊎◌, ℕ, Bool, true}
use Rattle.wh_lines.specs.Input.{Input}
use Rattle.wh_session.specs.declared.fault.Round.{Round as Part}
use Rattle.wh_session.specs.declared.fault.Round.TheVariants as parts
use Rattle.wh_session.specs.declared.fault.SessionFault.{SessionFault}
use Rattle.wh_session.specs.declared.fault.SessionFault.TheVariants as faults
use Rattle.wh_journal.specs.declared.fault.JournaledFault.{JournaledFault}
use Rattle.wh_journal.specs.declared.fault.JournaledFault.TheVariants.{Broken, Endless, Unwritten, Unjournaled}
use Rattle.wh_journal.specs.declared.rounds.Round.{Round}
use Rattle.wh_journal.specs.declared.rounds.Round.TheVariants.{Served, Ended}

-- A script is at its end where the reader is, whatever follows the last line feed.
abbrev pub session_round : Part → Round
session_round parts.More = Served
session_round parts.Served = Served
session_round parts.Ended = Ended
session_round parts.Torn = Ended
session_round parts.Over = Ended

-- The keeper is the journal. Memory ends no script.
abbrev pub session_fault : SessionFault → JournaledFault
session_fault faults.Broken = Broken
session_fault faults.Endless = Endless
session_fault faults.Unwritten = Unwritten
session_fault faults.Unkept = Unjournaled
session_fault faults.NoMemory = Unwritten
session_fault faults.Failed = Unwritten

-- The journal is told to have failed only where a call of it did; and too many reads only where that many were made, or where
-- more lines were served than can be counted.
abbrev pub HasCause : JournaledFault → Input → Bool → ℕ → Type 0
HasCause Broken after failed lines = Unit {0}
HasCause Endless after failed lines = (after.reads ≡ 100000000) ⊎ (2 ^ 64 - 1 ≤ lines)
HasCause Unwritten after failed lines = Unit {0}
HasCause Unjournaled after failed lines = failed ≡ true

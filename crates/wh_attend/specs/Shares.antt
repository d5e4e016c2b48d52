-- The share of the journal that the worker for agents and clock has, and what all shares come to.
use Rattle.std.specs.Prelude.{◌≡◌, ◌≤◌, ◌+◌, ◌*◌, ◌-◌, ◌^◌, ℕ, max, List, length, Option, None, Some}
use Rattle.std.specs.Duration.{as_nanos}
use Rattle.wh_event.specs.declared.entry.Entry.{Entry}
use Rattle.wh_options.specs.declared.chosen.ServeOptions.{ServeOptions}
use Rattle.wh_desk.specs.Lists.{entries_of}
use Rattle.wh_host.specs.declared.pacing.Pacing.{Pacing}
use Rattle.wh_attend.specs.Guests.{share_of, sharers, worker_number}

-- what shares of a given size leave of the journal, at least as much as one of them
abbrev pub left_beside : (journal named each : ℕ) → ℕ
left_beside journal named each = max (journal - named * each) each

-- how many more entries the worker may have: what the shares of the named clients leave, at least as many as one of them
abbrev pub worker_share : (share : Option ℕ) → (journal named : ℕ) → ℕ
worker_share share journal named = left_beside journal named (share_of share journal (named + 1))

-- how many entries all have together where no share was named: the named clients, and the worker, if there is one
abbrev pub shared_out : (every : Option ℕ) → (journal named : ℕ) → ℕ
shared_out None journal named = named * share_of None journal named
shared_out (Some every) journal named = named * share_of None journal (named + 1) + worker_share None journal named

-- Where the journal has an entry for each who shares it, all their shares together are no more than it has.
abbrev pub SharesFit : Type 0
SharesFit = (every : Option ℕ) (journal named : ℕ) → sharers every named ≤ journal → shared_out every journal named ≤ journal

-- The worker for agents and clock looks as often as can be counted, rests as many milliseconds as the options say before each look, and
-- may have its share of entries beside those that it had before the run.
pub record IsPaced (every : ℕ) (options : ServeOptions) (earlier : List Entry) (pace : Pacing) : Type 0 where
  pub turns_are : pace.turns + 1 ≡ 2 ^ 64
  pub pause_is : as_nanos pace.pause ≡ every * 1000000
  pub share_is : pace.entries ≡ length (entries_of earlier worker_number) + worker_share options.share options.journal (length options.clients.items)

-- how the worker goes on, if there is one
abbrev pub IsPacingOf : (every : Option ℕ) → ServeOptions → (earlier : List Entry) → Option Pacing → Type 0
IsPacingOf None options earlier pace = pace ≡ None
IsPacingOf (Some every) options earlier None = ⊥
IsPacingOf (Some every) options earlier (Some pace) = IsPaced every options earlier pace

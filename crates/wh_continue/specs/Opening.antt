-- A run's log and the file beside it, as they are first made: the log is begun first, so that the text beside it is never whole without a log.
use Rattle.std.specs.Prelude.{◌≡◌, ◌⊎◌, ℕ, Bool, true, List, Option, MatchOption}
use Rattle.wh_continue.specs.Running.{BeginsShort, LeavesFront, Opens, from_opening, opening_lines}
use Rattle.wh_continue.specs.declared.running.KeepFault.{KeepFault}
use Rattle.wh_continue.specs.declared.running.KeepFault.TheVariants.{Unkept}
use Rattle.wh_continue.specs.declared.starting.Start.{Start}

-- A run that was not begun is begun: its log holds its first two lines alone, and it starts from them. One that was begun is as it was.
abbrev pub IsOpened : (start begun : Start) → (file opened : Option (List ℕ)) → Type 0
IsOpened start begun file opened = MatchOption start.bytes
    ((begun ≡ from_opening start.book) × Opens file opened (opening_lines start.book))
    (λ _. (begun ≡ start) × (opened ≡ file))

-- The log was begun, and the text could not be kept beside it: what stood there stands, or a front of the text.
pub record StopsBeside (start : Start) (file opened before after : Option (List ℕ)) (failed : Bool) (text : List ℕ) : Type 0 where
  pub begun : Start
  pub opens : IsOpened start begun file opened
  pub left : LeavesFront before after text
  pub has_failed : failed ≡ true

-- Why not both were made: the log was not begun, and the file beside it is as it was; or the text could not be kept beside it.
abbrev pub IsWhyNotBoth : KeepFault → Start → (file opened : Option (List ℕ)) → (log_failed : Bool) → (before after : Option (List ℕ)) → (failed : Bool) → (text : List ℕ) → Type 0
IsWhyNotBoth fault start file opened log_failed before after failed text =
    (BeginsShort fault start file opened log_failed × (after ≡ before))
    ⊎ ((fault ≡ Unkept) × StopsBeside start file opened before after failed text)

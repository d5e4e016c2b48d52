-- a file that stands beside a log, and holds a text on which the log's run stands
use Rattle.std.specs.Prelude.{◌≡◌, ◌<◌, ◌≤◌, ℕ, List, length, Option, IfSome}
use Rattle.wh_resume.specs.Resuming.{IsFront}
use Rattle.wh_continue.specs.declared.beside.Beside.{Beside}
use Rattle.wh_continue.specs.declared.beside.Beside.TheVariants.{Whole, Begun}
use Rattle.wh_continue.specs.declared.beside.BesideFault.{BesideFault}
use Rattle.wh_continue.specs.declared.beside.BesideFault.TheVariants.{Other, Unread, NoMemory}

-- these bytes are the text, or a beginning of it and no more
abbrev pub IsPartOf : Beside → (held text : List ℕ) → Type 0
IsPartOf Whole held text = held ≡ text
IsPartOf Begun held text = IsFront held text × (length held < length text)

-- The file was read, and holds this much of the text. A file that tells its bytes was read as it was.
pub record StandsBeside (file : Option (List ℕ)) (text : List ℕ) (beside : Beside) : Type 0 where
  pub held : List ℕ
  pub held_is : IfSome file (λ bytes. held ≡ bytes)
  pub part : IsPartOf beside held text

-- it was read, and holds something else
pub record HoldsOther (file : Option (List ℕ)) (text : List ℕ) : Type 0 where
  pub held : List ℕ
  pub held_is : IfSome file (λ bytes. held ≡ bytes)
  pub other : IsFront held text → ⊥

-- These bytes are all that the file holds, or more than so many from its front.
pub record HoldsWithin (file : Option (List ℕ)) (most : ℕ) (held : List ℕ) : Type 0 where
  pub front : IfSome file (IsFront held)
  pub all : length held ≤ most → IfSome file (λ bytes. held ≡ bytes)

-- why it does not stand beside the log
abbrev pub IsWhyNotBeside : Option (List ℕ) → (text : List ℕ) → BesideFault → Type 0
IsWhyNotBeside file text Other = HoldsOther file text
IsWhyNotBeside file text Unread = Unit {0}
IsWhyNotBeside file text NoMemory = Unit {0}

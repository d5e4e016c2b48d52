-- What is delivered behind a script, over its journal.
use Rattle.std.proofs.Common.{◌≡◌, ℕ, List, ap, sym, subst, Option, None, Some, Result, Ok, Err}
use Rattle.std.specs.Prelude.{Bool, OnOk, IfErr}
use Rattle.std.specs.Io.KnownBytes.{Keeps}
use Rattle.wh_resume.specs.Drafts.{Seen}
use Rattle.wh_replay.specs.declared.asker.Asker.{Asker}
use Rattle.wh_journal.specs.Keeping.{Held, IsSafe, KeepsAll, KeepsFront}
use Rattle.wh_journal.specs.Surviving.{StaysLog}
use Rattle.wh_journal.proofs.Telling.{log_grows}
use Rattle.wh_deliver.specs.Delivers.{KeepsShort}
use Rattle.wh_deliver.specs.Appending.{logged}
use Rattle.wh_deliver.specs.declared.delivering.DeliverFault.{DeliverFault}
use Rattle.wh_deliver.specs.declared.delivering.DeliverFault.TheVariants.{NoMemory, TooMany, Unkept, Unwritten}
use Rattle.wh_deliver.proofs.Grown.{grows}
use Rattle.wh_continue.specs.Delivering.{DeliversOver, StandsShort}

-- so the file stays the log of the book
pub log_delivered : (deliver : Bool) (asker : Asker) (begun kept full synced : Option (List ℕ)) (old new : Seen) (had has : Option (List ℕ))
    → DeliversOver deliver asker old new had has kept synced full → StaysLog begun kept old → StaysLog begun full new
log_delivered deliver asker None kept full synced old new had has d log = tt
log_delivered deliver asker (Some b) kept full synced old new had has d log =
    let g = grows deliver asker 999999999 old new d.added had has d.delivers in
    log_grows kept full old new d.added g.0 g.1.opening d.stands log

-- what stands in the journal at a fault
pub stands_short : (fault : DeliverFault) (lines : List ℕ) (stood stands : Held) → IsSafe stood → KeepsShort KeepsAll KeepsFront fault stood (logged lines) stands
    → StandsShort fault lines stood.contents stands.failed stands.synced stands.contents
stands_short NoMemory lines stood stands safe k = (k.appends, k.safe)
stands_short TooMany lines stood stands safe k = (ap (λ (h : Held). h.contents) k, subst IsSafe (sym k) safe)
stands_short Unkept lines stood stands safe k = (k.front, subst (λ (o : Option (List ℕ)). Keeps o stands.synced) safe k.stays, k.failed)
stands_short Unwritten lines stood stands safe k = (k.appends, k.safe)

-- it is the same journal
pub named_short : (fault : DeliverFault) (lines : List ℕ) (stood stands : Held) → KeepsShort KeepsAll KeepsFront fault stood (logged lines) stands → stands.name ≡ stood.name
named_short NoMemory lines stood stands k = k.name_is
named_short TooMany lines stood stands k = ap (λ (h : Held). h.name) k
named_short Unkept lines stood stands k = k.name_is
named_short Unwritten lines stood stands k = k.name_is

pub either_way : {T E : Type 0} (r : Result T E) (P : Type 0) → OnOk r P → IfErr r (λ e. P) → P
either_way (Ok t) P ok err = ok
either_way (Err e) P ok err = err

-- What is delivered behind a script, over its journal.
use Rattle.std.specs.Prelude.{◌≡◌, ℕ, Bool, true, List, Option}
use Rattle.std.specs.Io.KnownBytes.{Appends, Keeps}
use Rattle.wh_resume.specs.Drafts.{Seen}
use Rattle.wh_event.specs.declared.entry.Entry.{Entry}
use Rattle.wh_replay.specs.declared.asker.Asker.{Asker}
use Rattle.wh_journal.specs.Journals.{lines_for}
use Rattle.wh_journal.specs.Scripts.{WritesFront}
use Rattle.wh_deliver.specs.Delivers.{DeliversShort, MayDeliver}
use Rattle.wh_deliver.specs.declared.delivering.DeliverFault.{DeliverFault}
use Rattle.wh_deliver.specs.declared.delivering.DeliverFault.TheVariants.{NoMemory, TooMany, Unkept, Unwritten}

-- All was delivered behind a script, where that was asked for. The lines of the entries stand in the journal, which is synced; it has so many at
-- most as a log may tell.
pub record DeliversOver (is_asked : Bool) (asker : Asker) (old new : Seen) (had has journal synced holds : Option (List ℕ)) : Type 0 where
  pub added : List Entry
  pub delivers : MayDeliver is_asked asker 999999999 old new added had has
  pub stands : Appends journal holds (lines_for added)
  pub synced_is : synced ≡ holds

-- What of the lines stands in the journal at a fault: all of them, or none where there would be too many, or a front where a call of it failed.
abbrev pub StandsShort : DeliverFault → (lines : List ℕ) → (journal : Option (List ℕ)) → (failed : Bool) → (synced holds : Option (List ℕ)) → Type 0
StandsShort NoMemory lines journal failed synced holds = Appends journal holds lines × (synced ≡ holds)
StandsShort TooMany lines journal failed synced holds = (holds ≡ journal) × (synced ≡ holds)
StandsShort Unkept lines journal failed synced holds = WritesFront journal holds lines × Keeps journal synced × (failed ≡ true)
StandsShort Unwritten lines journal failed synced holds = Appends journal holds lines × (synced ≡ holds)

-- Not all was delivered, kept and told: nothing was told whose entry does not stand in the journal, synced.
pub record StopsDelivering (fault : DeliverFault) (asker : Asker) (old new : Seen) (had has journal : Option (List ℕ)) (failed : Bool) (synced holds : Option (List ℕ)) : Type 0 where
  pub added : List Entry
  pub delivers : DeliversShort fault asker 999999999 old new added had has
  pub stands : StandsShort fault (lines_for added) journal failed synced holds

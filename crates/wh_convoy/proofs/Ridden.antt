-- a run with vehicles over its two files
use Rattle.std.proofs.Common.{◌≡◌, ℕ, List, ◌++◌, length, Option, None, Some, Bool, refl, sym, subst, ap}
use Rattle.std.specs.Prelude.{IfSome}
use Rattle.std.specs.Io.KnownBytes.{Appends}
use Rattle.wh_lines.specs.Input.{Input}
use Rattle.wh_grid.specs.Grids.{Floor}
use Rattle.wh_event.specs.declared.entry.Entry.{Entry}
use Rattle.wh_replay.specs.declared.asker.Asker.{Asker}
use Rattle.wh_book.specs.Drafts.{Seen}
use Rattle.wh_drive.specs.Drives.{Drive}
use Rattle.wh_order.specs.Orders.{Order, Represents}
use Rattle.wh_dispatch.specs.Crews.{Crew, IsInStep, AreWatched}
use Rattle.wh_dispatch.specs.Lines.{Depot}
use Rattle.wh_dispatch.specs.Scripts.{SomeManned, TellsSome}
use Rattle.wh_dispatch.specs.declared.script.DispatchFault.{DispatchFault}
use Rattle.wh_dispatch.specs.SettingOut.{SetsOutFrom, SomeInStep, NoneIsTold}
use Rattle.wh_dispatch.proofs.Together.{each_script_happens}
use Rattle.wh_journal.specs.Journals.{lines_for}
use Rattle.wh_journal.specs.Surviving.{HoldsLog, StaysLog}
use Rattle.wh_journal.specs.declared.rounds.Round.TheVariants.{Ended}
use Rattle.wh_journal.proofs.Telling.{log_grows}
use Rattle.wh_continue.specs.Running.{EndsShort, IsKeptLog, closing}
use Rattle.wh_continue.specs.declared.running.KeepFault.{KeepFault}
use Rattle.wh_continue.proofs.Begun.{whole_log}
use Rattle.wh_convoy.specs.Convoys.{Held, ConvoysLines, ConvoysFrom, ConvoysUntilFrom, depot}
use Rattle.wh_convoy.specs.Riding.{Rides, RidesToEnd, RidesFrom, RidesUntil, StopsFrom}
use Rattle.wh_convoy.specs.declared.riding.RideFault.{RideFault}
use Rattle.wh_convoy.specs.declared.riding.RideFault.TheVariants.{End, SetOut}
use Rattle.wh_dispatch.proofs.Kept.{kept_is_served}
use Rattle.wh_convoy.proofs.Standing.{both_synced}

-- the log of the book and the lines of more entries are the log of the book that has grown by them
stays_more : (begun kept : Option (List ℕ)) (old new : Seen) (added : List Entry) → HoldsLog begun old → Appends begun kept (lines_for added) → new.history ≡ old.history ++ added →
    new.opening ≡ old.opening → StaysLog begun kept new
stays_more None kept old new added is stands grown opening = tt
stays_more (Some held) kept old new added is stands grown opening = log_grows (Some held) kept old new added grown opening stands is

module _ {X : Type 0} (fits : X → Floor → Bool) (count : X → ℕ) (asker : Asker) (bound : ℕ) where
  -- lines that are served change no opening
  same_opening : (old new : Depot X) (read : List ℕ) (texts kept : List (List ℕ)) (added : List Entry) → ConvoysLines fits count asker bound old new read texts kept added →
      new.book.opening ≡ old.book.opening
  same_opening old new read texts kept added l =
      (each_script_happens fits count asker bound _ old new texts (kept_is_served fits count asker bound _ old new texts kept l.all)).opening

  pub whole_of : (before after : Input) (old : Seen) (spares : List X) (d : Drive) (new : Seen) (rest : List X) (crew : Crew) (had has file : Option (List ℕ)) (begun holds synced : Held) →
      StaysLog file begun.log old → HoldsLog begun.log old → RidesToEnd fits count asker bound before after old spares d new rest crew had has begun holds synced → IfSome file (λ _. IsKeptLog holds.log new)
  whole_of before after old spares d new rest crew had has file begun holds synced first is r =
      let c = r.rides.convoys in
      let old_depot = depot old spares r.rides.set in
      let new_depot = depot new rest r.rides.final in
      whole_log file begun.log r.kept.log holds.log old new first
      (stays_more begun.log r.kept.log old new c.added is c.log c.lines.added_are (same_opening old_depot new_depot c.read c.texts c.kept c.added c.lines)) r.ends

  module _ (old : Seen) (crew next : Crew) (had out : Option (List ℕ)) (sets : SetsOutFrom old crew next had out) where
    pub manned_out : SomeInStep old crew.order → SomeManned old next
    manned_out some = (let r = sets some.0 some.1 in (r.0, r.1))

    pub until_from : (n : ℕ) → n ≡ bound → (before after : Input) (spares : List X) (has : Option (List ℕ)) (begun holds synced : Held) →
        ConvoysUntilFrom fits count asker n before after old spares next out has begun holds synced →
        (d : Drive) → IsInStep old crew.order d → RidesUntil fits count asker bound before after old spares d had has begun holds synced
    until_from n same before after spares has begun holds synced until d m =
        let r = sets d m in
        record {
          out = out;
          set = r.0;
          sets_out = r.2;
          until = subst (λ b. ConvoysUntilFrom fits count asker b before after old spares next out has begun holds synced) same until r.0 r.1;
        }

    pub rides_from : (n : ℕ) → n ≡ bound → (before after : Input) (spares : List X) (new : Seen) (rest : List X) (last : Crew) (has : Option (List ℕ)) (begun kept safe : Held) →
        ConvoysFrom fits count asker n Ended before after old spares next new rest last out has begun kept safe →
        (d : Drive) → IsInStep old crew.order d → Rides fits count asker bound before after old spares d new rest last had has begun kept safe
    rides_from n same before after spares new rest last has begun kept safe convoys d m =
        let r = sets d m in
        let t = subst (λ b. ConvoysFrom fits count asker b Ended before after old spares next new rest last out has begun kept safe) same convoys r.0 r.1 in
        record { out = out; set = r.0; sets_out = r.2; final = t.0; manned = t.1; convoys = t.2 }

    -- with the line that ends the log
    pub to_end : (n : ℕ) → n ≡ bound → (before after : Input) (spares : List X) (new : Seen) (rest : List X) (last : Crew) (has : Option (List ℕ)) (begun kept safe : Held) (holds_log synced_log : Option (List ℕ)) →
        ConvoysFrom fits count asker n Ended before after old spares next new rest last out has begun kept safe → Appends kept.log holds_log (closing new.state.closed (length new.history)) → synced_log ≡ holds_log →
        RidesFrom fits count asker bound before after old spares crew.order new rest last had has begun (record { log = holds_log; arrivals = kept.arrivals }) (record { log = synced_log; arrivals = safe.arrivals })
    to_end n same before after spares new rest last has begun kept safe holds_log synced_log convoys ends is d m =
        let r = rides_from n same before after spares new rest last has begun kept safe convoys d m in
        let synced = r.convoys.synced_is in
        record {
          kept = kept;
          rides = subst (λ (s : Held). Rides fits count asker bound before after old spares d new rest last had has begun kept s) synced r;
          ends = ends;
          arrivals = refl;
          synced_is = both_synced synced_log holds_log safe.arrivals kept.arrivals is (ap (λ (h : Held). h.arrivals) synced);
        }

    -- or without it
    pub unended : (n : ℕ) → n ≡ bound → (fault : KeepFault) (before after : Input) (spares : List X) (new : Seen) (rest : List X) (last : Crew) (has : Option (List ℕ)) (begun kept safe : Held) (holds_log synced_log : Option (List ℕ)) (failed arrivals_failed : Bool) →
        ConvoysFrom fits count asker n Ended before after old spares next new rest last out has begun kept safe → EndsShort fault (closing new.state.closed (length new.history)) kept.log holds_log safe.log synced_log failed →
        StopsFrom fits count asker bound (End fault) before after old spares rest crew.order had has begun (record { log = holds_log; arrivals = kept.arrivals }) (record { log = synced_log; arrivals = safe.arrivals }) failed arrivals_failed
    unended n same fault before after spares new rest last has begun kept safe holds_log synced_log failed arrivals_failed convoys ends d m =
        let r = rides_from n same before after spares new rest last has begun kept safe convoys d m in
        let synced = r.convoys.synced_is in
        record {
          new = new;
          crew = last;
          kept = kept;
          rides = subst (λ (s : Held). Rides fits count asker bound before after old spares d new rest last had has begun kept s) synced r;
          ends = subst (λ (s : Option (List ℕ)). EndsShort fault (closing new.state.closed (length new.history)) kept.log holds_log s synced_log failed) (ap (λ (h : Held). h.log) synced) ends;
          arrivals = refl;
          arrivals_synced = ap (λ (h : Held). h.arrivals) synced;
        }

  -- nobody set out, or not all was told of it
  pub unset : (fault : DispatchFault) (i : Input) (old : Seen) (spares : List X) (crew : Crew) (had has : Option (List ℕ)) (begun synced : Held) (log_failed arrivals_failed : Bool) → synced ≡ begun →
      AreWatched old.state NoneIsTold crew.pending → ((d : Drive) → Represents crew.order d → (e : Drive) × TellsSome fault old crew.pending d e had has) →
      StopsFrom fits count asker bound (SetOut fault) i i old spares spares crew.order had has begun begun synced log_failed arrivals_failed
  unset fault i old spares crew had has begun synced log_failed arrivals_failed same untold some d m =
      let t = some d m.represents in
      (refl, refl, record { pending = crew.pending; untold = untold; set = t.0; tells = t.1 }, refl, same)

-- the same where the book, the order and the bound have other names
module _ {X : Type 0} (fits : X → Floor → Bool) (count : X → ℕ) (asker : Asker) (n bound : ℕ) (b : n ≡ bound) (set_book book : Seen) (e : set_book ≡ book) (set_order order : Order) (o : set_order ≡ order)
    (before after : Input) (spares rest : List X) (had has : Option (List ℕ)) (begun holds synced : Held) where
  pub rides_over : (new : Seen) (last : Crew) → RidesFrom fits count asker n before after set_book spares set_order new rest last had has begun holds synced →
      RidesFrom fits count asker bound before after book spares order new rest last had has begun holds synced
  rides_over new last h =
      subst (λ (k : ℕ). RidesFrom fits count asker k before after book spares order new rest last had has begun holds synced) b
      (subst (λ (s : Seen). RidesFrom fits count asker n before after s spares order new rest last had has begun holds synced) e
      (subst (λ (r : Order). RidesFrom fits count asker n before after set_book spares r new rest last had has begun holds synced) o h))

  pub stops_over : (fault : RideFault) (log_failed arrivals_failed : Bool) → StopsFrom fits count asker n fault before after set_book spares rest set_order had has begun holds synced log_failed arrivals_failed →
      StopsFrom fits count asker bound fault before after book spares rest order had has begun holds synced log_failed arrivals_failed
  stops_over fault log_failed arrivals_failed h =
      subst (λ (k : ℕ). StopsFrom fits count asker k fault before after book spares rest order had has begun holds synced log_failed arrivals_failed) b
      (subst (λ (s : Seen). StopsFrom fits count asker n fault before after s spares rest order had has begun holds synced log_failed arrivals_failed) e
      (subst (λ (r : Order). StopsFrom fits count asker n fault before after set_book spares rest r had has begun holds synced log_failed arrivals_failed) o h))

pub stand_over : (set_book book : Seen) (set_order order : Order) → set_book ≡ book → set_order ≡ order → SomeInStep book order → SomeInStep set_book set_order
stand_over set_book book set_order order e o h =
    subst (λ (s : Seen). SomeInStep s set_order) (sym e) (subst (λ (r : Order). SomeInStep book r) (sym o) h)

-- lines that are served by the one loop, and kept in the log and in the file of arrivals
use Rattle.std.proofs.Common.{◌≡◌, ◌≤◌, ℕ, ◌∙◌, List, [], ◌++◌, length, Option, Bool, true, false, inl, inr, sym, subst, refl, ap, append_assoc}
use Rattle.std.specs.Io.KnownBytes.{Appends, Keeps, IsAtEnd}
use Rattle.std.proofs.KnownBytes.{Appends-kept, Appends-trans}
use Rattle.wh_text.specs.Lines.{lines_of, IsLine}
use Rattle.wh_words.specs.Lines.{text_of as lines_text}
use Rattle.wh_lines.specs.Text.{EndsLine}
use Rattle.wh_lines.specs.Input.{Input, left, Takes}
use Rattle.wh_lines.specs.Output.{WritesFront}
use Rattle.wh_lines.proofs.Written.{front_all, front_after}
use Rattle.wh_session.specs.Machines.{Records}
use Rattle.wh_session.specs.Sessions as rounds
use Rattle.wh_session.specs.declared.fault.End.{End}
use Rattle.wh_session.specs.declared.fault.Round.{Round}
use Rattle.wh_session.specs.declared.fault.Round.TheVariants.{Ended, Torn}
use Rattle.wh_session.specs.declared.fault.End.TheVariants as ends
use Rattle.wh_session.specs.declared.fault.SessionFault.{SessionFault}
use Rattle.wh_session.specs.declared.fault.SessionFault.TheVariants as session
use Rattle.wh_grid.specs.Grids.{Floor}
use Rattle.wh_event.specs.declared.entry.Entry.{Entry}
use Rattle.wh_replay.specs.declared.asker.Asker.{Asker}
use Rattle.wh_log.proofs.Fronts.{text-append}
use Rattle.wh_book.specs.Drafts.{Seen}
use Rattle.wh_replay.specs.Answers.{text_of}
use Rattle.wh_drive.specs.Drives.{Drive}
use Rattle.wh_dispatch.specs.Crews.{Crew, IsManned}
use Rattle.wh_dispatch.specs.Lines.{Depot}
use Rattle.wh_dispatch.specs.Manning.{Manning, Names, StandsSo, AreAlike, ServesManned, HaltsManned}
use Rattle.wh_dispatch.proofs.Manning.{begun_by, begun_stands, depot_is, Came, came}
use Rattle.wh_journal.specs.Journals.{lines_for}
use Rattle.wh_journal.specs.declared.rounds.Round.TheVariants as ended
use Rattle.wh_replay.proofs.Appended.{lines_append}
use Rattle.wh_replay.proofs.Giving.{replies_text}
use Rattle.wh_convoy.specs.Faults.{fault_by}
use Rattle.wh_convoy.specs.Files.{Files, IsSafe, AreSame, KeepsBoth, Leaves, stood, safe}
use Rattle.wh_convoy.specs.Convoys.{ConvoysLines, ConvoysOn, ConvoysUntil, StandsBehind, UnsettlesFiles, ConvoysFrom, ConvoysUntilFrom, HasCause, depot}
use Rattle.wh_convoy.proofs.Joining.{lines_nothing, lines_join}
use Rattle.wh_convoy.proofs.Standing.{untouched}

module _ {X : Type 0} (fits : X → Floor → Bool) (count : X → ℕ) where
  lines_of_came : (read : List ℕ) → EndsLine read → (s e : Manning X) (told : List ℕ) (records : Records) → (c : Came fits count true (lines_of read) s e told records) → ConvoysLines fits count s.asker s.bound s.depot e.depot read c.texts c.kept c.added
  lines_of_came read whole s e told records c = record { whole = whole; all = c.all; added_are = c.added_are }

  clean : (b : Files) → IsSafe b → safe b ≡ stood b
  clean b is i = record { log = is.log i; arrivals = is.arrivals i }

  -- nothing of these records was kept
  none_behind : (b c : Files) (entries : List Entry) (kept : List ℕ) → IsSafe b → c ≡ b → StandsBehind entries kept (stood b) (stood c) (safe c)
  none_behind b c entries kept is same = subst (λ (f : Files). StandsBehind entries kept (stood b) (stood f) (safe f)) (sym same) (untouched (lines_for entries) kept (stood b) (safe b) (clean b is))

  module _ (i k : Input) (s e : Manning X) (going : s.halted ≡ false) (had has : Option (List ℕ)) (a b : Files) where
    convoys_whole : (most : ℕ) (round : Round) (r : rounds.Serves (ServesManned fits count true) KeepsBoth false false most round i k s e had has a b) → EndsLine r.lines.read → IsLine r.lines.begun × IsAtEnd (left k) →
        (e.halted ≡ false) × AreAlike s e × ConvoysOn fits count s.asker s.bound ended.Ended i k s.depot e.depot had has (stood a) (stood b) (safe b)
    convoys_whole most round r whole ends =
        let c = came fits count true (lines_of r.lines.read) s e r.told r.kept going r.lines.all in (
          c.going,
          c.alike,
          record {
            read = r.lines.read;
            begun = r.lines.begun;
            takes = r.lines.takes;
            ends = ends;
            texts = c.texts;
            kept = c.kept;
            added = c.added;
            lines = lines_of_came r.lines.read whole s e r.told r.kept c;
            log = subst (λ (l : List ℕ). Appends a.log.contents b.log.contents l) (ap (λ (x : Records). x.log) c.records_are) r.stood_on.log;
            arrivals = subst (λ (l : List ℕ). Appends a.arrivals.contents b.arrivals.contents l) (ap (λ (x : Records). x.more) c.records_are) r.stood_on.arrivals;
            synced_is = clean b r.stood_on.safe_after;
            told = subst (λ (t : List ℕ). Appends had has t) c.told_is r.wrote;
          },
        )

    pub convoys_end : (most : ℕ) (end : End) → (end ≡ ends.Over → ⊥) → rounds.Serves (ServesManned fits count true) KeepsBoth false false most (rounds.round_of end) i k s e had has a b →
        (e.halted ≡ false) × AreAlike s e × ConvoysOn fits count s.asker s.bound ended.Ended i k s.depot e.depot had has (stood a) (stood b) (safe b)
    convoys_end most ends.Input not r = convoys_whole most Ended r r.lines.whole (subst (λ (t : List ℕ). IsLine t) (sym r.lines.ends.0) tt, r.lines.ends.1)
    convoys_end most ends.Torn not r = convoys_whole most Torn r r.lines.whole (r.lines.ends.0, r.lines.ends.2)
    convoys_end most ends.Over not r = absurd (not refl)

    abbrev Stopped : SessionFault → Type 0
    Stopped fault = rounds.Stops (ServesManned fits count true) (HaltsManned fits count true) KeepsBoth Leaves false false false fault i k s e had has a b

    read_came : (fault : SessionFault) (r : Stopped fault) → Came fits count true (lines_of r.read) s r.mid r.told r.kept
    read_came fault r = came fits count true (lines_of r.read) s r.mid r.told r.kept going r.all

    last_came : (fault : SessionFault) (r : Stopped fault) → Came fits count true (lines_of r.last) r.mid r.reached r.last_told r.last_kept
    last_came fault r = came fits count true (lines_of r.last) r.mid r.reached r.last_told r.last_kept (read_came fault r).going r.last_all

    last_whole : (fault : SessionFault) (r : Stopped fault) → EndsLine r.last
    last_whole fault r = elim r.last_whole [
      | inl whole ↦ whole
      | inr at ↦ (let clash : false ≡ true = at.0 in cc)
    ]

    last_lines : (fault : SessionFault) (r : Stopped fault) → ConvoysLines fits count s.asker s.bound r.mid.depot r.reached.depot r.last (last_came fault r).texts (last_came fault r).kept (last_came fault r).added
    last_lines fault r =
        let c = read_came fault r in
        let l = last_came fault r in
        subst (λ (n : ℕ). ConvoysLines fits count s.asker n r.mid.depot r.reached.depot r.last l.texts l.kept l.added) c.alike.bound_is
        (subst (λ (f : Asker). ConvoysLines fits count f r.mid.bound r.mid.depot r.reached.depot r.last l.texts l.kept l.added) c.alike.asker_is
        (lines_of_came r.last (last_whole fault r) r.mid r.reached r.last_told r.last_kept l))

    -- the last round was not told, and not all of it was kept
    untold_last : (fault : SessionFault) (r : Stopped fault) → Keeps r.between has → StandsBehind (last_came fault r).added (lines_text (last_came fault r).kept) (stood r.settled) (stood b) (safe b) →
        ConvoysUntil fits count s.asker s.bound i k s.depot had has (stood a) (stood b) (safe b)
    untold_last fault r untold behind =
        let c = read_came fault r in
        let l = last_came fault r in
        record {
          read = r.read;
          texts = c.texts;
          kept = c.kept;
          added = c.added;
          mid = r.mid.depot;
          lines = lines_of_came r.read r.whole s r.mid r.told r.kept c;
          told = front_all had has (text_of c.texts) (subst (λ (t : List ℕ). Appends had has t) c.told_is (Appends-kept had r.between has r.told r.wrote untold));
          settled = stood r.settled;
          log = subst (λ (t : List ℕ). Appends a.log.contents r.settled.log.contents t) (ap (λ (x : Records). x.log) c.records_are) r.stood_on.log;
          arrivals = subst (λ (t : List ℕ). Appends a.arrivals.contents r.settled.arrivals.contents t) (ap (λ (x : Records). x.more) c.records_are) r.stood_on.arrivals;
          more = r.last;
          more_texts = l.texts;
          more_kept = l.kept;
          later = l.added;
          new = r.reached.depot;
          more_lines = last_lines fault r;
          behind = behind;
          begun = r.begun;
          takes = r.takes;
        }

    -- all of it was kept, and a front was told
    told_last : (fault : SessionFault) (r : Stopped fault) → KeepsBoth r.settled r.last_kept b → WritesFront r.between has r.last_told → ConvoysUntil fits count s.asker s.bound i k s.depot had has (stood a) (stood b) (safe b)
    told_last fault r all front =
        let c = read_came fault r in
        let l = last_came fault r in
        let first = lines_of_came r.read r.whole s r.mid r.told r.kept c in
        record {
          read = r.read ++ r.last;
          texts = c.texts ++ l.texts;
          kept = c.kept ++ l.kept;
          added = c.added ++ l.added;
          mid = r.reached.depot;
          lines = lines_join fits count s.asker s.bound s.depot r.mid.depot r.reached.depot r.read r.last c.texts l.texts c.kept l.kept c.added l.added first (last_lines fault r);
          told = subst (λ (t : List ℕ). WritesFront had has t) (sym (replies_text c.texts l.texts))
              (front_after had r.between has (text_of c.texts) (text_of l.texts) (subst (λ (t : List ℕ). Appends had r.between t) c.told_is r.wrote) (subst (λ (t : List ℕ). WritesFront r.between has t) l.told_is front));
          settled = stood b;
          log = subst (λ (t : List ℕ). Appends a.log.contents b.log.contents t) (sym (lines_append c.added l.added))
              (Appends-trans a.log.contents r.settled.log.contents b.log.contents (lines_for c.added) (lines_for l.added)
              (subst (λ (t : List ℕ). Appends a.log.contents r.settled.log.contents t) (ap (λ (x : Records). x.log) c.records_are) r.stood_on.log) (subst (λ (t : List ℕ). Appends r.settled.log.contents b.log.contents t) (ap (λ (x : Records). x.log) l.records_are) all.log));
          arrivals = subst (λ (t : List ℕ). Appends a.arrivals.contents b.arrivals.contents t) (sym (text-append c.kept l.kept))
              (Appends-trans a.arrivals.contents r.settled.arrivals.contents b.arrivals.contents (lines_text c.kept) (lines_text l.kept)
              (subst (λ (t : List ℕ). Appends a.arrivals.contents r.settled.arrivals.contents t) (ap (λ (x : Records). x.more) c.records_are) r.stood_on.arrivals) (subst (λ (t : List ℕ). Appends r.settled.arrivals.contents b.arrivals.contents t) (ap (λ (x : Records). x.more) l.records_are) all.arrivals));
          more = [];
          more_texts = [];
          more_kept = [];
          later = [];
          new = r.reached.depot;
          more_lines = lines_nothing fits count s.asker s.bound r.reached.depot;
          behind = none_behind b b [] (lines_text []) all.safe_after refl;
          begun = r.begun;
          takes = subst (λ (t : List ℕ). Takes i k t) (sym (append_assoc r.read r.last r.begun)) r.takes;
        }

    pub convoys_until : (fault : SessionFault) → Stopped fault → ConvoysUntil fits count s.asker s.bound i k s.depot had has (stood a) (stood b) (safe b)
    convoys_until fault r =
        let l = last_came fault r in
        elim r.left_so [
          | inl none ↦ untold_last fault r none.untold (none_behind r.settled b l.added (lines_text l.kept) r.stood_on.safe_after none.as_it_was)
          | inr (inl some) ↦ untold_last fault r some.untold
              (subst (λ (t : List ℕ). UnsettlesFiles (lines_for l.added) t (stood r.settled) (stood b) (safe b)) (ap (λ (x : Records). x.more) l.records_are)
              (subst (λ (t : List ℕ). UnsettlesFiles t r.last_kept.more (stood r.settled) (stood b) (safe b)) (ap (λ (x : Records). x.log) l.records_are) some.front.cut))
          | inr (inr all) ↦ told_last fault r all.all_kept all.front
        ]

    pub cause_by : (fault : SessionFault) → Stopped fault → HasCause (fault_by fault) b.log.failed b.arrivals.failed
    cause_by session.Broken r e' = cc
    cause_by session.Endless r e' = cc
    cause_by session.Unwritten r e' = cc
    cause_by session.NoMemory r e' = cc
    cause_by session.Failed r e' = cc
    cause_by session.Unkept r e' = elim r.left_so [
      | inl none ↦ absurd (none.other refl)
      | inr (inl some) ↦ some.front.failed
      | inr (inr all) ↦ (let clash = all.is in cc)
    ]

    pub files_held : (fault : SessionFault) → Stopped fault → AreSame a b
    files_held fault r = elim r.left_so [
      | inl none ↦ subst (λ (f : Files). AreSame a f) (sym none.as_it_was) r.stood_on.same
      | inr (inl some) ↦ record { log = some.front.same.log ∙ r.stood_on.same.log; arrivals = some.front.same.arrivals ∙ r.stood_on.same.arrivals }
      | inr (inr all) ↦ record { log = all.all_kept.same.log ∙ r.stood_on.same.log; arrivals = all.all_kept.same.arrivals ∙ r.stood_on.same.arrivals }
    ]

    off_names : (fault : SessionFault) (r : Stopped fault) → rounds.LeavesOff (HaltsManned fits count true) false fault k r.begun r.reached e → e.names ≡ r.reached.names
    off_names session.Broken r l = ap (λ (m : Manning X). m.names) l.1
    off_names session.Endless r l = ap (λ (m : Manning X). m.names) l.1
    off_names session.Unwritten r l = ap (λ (m : Manning X). m.names) l.1
    off_names session.Unkept r l = ap (λ (m : Manning X). m.names) l.1
    off_names session.NoMemory r l = l.halted.names_are
    off_names session.Failed r l = l.halted.names_are

    off : (fault : SessionFault) (r : Stopped fault) → e.names ≡ r.reached.names
    off fault r = elim r.left_off [
      | inl here ↦ off_names fault r here
      | inr over ↦ (let clash : false ≡ true = over.0 in cc)
    ]

    pub names_held : (fault : SessionFault) → Stopped fault → e.names ≡ s.names
    names_held fault r = off fault r ∙ (last_came fault r).alike.names_are ∙ (read_came fault r).alike.names_are

  module _ (old : Seen) (spares : List X) (crew : Crew) (asker : Asker) (names : Names) (halted : Bool) (first begun_at : ℕ) (said : List ℕ) (going : halted ≡ false) (place : first ≤ length old.history) (room : begun_at ≤ length said) where
    abbrev begun : Drive → Manning X
    begun d = begun_by old spares crew asker names d

    stands_so : (d : Drive) → IsManned old crew d → StandsSo old spares crew asker names halted first begun_at said (begun d)
    stands_so d m = begun_stands old spares crew asker names halted first begun_at said going place room d m

    module _ (new : Seen) (rest : List X) (next : Crew) (later : Asker) (after : Names) (stopped : Bool) (first_then begun_then : ℕ) (says : List ℕ) where
      module _ (i k : Input) (had has : Option (List ℕ)) (a b : Files) where
        module _ (most : ℕ) (end : End) (not : end ≡ ends.Over → ⊥)
            (served : (s : Manning X) → StandsSo old spares crew asker names halted first begun_at said s → (e : Manning X) × StandsSo new rest next later after stopped first_then begun_then says e × rounds.Serves (ServesManned fits count true) KeepsBoth false false most (rounds.round_of end) i k s e had has a b) where
          pub convoys_from : ConvoysFrom fits count asker crew.bound ended.Ended i k old spares crew new rest next had has (stood a) (stood b) (safe b)
          convoys_from d m =
              let r = served (begun d) (stands_so d m) in
              let t = convoys_end i k (begun d) r.0 refl had has a b most end not r.2 in
              (r.0.depot.drive, r.1.manned t.0, subst (λ (x : Depot X). ConvoysOn fits count asker crew.bound ended.Ended i k (depot old spares d) x had has (stood a) (stood b) (safe b)) (depot_is new rest next later after stopped first_then begun_then says r.0 r.1) t.2)

          pub served_names : (d : Drive) → IsManned old crew d → (after ≡ names) × AreSame a b
          served_names d m =
              let r = served (begun d) (stands_so d m) in
              let t = convoys_end i k (begun d) r.0 refl had has a b most end not r.2 in
              (r.1.names_are ∙ t.1.names_are, r.2.stood_on.same)

        module _ (fault : SessionFault)
            (stopped_so : (s : Manning X) → StandsSo old spares crew asker names halted first begun_at said s → (e : Manning X) × StandsSo new rest next later after stopped first_then begun_then says e
            × rounds.Stops (ServesManned fits count true) (HaltsManned fits count true) KeepsBoth Leaves false false false fault i k s e had has a b) where
          pub until_from : ConvoysUntilFrom fits count asker crew.bound i k old spares crew had has (stood a) (stood b) (safe b)
          until_from d m =
              let r = stopped_so (begun d) (stands_so d m) in
              convoys_until i k (begun d) r.0 refl had has a b fault r.2

          pub stopped_names : (d : Drive) → IsManned old crew d → (after ≡ names) × AreSame a b × HasCause (fault_by fault) b.log.failed b.arrivals.failed
          stopped_names d m =
              let r = stopped_so (begun d) (stands_so d m) in
              (r.1.names_are ∙ names_held i k (begun d) r.0 refl had has a b fault r.2, files_held i k (begun d) r.0 refl had has a b fault r.2, cause_by i k (begun d) r.0 refl had has a b fault r.2)

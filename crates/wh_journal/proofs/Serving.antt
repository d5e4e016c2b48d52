-- A script that was served over a journal.
use Rattle.std.proofs.Common.{◌≡◌, ◌≢◌, ◌∙◌, ◌≤◌, ◌<◌, ◌+◌, ◌-◌, ◌^◌, ℕ, Bool, true, false, List, [], ◌++◌, length, Option, inl, inr, sym, ap, subst, refl, arith, append_assoc, append-nil}
use Rattle.std.specs.Io.KnownBytes.{Appends, Keeps, IsAtEnd}
use Rattle.std.proofs.KnownBytes.{Appends-nil, Appends-kept, Keeps-refl}
use Rattle.wh_text.specs.Lines.{lines_of, IsLine}
use Rattle.wh_lines.specs.Text.{EndsLine}
use Rattle.wh_lines.specs.Input.{Input, left, Takes}
use Rattle.wh_lines.specs.Output.{WritesFront}
use Rattle.wh_lines.proofs.Written.{front_after, front_all, front_kept}
use Rattle.wh_grid.specs.Grids.{Floor}
use Rattle.wh_token.specs.Drafts.{Seen}
use Rattle.wh_session.specs.Machines.{Records, joined}
use Rattle.wh_session.specs.Sessions.{round_of, LeavesOff, NothingKept, NotAllKept, NotAllTold, Serves, Stops}
use Rattle.wh_session.specs.declared.fault.End.{End}
use Rattle.wh_session.specs.declared.fault.End.TheVariants as ends
use Rattle.wh_session.specs.declared.fault.Round.{Round as Part}
use Rattle.wh_session.specs.declared.fault.Round.TheVariants as parts
use Rattle.wh_session.specs.declared.fault.SessionFault.{SessionFault}
use Rattle.wh_session.specs.declared.fault.SessionFault.TheVariants as faults
use Rattle.wh_session.proofs.Following.{ends_both, texts_join}
use Rattle.wh_replay.specs.Answers.{text_of}
use Rattle.wh_replay.specs.Machines.{Scripted, StandsSo, Left, ServesScript}
use Rattle.wh_replay.specs.declared.answering.Answer.{Answer}
use Rattle.wh_replay.proofs.Giving.{gives_nothing}
use Rattle.wh_replay.proofs.Whole.{Output, all_output}
use Rattle.wh_journal.specs.declared.fault.JournaledFault.{JournaledFault}
use Rattle.wh_journal.specs.declared.fault.JournaledFault.TheVariants.{Broken, Endless, Unwritten, Unjournaled}
use Rattle.wh_journal.specs.Faults.{HasCause, session_fault, session_round}
use Rattle.wh_journal.specs.Journals.{lines_for, ServesLines, ServesRound, ReplaysJournaled, Rounds, Journaled}
use Rattle.wh_journal.specs.Keeping.{Held, KeepsAll, KeepsFront, keeps_both}
use Rattle.wh_replay.specs.declared.asker.Asker.{Asker}

none_written : (a b : Option (List ℕ)) (bytes : List ℕ) → Keeps a b → WritesFront a b bytes
none_written a b bytes k = front_kept a a b bytes 0 (Appends-nil a) k

module _ {X : Type 0} (fits : X → Floor → Bool) (count : X → ℕ) where
  serves_lines : (bytes : List ℕ) (s e : Scripted X) (told : List ℕ) (kept : Records) → EndsLine bytes → (o : Output fits count (lines_of bytes) s e told kept) → ServesLines fits count s.asker s.book s.spares e.book e.spares bytes o.replies o.added
  serves_lines bytes s e told kept whole o = record { whole = whole; output = o.output; added_are = o.added_are }

  serves_nothing : (asker : Asker) (book : Seen) (spares : List X) → ServesLines fits count asker book spares book spares [] [] []
  serves_nothing asker book spares = record { whole = λ more. refl; output = gives_nothing fits count asker.caller (λ outcomes. []) book spares; added_are = sym (append-nil book.history) }

  module _ (i j : Input) (s e : Scripted X) (had has : Option (List ℕ)) (stood stands : Held) where
    -- ---- without a fault

    module _ (part : Part) (r : Serves (ServesScript fits count) KeepsAll false false (2 ^ 64 - 1) part i j s e had has stood stands) where
      pub all : Output fits count (lines_of r.lines.read) s e r.told r.kept
      all = all_output fits count (lines_of r.lines.read) s e r.told r.kept r.lines.all

      all_stand : Appends stood.contents stands.contents (lines_for all.added)
      all_stand = subst (λ (k : Records). Appends stood.contents stands.contents k.log) all.kept_is r.stood_on.appends

      all_told : Appends had has (text_of all.replies)
      all_told = subst (λ (t : List ℕ). Appends had has t) all.told_is r.wrote

      to_end : EndsLine r.lines.read → IsLine r.lines.begun → IsAtEnd (left j) → ReplaysJournaled fits count s.asker i j s.book s.spares e.book e.spares had has stood.contents stands.synced stands.contents
      to_end whole plain ended = record {
        read = r.lines.read;
        begun = r.lines.begun;
        takes = r.lines.takes;
        plain = plain;
        ended = ended;
        replies = all.replies;
        added = all.added;
        serves = serves_lines r.lines.read s e r.told r.kept whole all;
        stands = all_stand;
        synced_is = r.stood_on.safe;
        told = all_told;
      }

      to_wait : EndsLine r.lines.read → r.lines.begun ≡ [] → 1 ≤ length (lines_of r.lines.read) → IsLine j.waiting → ServesRound fits count s.asker i j s.book s.spares e.book e.spares had has stood.contents stands.synced stands.contents
      to_wait whole none some waits = record {
        read = r.lines.read;
        takes = subst (λ (l : List ℕ). Takes i j l) (ap (λ (l : List ℕ). r.lines.read ++ l) none ∙ append-nil r.lines.read) r.lines.takes;
        some = some;
        none_waits = waits;
        replies = all.replies;
        added = all.added;
        serves = serves_lines r.lines.read s e r.told r.kept whole all;
        stands = all_stand;
        synced_is = r.stood_on.safe;
        told = all_told;
      }

    pub rounded : (part : Part) → part ≢ parts.More → (part ≡ parts.Over → false ≡ true) → Serves (ServesScript fits count) KeepsAll false false (2 ^ 64 - 1) part i j s e had has stood stands
        → Rounds fits count s.asker i j s.book s.spares e.book e.spares had has stood.contents stands.synced stands.contents (session_round part)
    rounded parts.More settled over r = absurd (settled refl)
    rounded parts.Served settled over r = to_wait parts.Served r r.lines.whole r.lines.ends.0 r.lines.ends.1 r.lines.ends.2
    rounded parts.Ended settled over r = to_end parts.Ended r r.lines.whole (subst IsLine (sym r.lines.ends.0) tt) r.lines.ends.1
    rounded parts.Torn settled over r = to_end parts.Torn r r.lines.whole r.lines.ends.0 r.lines.ends.2
    rounded parts.Over settled over r = absurd (let no : false ≡ true = over refl in cc)

    pub replayed : (end : End) → (end ≡ ends.Over → false ≡ true) → Serves (ServesScript fits count) KeepsAll false false (2 ^ 64 - 1) (round_of end) i j s e had has stood stands
        → ReplaysJournaled fits count s.asker i j s.book s.spares e.book e.spares had has stood.contents stands.synced stands.contents
    replayed ends.Input over r = to_end parts.Ended r r.lines.whole (subst IsLine (sym r.lines.ends.0) tt) r.lines.ends.1
    replayed ends.Torn over r = to_end parts.Torn r r.lines.whole r.lines.ends.0 r.lines.ends.2
    replayed ends.Over over r = absurd (let no : false ≡ true = over refl in cc)

    -- ---- with a fault

    module _ (fault : SessionFault) (r : Stops (ServesScript fits count) (λ x line halt y. ⊥) KeepsAll KeepsFront false false false fault i j s e had has stood stands) where
      first : Output fits count (lines_of r.read) s r.mid r.told r.kept
      first = all_output fits count (lines_of r.read) s r.mid r.told r.kept r.all

      last : Output fits count (lines_of r.last) r.mid r.reached r.last_told r.last_kept
      last = all_output fits count (lines_of r.last) r.mid r.reached r.last_told r.last_kept r.last_all

      both : Output fits count (lines_of (r.read ++ r.last)) s r.reached (r.told ++ r.last_told) (joined r.kept r.last_kept)
      both = all_output fits count (lines_of (r.read ++ r.last)) s r.reached (r.told ++ r.last_told) (joined r.kept r.last_kept)
          (texts_join (ServesScript fits count) r.read r.last s r.mid r.reached r.told r.last_told r.kept r.last_kept r.whole r.all r.last_all)

      last_whole : EndsLine r.last
      last_whole = elim r.last_whole [
        | inl whole ↦ whole
        | inr end ↦ absurd (let no : false ≡ true = end.0 in cc)
      ]

      pub left_off : LeavesOff (λ x line halt y. ⊥) false fault j r.begun r.reached e
      left_off = elim r.left_off [
        | inl left ↦ left
        | inr over ↦ absurd (let no : false ≡ true = over.0 in cc)
      ]

      first_stands : Appends stood.contents r.settled.contents (lines_for first.added)
      first_stands = subst (λ (k : Records). Appends stood.contents r.settled.contents k.log) first.kept_is r.stood_on.appends

      -- nothing was told of the last round
      pub untold : (f : JournaledFault) → e ≡ r.reached → Keeps r.between has → Keeps r.settled.synced stands.synced → WritesFront r.settled.contents stands.contents r.last_kept.log
          → HasCause f j stands.failed (length (lines_of r.read) + length (lines_of r.last))
          → Journaled fits count s.asker f i j s.book s.spares e.book e.spares had has stood.contents stands.failed stands.synced stands.contents
      untold f same silent stays front cause = record {
        read = r.read;
        replies = first.replies;
        added = first.added;
        mid = r.mid.book;
        held = r.mid.spares;
        serves = serves_lines r.read s r.mid r.told r.kept r.whole first;
        told = front_all had has (text_of first.replies) (subst (λ (t : List ℕ). Appends had has t) first.told_is (Appends-kept had r.between has r.told r.wrote silent));
        kept = r.settled.contents;
        stands = first_stands;
        synced_is = subst (λ (b : Option (List ℕ)). Keeps b stands.synced) r.stood_on.safe stays;
        more = r.last;
        more_replies = last.replies;
        later = last.added;
        serves_more = subst (λ (x : Scripted X). ServesLines fits count s.asker r.mid.book r.mid.spares x.book x.spares r.last last.replies last.added) (sym same)
            (subst (λ (f : Asker). ServesLines fits count f r.mid.book r.mid.spares r.reached.book r.reached.spares r.last last.replies last.added) first.asker_is
            (serves_lines r.last r.mid r.reached r.last_told r.last_kept last_whole last));
        behind = subst (λ (k : Records). WritesFront r.settled.contents stands.contents k.log) last.kept_is front;
        begun = r.begun;
        takes = r.takes;
        cause = cause;
      }

      pub nothing_kept : (f : JournaledFault) → e ≡ r.reached → HasCause f j stands.failed (length (lines_of r.read) + length (lines_of r.last)) → NothingKept fault r.between has r.settled stands
          → Journaled fits count s.asker f i j s.book s.spares e.book e.spares had has stood.contents stands.failed stands.synced stands.contents
      nothing_kept f same cause none =
          untold f same none.untold (subst (λ (h : Held). Keeps r.settled.synced h.synced) (sym none.as_it_was) (Keeps-refl r.settled.synced))
          (none_written r.settled.contents stands.contents r.last_kept.log (subst (λ (h : Held). Keeps r.settled.contents h.contents) (sym none.as_it_was) (Keeps-refl r.settled.contents))) cause

      pub not_all_kept : e ≡ r.reached → NotAllKept KeepsFront fault r.last_kept r.between has r.settled stands
          → Journaled fits count s.asker Unjournaled i j s.book s.spares e.book e.spares had has stood.contents stands.failed stands.synced stands.contents
      not_all_kept same part = untold Unjournaled same part.untold part.front.stays part.front.front part.front.failed

      pub not_all_told : e ≡ r.reached → NotAllTold KeepsAll fault r.last_told r.last_kept r.between has r.settled stands
          → Journaled fits count s.asker Unwritten i j s.book s.spares e.book e.spares had has stood.contents stands.failed stands.synced stands.contents
      not_all_told same part = record {
        read = r.read ++ r.last;
        replies = both.replies;
        added = both.added;
        mid = e.book;
        held = e.spares;
        serves = subst (λ (x : Scripted X). ServesLines fits count s.asker s.book s.spares x.book x.spares (r.read ++ r.last) both.replies both.added) (sym same)
            (serves_lines (r.read ++ r.last) s r.reached (r.told ++ r.last_told) (joined r.kept r.last_kept) (ends_both r.read r.last r.whole last_whole) both);
        told = subst (λ (t : List ℕ). WritesFront had has t) both.told_is (front_after had r.between has r.told r.last_told r.wrote part.front);
        kept = stands.contents;
        stands = subst (λ (k : Records). Appends stood.contents stands.contents k.log) both.kept_is (keeps_both stood r.settled stands r.kept r.last_kept r.stood_on part.all_kept).appends;
        synced_is = subst (λ (b : Option (List ℕ)). Keeps stands.contents b) (sym part.all_kept.safe) (Keeps-refl stands.contents);
        more = [];
        more_replies = [];
        later = [];
        serves_more = serves_nothing s.asker e.book e.spares;
        behind = none_written stands.contents stands.contents [] (Keeps-refl stands.contents);
        begun = r.begun;
        takes = subst (λ (l : List ℕ). Takes i j l) (sym (append_assoc r.read r.last r.begun)) r.takes;
        cause = tt;
      }

      pub named : stands.name ≡ stood.name
      named = elim r.left_so [
        | inl none ↦ ap (λ (h : Held). h.name) none.as_it_was ∙ r.stood_on.name_is
        | inr (inl part) ↦ part.front.name_is ∙ r.stood_on.name_is
        | inr (inr part) ↦ part.all_kept.name_is ∙ r.stood_on.name_is
      ]

      pub ends_as : e ≡ r.reached → (e.seat ≡ s.seat) × (e.room ≡ s.room) × (length s.book.history ≤ s.most → length e.book.history ≤ s.most)
      ends_as same = (
        ap (λ (x : Scripted X). x.seat) same ∙ both.seat_is,
        ap (λ (x : Scripted X). x.room) same ∙ both.room_is,
        λ fit. subst (λ (x : Scripted X). length x.book.history ≤ s.most) (sym same) (both.within fit),
      )

    pub same_end : (fault : SessionFault) (r : Stops (ServesScript fits count) (λ x line halt y. ⊥) KeepsAll KeepsFront false false false fault i j s e had has stood stands) → e ≡ r.reached
    same_end faults.Broken r = (left_off faults.Broken r).1
    same_end faults.Endless r = (left_off faults.Endless r).1
    same_end faults.Unwritten r = (left_off faults.Unwritten r).1
    same_end faults.Unkept r = (left_off faults.Unkept r).1
    same_end faults.NoMemory r = absurd (left_off faults.NoMemory r).halted
    same_end faults.Failed r = absurd (left_off faults.Failed r).halted

    pub stopped : (fault : SessionFault) (r : Stops (ServesScript fits count) (λ x line halt y. ⊥) KeepsAll KeepsFront false false false fault i j s e had has stood stands)
        → Journaled fits count s.asker (session_fault fault) i j s.book s.spares e.book e.spares had has stood.contents stands.failed stands.synced stands.contents
    stopped faults.Broken r = elim r.left_so [
      | inl none ↦ nothing_kept faults.Broken r Broken (same_end faults.Broken r) tt none
      | inr (inl part) ↦ absurd (let no : faults.Broken ≡ faults.Unkept = part.is in cc)
      | inr (inr part) ↦ absurd (let no : faults.Broken ≡ faults.Unwritten = part.is in cc)
    ]
    stopped faults.Endless r = elim r.left_so [
      | inl none ↦ nothing_kept faults.Endless r Endless (same_end faults.Endless r) r.cause none
      | inr (inl part) ↦ absurd (let no : faults.Endless ≡ faults.Unkept = part.is in cc)
      | inr (inr part) ↦ absurd (let no : faults.Endless ≡ faults.Unwritten = part.is in cc)
    ]
    stopped faults.Unwritten r = elim r.left_so [
      | inl none ↦ nothing_kept faults.Unwritten r Unwritten (same_end faults.Unwritten r) tt none
      | inr (inl part) ↦ absurd (let no : faults.Unwritten ≡ faults.Unkept = part.is in cc)
      | inr (inr part) ↦ not_all_told faults.Unwritten r (same_end faults.Unwritten r) part
    ]
    stopped faults.Unkept r = elim r.left_so [
      | inl none ↦ absurd (none.other refl)
      | inr (inl part) ↦ not_all_kept faults.Unkept r (same_end faults.Unkept r) part
      | inr (inr part) ↦ absurd (let no : faults.Unkept ≡ faults.Unwritten = part.is in cc)
    ]
    stopped faults.NoMemory r = absurd (left_off faults.NoMemory r).halted
    stopped faults.Failed r = absurd (left_off faults.Failed r).halted

-- the same of a machine that stood so, and stands so
module _ {X : Type 0} (fits : X → Floor → Bool) (count : X → ℕ) (seat room : ℕ) (book : Seen) (spares : List X) (asker : Asker) (most replies first clock : ℕ) (waiting : List Answer)
    (seats rooms : ℕ) (books : Seen) (lefts : List X) (askers : Asker) (mosts told firsts clocks : ℕ) (waits : List Answer) (i j : Input) (had has : Option (List ℕ)) (stood stands : Held)
    (left : Left first clock book waiting) (most_is : most ≡ 999999999) where
  abbrev start : Scripted X
  start = record { seat = seat; room = room; book = book; spares = spares; asker = asker; most = most; replies = replies }

  starts : StandsSo seat room book spares asker most replies first clock waiting start
  starts = record { seat_is = refl; room_is = refl; book_is = refl; spares_are = refl; asker_is = refl; most_is = refl; replies_are = refl; left = left }

  abbrev Ends : Scripted X → Type 0
  Ends e = StandsSo seats rooms books lefts askers mosts told firsts clocks waits e

  -- the references are the same, and the history has not grown too long
  pub record Stays : Type 0 where
    pub seat_is : seats ≡ seat
    pub room_is : rooms ≡ room
    pub name_is : stands.name ≡ stood.name
    pub few : length book.history < 10 ^ 9 → length books.history < 10 ^ 9

  stays : (e : Scripted X) → Ends e → e.seat ≡ seat → e.room ≡ room → stands.name ≡ stood.name → (length book.history ≤ most → length e.book.history ≤ most) → Stays
  stays e t same_seat same_room same_name within = record {
    seat_is = t.seat_is ∙ same_seat;
    room_is = t.room_is ∙ same_room;
    name_is = same_name;
    few = λ fit.
        let long : length books.history ≡ length e.book.history = ap (λ (b : Seen). length b.history) t.book_is in
        let room = within (omega (arith, most_is, fit)) in
        omega (arith, most_is, long, room);
  }

  pub rounded_so : (part : Part) → part ≢ parts.More → (part ≡ parts.Over → false ≡ true)
      → ((s : Scripted X) → StandsSo seat room book spares asker most replies first clock waiting s
      → (e : Scripted X) × Ends e × Serves (ServesScript fits count) KeepsAll false false (2 ^ 64 - 1) part i j s e had has stood stands)
      → Rounds fits count asker i j book spares books lefts had has stood.contents stands.synced stands.contents (session_round part) × Stays
  rounded_so part settled over f =
      let t = f start starts in
      let o = all fits count i j start t.0 had has stood stands part t.2 in (
        subst (λ (b : Seen). Rounds fits count asker i j book spares b lefts had has stood.contents stands.synced stands.contents (session_round part)) (sym t.1.book_is)
            (subst (λ (xs : List X). Rounds fits count asker i j book spares t.0.book xs had has stood.contents stands.synced stands.contents (session_round part)) (sym t.1.spares_are)
            (rounded fits count i j start t.0 had has stood stands part settled over t.2)),
        stays t.0 t.1 o.seat_is o.room_is t.2.stood_on.name_is o.within,
      )

  pub replayed_so : (end : End) → (end ≡ ends.Over → false ≡ true)
      → ((s : Scripted X) → StandsSo seat room book spares asker most replies first clock waiting s
      → (e : Scripted X) × Ends e × Serves (ServesScript fits count) KeepsAll false false (2 ^ 64 - 1) (round_of end) i j s e had has stood stands)
      → ReplaysJournaled fits count asker i j book spares books lefts had has stood.contents stands.synced stands.contents × Stays
  replayed_so end over f =
      let t = f start starts in
      let o = all fits count i j start t.0 had has stood stands (round_of end) t.2 in (
        subst (λ (b : Seen). ReplaysJournaled fits count asker i j book spares b lefts had has stood.contents stands.synced stands.contents) (sym t.1.book_is)
            (subst (λ (xs : List X). ReplaysJournaled fits count asker i j book spares t.0.book xs had has stood.contents stands.synced stands.contents) (sym t.1.spares_are)
            (replayed fits count i j start t.0 had has stood stands end over t.2)),
        stays t.0 t.1 o.seat_is o.room_is t.2.stood_on.name_is o.within,
      )

  pub stopped_so : (fault : SessionFault)
      → ((s : Scripted X) → StandsSo seat room book spares asker most replies first clock waiting s
      → (e : Scripted X) × Ends e × Stops (ServesScript fits count) (λ x line halt y. ⊥) KeepsAll KeepsFront false false false fault i j s e had has stood stands)
      → Journaled fits count asker (session_fault fault) i j book spares books lefts had has stood.contents stands.failed stands.synced stands.contents × Stays
  stopped_so fault f =
      let t = f start starts in
      let o = ends_as fits count i j start t.0 had has stood stands fault t.2 (same_end fits count i j start t.0 had has stood stands fault t.2) in (
        subst (λ (b : Seen). Journaled fits count asker (session_fault fault) i j book spares b lefts had has stood.contents stands.failed stands.synced stands.contents) (sym t.1.book_is)
            (subst (λ (xs : List X). Journaled fits count asker (session_fault fault) i j book spares t.0.book xs had has stood.contents stands.failed stands.synced stands.contents) (sym t.1.spares_are)
            (stopped fits count i j start t.0 had has stood stands fault t.2)),
        stays t.0 t.1 o.0 o.1 (named fits count i j start t.0 had has stood stands fault t.2) o.2,
      )

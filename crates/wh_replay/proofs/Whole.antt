-- Lines that were served one after another, as a script.
use Rattle.std.proofs.Common.{◌≡◌, ◌≢◌, ◌∙◌, ◌≤◌, ◌+◌, ◌-◌, ◌^◌, ℕ, Bool, true, false, List, [], ◌∷◌, ◌++◌, length, Option, Some, None, Result, Ok, Err, inl, inr, sym, ap, subst, refl, arith, append_assoc, append-nil, length-append}
use Rattle.std.specs.Io.KnownBytes.{Appends, Keeps}
use Rattle.std.proofs.KnownBytes.{Appends-nil, Appends-kept}
use Rattle.wh_text.specs.Lines.{lines_of, IsLine}
use Rattle.wh_lines.specs.Text.{EndsLine}
use Rattle.wh_lines.specs.Input.{Input, left, Takes}
use Rattle.wh_lines.specs.Output.{WritesFront}
use Rattle.wh_lines.proofs.Written.{front_kept}
use Rattle.wh_grid.specs.Grids.{Floor}
use Rattle.wh_event.specs.declared.event.Command.{Command}
use Rattle.wh_event.specs.declared.entry.Entry.{Entry}
use Rattle.wh_event.specs.declared.fault.LineFault.{LineFault}
use Rattle.wh_event.specs.declared.fault.LineFault.TheVariants as lines
use Rattle.wh_book.specs.Drafts.{Seen}
use Rattle.wh_token.specs.Runs.{entries_of}
use Rattle.wh_log.specs.Told.{Answered, told_text}
use Rattle.wh_session.specs.Machines.{Records, joined, fitting, ServesAll}
use Rattle.wh_session.specs.Sessions.{round_of, LeavesOff, Serves, Stops as Stopped}
use Rattle.wh_session.specs.declared.fault.End.{End}
use Rattle.wh_session.specs.declared.fault.End.TheVariants as ends
use Rattle.wh_session.specs.declared.fault.SessionFault.{SessionFault}
use Rattle.wh_session.specs.declared.fault.SessionFault.TheVariants as faults
use Rattle.wh_session.proofs.Following.{ends_both, lines_both}
use Rattle.wh_replay.specs.declared.script.ReplayFault.{ReplayFault}
use Rattle.wh_replay.specs.declared.script.ReplayFault.TheVariants.{Broken, Endless, Unwritten}
use Rattle.wh_replay.specs.Answers.{asked, answers, said, text_of}
use Rattle.wh_replay.specs.Appending.{lines_for, logged}
use Rattle.wh_replay.specs.Scripts.{Gives, IsOutputOf, Replays, Stops, WritesUntil, IsWholeUntil, HasCause, WritesToLast}
use Rattle.wh_replay.specs.declared.asker.Asker.{Asker}
use Rattle.wh_replay.specs.declared.answering.Answer.{Answer}
use Rattle.wh_replay.specs.Machines.{Scripted, StandsSo, Left, ServesScript, session_fault}
use Rattle.wh_replay.proofs.Appended.{entries_more, logged_lines}
use Rattle.wh_replay.proofs.Giving.{gives_nothing, output_join, output_one, replies_text}
use Rattle.wh_replay.proofs.Returns.{said_fits}

-- a line is told one reply or none
answers_few : (text : Answered → List ℕ) (kind : Result (Option Command) LineFault) (outcomes : List (Option Answered)) → length (answers text kind outcomes) ≤ 1
answers_few text (Ok None) outcomes = omega arith
answers_few text (Err lines.Form) outcomes = omega arith
answers_few text (Err lines.TooLong) outcomes = omega arith
answers_few text (Ok (Some command)) [] = omega arith
answers_few text (Ok (Some command)) (outcome ∷ outcomes) = omega arith

module _ {X : Type 0} (fits : X → Floor → Bool) (count : X → ℕ) where
  -- What lines were told, and how often, and the entries that they added, of which the lines are kept.
  pub record Output (lines : List (List ℕ)) (s e : Scripted X) (told : List ℕ) (kept : Records) : Type 0 where
    pub replies : List (List ℕ)
    pub output : IsOutputOf fits count s.asker lines s.book s.spares e.book e.spares replies
    pub told_is : told ≡ text_of replies
    pub added : List Entry
    pub added_are : e.book.history ≡ s.book.history ++ added
    pub kept_is : kept ≡ logged (lines_for added)
    pub within : length s.book.history ≤ s.most → length e.book.history ≤ s.most
    pub few : length replies ≤ length lines
    pub counted : s.replies + length replies ≤ 2 ^ 64 - 1 → e.replies ≡ s.replies + length replies
    pub seat_is : e.seat ≡ s.seat
    pub room_is : e.room ≡ s.room
    pub asker_is : e.asker ≡ s.asker
    pub most_is : e.most ≡ s.most

  output_none : (s e : Scripted X) (told : List ℕ) (kept : Records) → e ≡ s → told ≡ [] → kept ≡ logged [] → Output [] s e told kept
  output_none s e told kept same none nothing =
      subst (λ (x : Scripted X). Output [] s x told kept) (sym same) (record {
        replies = [];
        output = gives_nothing fits count s.asker.caller (λ outcomes. []) s.book s.spares;
        told_is = none;
        added = [];
        added_are = sym (append-nil s.book.history);
        kept_is = nothing;
        within = λ fit. fit;
        few = omega arith;
        counted = λ fit. omega arith;
        seat_is = refl;
        room_is = refl;
        asker_is = refl;
        most_is = refl;
      })

  output_more : (line : List ℕ) (lines : List (List ℕ)) (s mid e : Scripted X) (told first rest : List ℕ) (kept one others : Records) → ServesScript fits count s (fitting line) first one mid → Output lines mid e rest others
      → told ≡ first ++ rest → kept ≡ joined one others → Output (line ∷ lines) s e told kept
  output_more line lines s mid e told first rest kept one others p q is both =
      let text = told_text s.asker.form in
      let few : length p.replies ≤ 1 = subst (λ (rs : List (List ℕ)). length rs ≤ 1) (sym p.gives.replies_are) (answers_few text (said (fitting line)) _) in
      let sum = length-append p.replies q.replies in
      let here = output_one fits count s.asker line s.book s.spares mid.book mid.spares p.replies
      (subst (λ (kind : Result (Option Command) LineFault). Gives fits count s.asker.caller (asked kind) (answers text kind) s.book s.spares mid.book mid.spares p.replies) (said_fits line) p.gives) in
      let there = subst (λ f. IsOutputOf fits count f lines mid.book mid.spares e.book e.spares q.replies) p.asker_is q.output in
      record {
        replies = p.replies ++ q.replies;
        output = output_join fits count s.asker (line ∷ []) lines s.book s.spares mid.book mid.spares e.book e.spares p.replies q.replies here there;
        told_is = is ∙ ap (λ (t : List ℕ). t ++ rest) p.told_is ∙ ap (λ (t : List ℕ). text_of p.replies ++ t) q.told_is ∙ sym (replies_text p.replies q.replies);
        added = entries_of p.gives.outcomes ++ q.added;
        added_are = entries_more s.book.history mid.book.history e.book.history (entries_of p.gives.outcomes) q.added p.gives.history q.added_are;
        kept_is = both ∙ ap (λ (r : Records). joined r others) p.kept_is ∙ ap (λ (r : Records). joined (logged (lines_for (entries_of p.gives.outcomes))) r) q.kept_is ∙ sym (logged_lines (entries_of p.gives.outcomes) q.added);
        within = λ fit. subst (λ (n : ℕ). length e.book.history ≤ n) p.most_is (q.within (subst (λ (n : ℕ). length mid.book.history ≤ n) (sym p.most_is) (p.few fit)));
        few = omega (arith, sum, few, q.few);
        counted = λ fit.
            let first_is = p.counted (omega (arith, sum, fit)) in
            let rest_is = q.counted (omega (arith, sum, fit, first_is)) in
            omega (arith, sum, first_is, rest_is);
        seat_is = q.seat_is ∙ p.seat_is;
        room_is = q.room_is ∙ p.room_is;
        asker_is = q.asker_is ∙ p.asker_is;
        most_is = q.most_is ∙ p.most_is;
      }

  pub all_output : (lines : List (List ℕ)) (s e : Scripted X) (told : List ℕ) (kept : Records) → ServesAll (ServesScript fits count) lines s told kept e → Output lines s e told kept
  all_output [] s e told kept p = output_none s e told kept p.0 p.1 p.2
  all_output (line ∷ lines) s e told kept p = output_more line lines s p.0 e told p.1 p.2 kept p.3 p.4 p.5 (all_output lines p.0 e p.2 p.4 p.6) p.7 p.8

  -- both in turn
  both_output : (xs ys : List (List ℕ)) (s mid e : Scripted X) (t u : List ℕ) (k l : Records) (p : Output xs s mid t k) (q : Output ys mid e u l) → IsOutputOf fits count s.asker (xs ++ ys) s.book s.spares e.book e.spares (p.replies ++ q.replies)
  both_output xs ys s mid e t u k l p q =
      output_join fits count s.asker xs ys s.book s.spares mid.book mid.spares e.book e.spares p.replies q.replies p.output
      (subst (λ f. IsOutputOf fits count f ys mid.book mid.spares e.book e.spares q.replies) p.asker_is q.output)

  no_told : (bytes : List ℕ) (x y : Scripted X) (told : List ℕ) (kept : Records) → bytes ≡ [] → ServesAll (ServesScript fits count) (lines_of bytes) x told kept y → told ≡ []
  no_told [] x y told kept is all = all.1
  no_told (b ∷ bytes) x y told kept is all = absurd (let no : b ∷ bytes ≡ [] = is in cc)

  module _ {H : Type 0} (keeps leaves : H → Records → H → Type 0) (i j : Input) (s e : Scripted X) (had has : Option (List ℕ)) (stood stands : H) where
    -- to the reader's end
    pub replayed : (end : End) → (end ≡ ends.Over → false ≡ true) → s.replies ≡ 0 → Serves (ServesScript fits count) keeps true true (2 ^ 64 - 1) (round_of end) i j s e had has stood stands
        → Replays fits count s.asker i j s.book s.spares e.book e.spares had has e.replies × (e.seat ≡ s.seat) × (e.room ≡ s.room)
    replayed ends.Over over zero r = absurd (let no : false ≡ true = over refl in cc)
    replayed ends.Torn over zero r = absurd (let no : true ≡ false = r.lines.ends.3 in cc)
    replayed ends.Input over zero r =
        let all = all_output (lines_of r.lines.read) s e r.told r.kept r.lines.all in
        let few = r.few refl in
        let counted = all.counted (omega (arith, zero, few, all.few)) in (
          record {
            read = r.lines.read;
            takes = subst (λ (l : List ℕ). Takes i j l) (ap (λ (l : List ℕ). r.lines.read ++ l) r.lines.ends.0 ∙ append-nil r.lines.read) r.lines.takes;
            ended = r.lines.ends.1;
            replies = all.replies;
            output = all.output;
            appends = subst (λ (t : List ℕ). Appends had has t) all.told_is r.wrote;
            written_is = omega (arith, zero, counted);
          },
          all.seat_is,
          all.room_is,
        )

    module _ (none_leaves : (a : H) (r : Records) (b : H) → leaves a r b → ⊥) where
      module _ (fault : SessionFault) (r : Stopped (ServesScript fits count) (λ x line halt y. ⊥) keeps leaves true true false fault i j s e had has stood stands) where
        abbrev first : Output (lines_of r.read) s r.mid r.told r.kept
        first = all_output (lines_of r.read) s r.mid r.told r.kept r.all

        abbrev last : Output (lines_of r.last) r.mid r.reached r.last_told r.last_kept
        last = all_output (lines_of r.last) r.mid r.reached r.last_told r.last_kept r.last_all

        first_wrote : Appends had r.between (text_of first.replies)
        first_wrote = subst (λ (t : List ℕ). Appends had r.between t) first.told_is r.wrote

        -- a front of what the last line is told was written
        last_front : WritesFront r.between has (text_of last.replies)
        last_front = subst (λ (t : List ℕ). WritesFront r.between has t) last.told_is (elim r.left_so [
          | inl nothing ↦ front_kept r.between r.between has r.last_told 0 (Appends-nil r.between) nothing.untold
          | inr (inl part) ↦ absurd (none_leaves _ _ _ part.front)
          | inr (inr part) ↦ part.front
        ])

        to_last : WritesToLast had has (first.replies ++ last.replies)
        to_last = record {
          told = first.replies;
          last = last.replies;
          replies_are = refl;
          few = let few = r.few refl in omega (arith, few, last.few);
          between = r.between;
          whole = first_wrote;
          front = last_front;
        }

        -- no line was served of which nothing was told
        all_told : r.last ≡ [] → fault ≢ faults.Unwritten → Appends had has (text_of (first.replies ++ last.replies))
        all_told none other =
            let silent : r.last_told ≡ [] = no_told r.last r.mid r.reached r.last_told r.last_kept none r.last_all in
            let nothing : Keeps r.between has = elim r.left_so [
              | inl nothing ↦ nothing.untold
              | inr (inl part) ↦ absurd (none_leaves _ _ _ part.front)
              | inr (inr part) ↦ absurd (other part.is)
            ] in
            subst (λ (t : List ℕ). Appends had has t)
            (sym (replies_text first.replies last.replies ∙ ap (λ (t : List ℕ). text_of first.replies ++ t) (sym last.told_is ∙ silent) ∙ append-nil (text_of first.replies)))
            (Appends-kept had r.between has (text_of first.replies) first_wrote nothing)

        whole_none : r.last ≡ [] → EndsLine (r.read ++ r.last)
        whole_none none = subst (λ (l : List ℕ). EndsLine (r.read ++ l)) (sym none) (subst EndsLine (sym (append-nil r.read)) r.whole)

        left_off : LeavesOff (λ x line halt y. ⊥) true fault j r.begun r.reached e
        left_off = elim r.left_off [
          | inl left ↦ left
          | inr over ↦ absurd (let no : false ≡ true = over.0 in cc)
        ]

        stops_by : (f : ReplayFault) → IsLine r.begun → e ≡ r.reached → IsWholeUntil f j (r.read ++ r.last) → WritesUntil f had has (first.replies ++ last.replies) → HasCause f i j (length (lines_of r.read) + length (lines_of r.last))
            → Stops fits count s.asker f i j s.book s.spares e.book e.spares had has
        stops_by f part same whole writes cause = record {
          read = r.read ++ r.last;
          begun = r.begun;
          takes = subst (λ (l : List ℕ). Takes i j l) (sym (append_assoc r.read r.last r.begun)) r.takes;
          part = part;
          whole = whole;
          replies = first.replies ++ last.replies;
          output = subst (λ ls. IsOutputOf fits count s.asker ls s.book s.spares e.book e.spares (first.replies ++ last.replies)) (sym (r.whole r.last))
              (subst (λ (x : Scripted X). IsOutputOf fits count s.asker (lines_of r.read ++ lines_of r.last) s.book s.spares x.book x.spares (first.replies ++ last.replies)) (sym same)
              (both_output (lines_of r.read) (lines_of r.last) s r.mid r.reached r.told r.last_told r.kept r.last_kept first last));
          writes = writes;
          cause = subst (λ (n : ℕ). HasCause f i j n) (sym (lines_both r.read r.last r.whole)) cause;
        }

        kept_seats : e ≡ r.reached → (e.seat ≡ s.seat) × (e.room ≡ s.room)
        kept_seats same = (
          ap (λ (x : Scripted X). x.seat) same ∙ last.seat_is ∙ first.seat_is,
          ap (λ (x : Scripted X). x.room) same ∙ last.room_is ∙ first.room_is,
        )

      -- a beginning of the script
      pub stopped : (fault : SessionFault) → Stopped (ServesScript fits count) (λ x line halt y. ⊥) keeps leaves true true false fault i j s e had has stood stands
          → Stops fits count s.asker (session_fault fault) i j s.book s.spares e.book e.spares had has × (e.seat ≡ s.seat) × (e.room ≡ s.room)
      stopped faults.Broken r =
          let none : r.last ≡ [] = r.none refl (λ is. let no : faults.Broken ≡ faults.Unkept = is in cc) (λ is. let no : faults.Broken ≡ faults.Unwritten = is in cc) in
          let left = left_off faults.Broken r in (
            stops_by faults.Broken r Broken left.0 left.1 (whole_none faults.Broken r none) (all_told faults.Broken r none (λ is. let no : faults.Broken ≡ faults.Unwritten = is in cc)) r.cause,
            (kept_seats faults.Broken r left.1).0,
            (kept_seats faults.Broken r left.1).1,
          )
      stopped faults.Endless r =
          let none : r.last ≡ [] = r.none refl (λ is. let no : faults.Endless ≡ faults.Unkept = is in cc) (λ is. let no : faults.Endless ≡ faults.Unwritten = is in cc) in
          let left = left_off faults.Endless r in (
            stops_by faults.Endless r Endless left.0 left.1 (whole_none faults.Endless r none) (all_told faults.Endless r none (λ is. let no : faults.Endless ≡ faults.Unwritten = is in cc)) r.cause,
            (kept_seats faults.Endless r left.1).0,
            (kept_seats faults.Endless r left.1).1,
          )
      stopped faults.Unwritten r =
          let left = left_off faults.Unwritten r in (
            stops_by faults.Unwritten r Unwritten left.0 left.1
                (elim r.last_whole [
                  | inl whole ↦ inl (ends_both r.read r.last r.whole whole)
                  | inr at_end ↦ inr at_end.1
                ]) (to_last faults.Unwritten r) tt,
            (kept_seats faults.Unwritten r left.1).0,
            (kept_seats faults.Unwritten r left.1).1,
          )
      stopped faults.Unkept r = absurd (elim r.left_so [
        | inl nothing ↦ nothing.other refl
        | inr (inl part) ↦ none_leaves _ _ _ part.front
        | inr (inr part) ↦ (let no : faults.Unkept ≡ faults.Unwritten = part.is in cc)
      ])
      stopped faults.NoMemory r = absurd (left_off faults.NoMemory r).halted
      stopped faults.Failed r = absurd (left_off faults.Failed r).halted

-- the same of a machine that stood so, and stands so
module _ {X : Type 0} (fits : X → Floor → Bool) (count : X → ℕ) (seat room : ℕ) (book : Seen) (spares : List X) (asker : Asker) (most replies first clock : ℕ) (waiting : List Answer)
    (seats rooms : ℕ) (books : Seen) (lefts : List X) (askers : Asker) (mosts told firsts clocks : ℕ) (waits : List Answer) {H : Type 0} (keeps leaves : H → Records → H → Type 0) (i j : Input) (had has : Option (List ℕ)) (stood stands : H)
    (left : Left first clock book waiting) where
  abbrev start : Scripted X
  start = record { seat = seat; room = room; book = book; spares = spares; asker = asker; most = most; replies = replies }

  pub starts : StandsSo seat room book spares asker most replies first clock waiting start
  starts = record { seat_is = refl; room_is = refl; book_is = refl; spares_are = refl; asker_is = refl; most_is = refl; replies_are = refl; left = left }

  abbrev Ends : Scripted X → Type 0
  Ends e = StandsSo seats rooms books lefts askers mosts told firsts clocks waits e

  pub replayed_so : (end : End) → (end ≡ ends.Over → false ≡ true) → replies ≡ 0
      → ((s : Scripted X) → StandsSo seat room book spares asker most replies first clock waiting s → (e : Scripted X) × Ends e × Serves (ServesScript fits count) keeps true true (2 ^ 64 - 1) (round_of end) i j s e had has stood stands)
      → Replays fits count asker i j book spares books lefts had has told × (seats ≡ seat) × (rooms ≡ room)
  replayed_so end over zero f =
      let t = f start starts in
      let r = replayed fits count keeps leaves i j start t.0 had has stood stands end over zero t.2 in (
        subst (λ (n : ℕ). Replays fits count asker i j book spares books lefts had has n) (sym t.1.replies_are)
            (subst (λ (b : Seen). Replays fits count asker i j book spares b lefts had has t.0.replies) (sym t.1.book_is)
            (subst (λ (xs : List X). Replays fits count asker i j book spares t.0.book xs had has t.0.replies) (sym t.1.spares_are) r.0)),
        t.1.seat_is ∙ r.1,
        t.1.room_is ∙ r.2,
      )

  pub stopped_so : ((a : H) (r : Records) (b : H) → leaves a r b → ⊥) → (fault : SessionFault)
      → ((s : Scripted X) → StandsSo seat room book spares asker most replies first clock waiting s
      → (e : Scripted X) × Ends e × Stopped (ServesScript fits count) (λ x line halt y. ⊥) keeps leaves true true false fault i j s e had has stood stands)
      → Stops fits count asker (session_fault fault) i j book spares books lefts had has × (seats ≡ seat) × (rooms ≡ room)
  stopped_so none fault f =
      let t = f start starts in
      let r = stopped fits count keeps leaves i j start t.0 had has stood stands none fault t.2 in (
        subst (λ (b : Seen). Stops fits count asker (session_fault fault) i j book spares b lefts had has) (sym t.1.book_is)
            (subst (λ (xs : List X). Stops fits count asker (session_fault fault) i j book spares t.0.book xs had has) (sym t.1.spares_are) r.0),
        t.1.seat_is ∙ r.1,
        t.1.room_is ∙ r.2,
      )

-- a script that is served by the one loop, with a warehouse and its vehicles for the machine
use Rattle.std.proofs.Common.{◌≡◌, ◌≢◌, ℕ, ◌+◌, ◌≤◌, ◌<◌, ◌⊎◌, ◌∙◌, List, [], ◌∷◌, ◌++◌, length, take, drop, Option, inl, inr, sym, subst, refl, ap, append-nil, append_assoc, Bool, true, false, arith, rules}
use Rattle.std.specs.Io.KnownBytes.{Appends, Keeps, IsAtEnd}
use Rattle.std.proofs.KnownBytes.{Appends-nil, Appends-kept, Appends-trans}
use Rattle.std.proofs.lemmas.Bool.Decides.{leb_tells}
use Rattle.std.proofs.lemmas.List.{take_all, take-take, length-take}
use Rattle.wh_text.specs.Lines.{lines_of, without_cr, IsLine}
use Rattle.wh_text.proofs.CutLemmas.{lines-feed, lines-last}
use Rattle.wh_lines.specs.Text.{EndsLine, short_line}
use Rattle.wh_lines.specs.Input.{Input, left, Takes}
use Rattle.wh_lines.specs.Output.{WritesFront}
use Rattle.wh_lines.proofs.Cuts.{whole_next}
use Rattle.wh_lines.proofs.Written.{front_kept, front_after}
use Rattle.wh_session.specs.Machines as sessions
use Rattle.wh_session.specs.Machines.{Records}
use Rattle.wh_session.specs.Sessions as rounds
use Rattle.wh_session.specs.declared.machine.Halt.{Halt}
use Rattle.wh_session.specs.declared.machine.Halt.TheVariants as halts
use Rattle.wh_session.specs.declared.fault.End.{End}
use Rattle.wh_session.specs.declared.fault.End.TheVariants as ends
use Rattle.wh_session.specs.declared.fault.Round.TheVariants.{Ended}
use Rattle.wh_session.specs.declared.fault.SessionFault.{SessionFault}
use Rattle.wh_session.specs.declared.fault.SessionFault.TheVariants as session
use Rattle.wh_session.proofs.Following.{ends_both}
use Rattle.wh_grid.specs.Grids.{Floor}
use Rattle.wh_book.specs.Drafts.{Seen}
use Rattle.wh_replay.specs.declared.asker.Asker.{Asker}
use Rattle.wh_replay.specs.Answers.{text_of}
use Rattle.wh_replay.specs.Scripts.{HasCause, IsWholeUntil}
use Rattle.wh_drive.specs.Drives.{Drive}
use Rattle.wh_dispatch.specs.declared.script.DispatchFault.{DispatchFault}
use Rattle.wh_dispatch.specs.declared.script.DispatchFault.TheVariants.{Broken, Endless, Unwritten, NoMemory, NoRoom}
use Rattle.wh_dispatch.specs.Crews.{Crew, IsManned}
use Rattle.wh_dispatch.specs.Lines.{Depot, Heard, heard, TakesLine, ServesLine, ServesAll}
use Rattle.wh_dispatch.specs.Scripts.{plain_fault, ServesThrough, LeavesOff, ServesUntil, WritesUntil, Dispatches, Stops, DispatchesFrom, StopsFrom}
use Rattle.wh_dispatch.specs.Manning.{Manning, Names, StandsSo, AreAlike, ServesManned, IsTakenTo, IsNotBegun, HaltsManned, IsWrittenOr, EndsSo}
use Rattle.wh_dispatch.proofs.Manning.{heard_is, begun_by, begun_stands, depot_is, Came, came, served_all}

-- what a fault says of the bytes, where a line was begun
begun_whole : (fault : DispatchFault) (a b : Option (List ℕ)) (bytes : List ℕ) → WritesUntil fault a b bytes → (after : Input) (read : List ℕ) → EndsLine read ⊎ IsAtEnd (left after) → IsWholeUntil (plain_fault fault) after read
begun_whole Broken a b bytes w after read whole = absurd w
begun_whole Endless a b bytes w after read whole = absurd w
begun_whole Unwritten a b bytes w after read whole = whole
begun_whole NoMemory a b bytes w after read whole = whole
begun_whole NoRoom a b bytes w after read whole = whole

begun_cause : (fault : DispatchFault) (a b : Option (List ℕ)) (bytes : List ℕ) → WritesUntil fault a b bytes → (i k : Input) (lines : ℕ) → HasCause (plain_fault fault) i k lines
begun_cause Broken a b bytes w i k lines = absurd w
begun_cause Endless a b bytes w i k lines = absurd w
begun_cause Unwritten a b bytes w i k lines = tt
begun_cause NoMemory a b bytes w i k lines = tt
begun_cause NoRoom a b bytes w i k lines = tt

until_after : (fault : DispatchFault) (a b c : Option (List ℕ)) (bytes : List ℕ) → Keeps a b → WritesUntil fault b c bytes → WritesUntil fault a c bytes
until_after Unwritten a b c bytes k w = front_after a b c [] bytes (Appends-kept a a b [] (Appends-nil a) k) w
until_after NoRoom a b c bytes k w = front_after a b c [] bytes (Appends-kept a a b [] (Appends-nil a) k) w
until_after Broken a b c bytes k w = absurd w
until_after Endless a b c bytes k w = absurd w
until_after NoMemory a b c bytes k w = Appends-trans a b c [] bytes (Appends-kept a a b [] (Appends-nil a) k) w

none_written : (a b : Option (List ℕ)) (bytes : List ℕ) → Keeps a b → WritesFront a b bytes
none_written a b bytes k = front_kept a a b bytes 0 (Appends-nil a) k

no_front : (n : ℕ) → take {A = ℕ} n [] ≡ []
no_front n = search rules

-- a front of a front
shorter : (m n : ℕ) (xs : List ℕ) → (k : ℕ) × (take m (take n xs) ≡ take k xs)
shorter m n xs = elim (leb_tells m n) [
  | inl few ↦ (m, take-take m n xs few.1)
  | inr many ↦ (n, take_all m (take n xs) (omega (arith, length-take n xs, many.1)))
]

front_of_front : (n : ℕ) (xs : List ℕ) (a b : Option (List ℕ)) → WritesFront a b (take n xs) → WritesFront a b xs
front_of_front n xs a b w =
    let k = shorter w.count n xs in
    record { count = k.0; appends = subst (Appends a b) k.1 w.appends }

-- where a line was left, what waits of it was written, or a front
all_left : (so : DispatchFault) (a b : Option (List ℕ)) (said bytes : List ℕ) → said ≡ bytes → IsWrittenOr NoMemory so a b said → WritesUntil so a b bytes
all_left so a b said bytes same (inl done) = subst (λ (f : DispatchFault). WritesUntil f a b bytes) (sym done.0) (subst (Appends a b) same done.1)
all_left so a b said bytes same (inr cut) = subst (λ (f : DispatchFault). WritesUntil f a b bytes) (sym cut.0) (subst (WritesFront a b) same cut.1)

front_left : (so : DispatchFault) (a b : Option (List ℕ)) (said bytes : List ℕ) (count : ℕ) → said ≡ take count bytes → IsWrittenOr NoRoom so a b said → WritesUntil so a b bytes
front_left so a b said bytes count same (inl done) =
    subst (λ (f : DispatchFault). WritesUntil f a b bytes) (sym done.0) (record { count = count; appends = subst (Appends a b) same done.1 })
front_left so a b said bytes count same (inr cut) =
    subst (λ (f : DispatchFault). WritesUntil f a b bytes) (sym cut.0) (front_of_front count bytes a b (subst (WritesFront a b) same cut.1))

-- a front of no bytes
front_none : (a b c : Option (List ℕ)) (xs : List ℕ) → Appends a b xs → WritesFront b c [] → Appends a c xs
front_none a b c xs p w = subst (λ (l : List ℕ). Appends a c l) (append-nil xs) (Appends-trans a b c xs [] p (subst (λ (l : List ℕ). Appends b c l) (no_front w.count) w.appends))

module _ {X : Type 0} (fits : X → Floor → Bool) (count : X → ℕ) where
  left_until : (asker : Asker) (bound : ℕ) (fault : DispatchFault) (lines : List (List ℕ)) (old new : Depot X) (a b : Option (List ℕ)) → LeavesOff fits count asker bound fault lines old new a b →
      ServesUntil fits count asker bound fault lines old new a b
  left_until asker bound Broken lines old new a b l = absurd l.writes
  left_until asker bound Endless lines old new a b l = absurd l.writes
  left_until asker bound Unwritten lines old new a b l = inr l
  left_until asker bound NoMemory lines old new a b l = l
  left_until asker bound NoRoom lines old new a b l = l

  -- the same lines, and then one that was begun
  begun_after : (lines : List (List ℕ)) (s m e : Manning X) (told : List ℕ) (line : List ℕ) (fault : DispatchFault) (a b c : Option (List ℕ)) (texts : List (List ℕ)) (records : Records) → Came fits count false lines s m told records → Appends a b told →
      TakesLine fits count m.asker m.bound (heard line) m.depot e.depot texts → WritesUntil fault b c (text_of texts) → LeavesOff fits count s.asker s.bound fault (lines ++ line ∷ []) s.depot e.depot a c
  begun_after lines s m e told line fault a b c texts records before wrote takes writes = record {
    before = lines;
    line = line;
    lines_are = refl;
    mid = m.depot;
    between = b;
    through = record { texts = before.texts; serves = served_all fits count false lines s m told records before; appends = subst (λ (t : List ℕ). Appends a b t) before.told_is wrote };
    texts = texts;
    takes = subst (λ (n : ℕ). TakesLine fits count s.asker n (heard line) m.depot e.depot texts) before.alike.bound_is
        (subst (λ (f : Asker). TakesLine fits count f m.bound (heard line) m.depot e.depot texts) before.alike.asker_is takes);
    writes = writes;
  }

  -- and then one of which a front of what it is told was written, or none
  unwritten_after : (lines more : List (List ℕ)) (s m e : Manning X) (told last : List ℕ) (records later : Records) (a b c : Option (List ℕ)) → length more ≤ 1 → Came fits count false lines s m told records → Appends a b told → Came fits count false more m e last later → WritesFront b c last →
      ServesUntil fits count s.asker s.bound Unwritten (lines ++ more) s.depot e.depot a c
  unwritten_after lines [] s m e told last records later a b c few before wrote after front =
      let one = served_all fits count false [] m e last later after in
      let all = subst (λ (d : Depot X). ServesAll fits count s.asker s.bound lines s.depot d before.texts) (sym one.0) (served_all fits count false lines s m told records before) in
      let none : last ≡ [] = after.told_is ∙ ap (λ (t : List (List ℕ)). text_of t) one.1 in
      let appends = front_none a b c told wrote (subst (λ (t : List ℕ). WritesFront b c t) none front) in
      subst (λ (l : List (List ℕ)). ServesUntil fits count s.asker s.bound Unwritten l s.depot e.depot a c) (sym (append-nil lines))
      (inl (record { texts = before.texts; serves = all; appends = subst (λ (t : List ℕ). Appends a c t) before.told_is appends }))
  unwritten_after lines (line ∷ []) s m e told last records later a b c few before wrote after front =
      let one = served_all fits count false (line ∷ []) m e last later after in
      let did = subst (λ (d : Depot X). ServesLine fits count m.asker m.bound (heard line) m.depot d one.1) (sym one.4.0) one.3 in
      let says : last ≡ text_of one.1 = after.told_is ∙ ap (λ (t : List (List ℕ)). text_of t) (one.5 ∙ ap (λ (t : List (List ℕ)). one.1 ++ t) one.4.1 ∙ append-nil one.1) in
      inr (begun_after lines s m e told line Unwritten a b c one.1 records before wrote did.takes (subst (λ (t : List ℕ). WritesFront b c t) says front))
  unwritten_after lines (line ∷ (next ∷ others)) s m e told last records later a b c few before wrote after front = absurd (omega (arith, few))

  module _ {H : Type 0} (keeps leaves : H → Records → H → Type 0) (never : (a : H) (r : Records) (b : H) → leaves a r b → ⊥) (i k : Input) (s e : Manning X) (going : s.halted ≡ false) (had has : Option (List ℕ)) (stood stands : H) where
    serves_whole : (most : ℕ) → rounds.Serves (ServesManned fits count false) keeps true true most Ended i k s e had has stood stands →
        (e.halted ≡ false) × AreAlike s e × Dispatches fits count s.asker s.bound i k s.depot e.depot had has
    serves_whole most r =
        let c = came fits count false (lines_of r.lines.read) s e r.told r.kept going r.lines.all in
        let none : r.lines.begun ≡ [] = r.lines.ends.0 in (
          c.going,
          c.alike,
          record {
            read = r.lines.read;
            takes = subst (λ (b : List ℕ). Takes i k b) (ap (λ (b : List ℕ). r.lines.read ++ b) none ∙ append-nil r.lines.read) r.lines.takes;
            ended = r.lines.ends.1;
            texts = c.texts;
            serves = served_all fits count false (lines_of r.lines.read) s e r.told r.kept c;
            appends = subst (λ (t : List ℕ). Appends had has t) c.told_is r.wrote;
          },
        )

    pub serves_end : (most : ℕ) (end : End) → (end ≡ ends.Over → ⊥) → rounds.Serves (ServesManned fits count false) keeps true true most (rounds.round_of end) i k s e had has stood stands →
        (e.halted ≡ false) × AreAlike s e × Dispatches fits count s.asker s.bound i k s.depot e.depot had has
    serves_end most ends.Input not r = serves_whole most r
    serves_end most ends.Torn not r = (let clash : true ≡ false = r.lines.ends.3 in cc)
    serves_end most ends.Over not r = absurd (not refl)

    abbrev Stopped : SessionFault → Type 0
    Stopped fault = rounds.Stops (ServesManned fits count false) (HaltsManned fits count false) keeps leaves true true false fault i k s e had has stood stands

    read_came : (fault : SessionFault) (r : Stopped fault) → Came fits count false (lines_of r.read) s r.mid r.told r.kept
    read_came fault r = came fits count false (lines_of r.read) s r.mid r.told r.kept going r.all

    last_came : (fault : SessionFault) (r : Stopped fault) → Came fits count false (lines_of r.last) r.mid r.reached r.last_told r.last_kept
    last_came fault r = came fits count false (lines_of r.last) r.mid r.reached r.last_told r.last_kept (read_came fault r).going r.last_all

    -- nothing was told of the last round, where the writer did not fail
    untold : (fault : SessionFault) → fault ≢ session.Unwritten → (r : Stopped fault) → Keeps r.between has
    untold fault not r = elim r.left_so [
      | inl none ↦ none.untold
      | inr (inl some) ↦ absurd (never r.settled r.last_kept stands some.front)
      | inr (inr all) ↦ absurd (not all.is)
    ]

    -- no line stands behind the rounds
    none_last : (fault : SessionFault) → fault ≢ session.Unkept → fault ≢ session.Unwritten → (r : Stopped fault) → r.reached ≡ r.mid
    none_last fault a b r =
        let here = subst (λ (l : List ℕ). sessions.ServesAll (ServesManned fits count false) (lines_of l) r.mid r.last_told r.last_kept r.reached) (r.none refl a b) r.last_all in
        here.0

    off : (fault : SessionFault) (r : Stopped fault) → rounds.LeavesOff (HaltsManned fits count false) true fault k r.begun r.reached e
    off fault r = elim r.left_off [
      | inl here ↦ here
      | inr over ↦ (let clash : false ≡ true = over.0 in cc)
    ]

    all_taken : (fault : SessionFault) (r : Stopped fault) → Takes i k ((r.read ++ r.last) ++ r.begun)
    all_taken fault r = subst (λ (b : List ℕ). Takes i k b) (sym (append_assoc r.read r.last r.begun)) r.takes

    -- the reader failed, or was asked too often
    stops_between : (fault : SessionFault) (known : DispatchFault) → fault ≢ session.Unkept → fault ≢ session.Unwritten → (r : Stopped fault) → IsLine r.begun × (e ≡ r.reached) →
        IsWholeUntil (plain_fault known) k r.read → HasCause (plain_fault known) i k (length (lines_of r.read)) →
        ((old new : Depot X) → ServesThrough fits count s.asker s.bound (lines_of r.read) old new had has → ServesUntil fits count s.asker s.bound known (lines_of r.read) old new had has) →
        Stops fits count s.asker s.bound known i k s.depot e.depot had has
    stops_between fault known a b r end whole cause until =
        let c = read_came fault r in
        let here : e ≡ r.mid = end.1 ∙ none_last fault a b r in
        record {
          read = r.read;
          begun = r.begun;
          takes = subst (λ (l : List ℕ). Takes i k (r.read ++ (l ++ r.begun))) (r.none refl a b) r.takes;
          part = end.0;
          whole = whole;
          serves = until s.depot e.depot (record {
            texts = c.texts;
            serves = subst (λ (m : Manning X). ServesAll fits count s.asker s.bound (lines_of r.read) s.depot m.depot c.texts) (sym here) (served_all fits count false (lines_of r.read) s r.mid r.told r.kept c);
            appends = subst (λ (t : List ℕ). Appends had has t) c.told_is (Appends-kept had r.between has r.told r.wrote (untold fault b r));
          });
          cause = cause;
        }

    no_more : (fault : SessionFault) → fault ≢ session.Unkept → fault ≢ session.Unwritten → (r : Stopped fault) → length (lines_of r.read) + length (lines_of r.last) ≡ length (lines_of r.read)
    no_more fault a b r =
        let none : length (lines_of r.last) ≡ 0 = ap (λ (l : List ℕ). length (lines_of l)) (r.none refl a b) in
        omega (arith, none)

    -- the writer failed
    stops_unwritten : Stopped session.Unwritten → Stops fits count s.asker s.bound Unwritten i k s.depot e.depot had has
    stops_unwritten r =
        let before = read_came session.Unwritten r in
        let after = last_came session.Unwritten r in
        let end = off session.Unwritten r in
        let front : WritesFront r.between has r.last_told = elim r.left_so [
          | inl none ↦ none_written r.between has r.last_told none.untold
          | inr (inl some) ↦ absurd (never r.settled r.last_kept stands some.front)
          | inr (inr all) ↦ all.front
        ] in
        let until = unwritten_after (lines_of r.read) (lines_of r.last) s r.mid r.reached r.told r.last_told r.kept r.last_kept had r.between has (r.few refl) before r.wrote after front in
        record {
          read = r.read ++ r.last;
          begun = r.begun;
          takes = all_taken session.Unwritten r;
          part = end.0;
          whole = elim r.last_whole [
            | inl whole ↦ inl (ends_both r.read r.last r.whole whole)
            | inr at ↦ inr at.1
          ];
          serves = subst (λ (l : List (List ℕ)). ServesUntil fits count s.asker s.bound Unwritten l s.depot e.depot had has) (sym (r.whole r.last))
              (subst (λ (m : Manning X). ServesUntil fits count s.asker s.bound Unwritten (lines_of r.read ++ lines_of r.last) s.depot m.depot had has) (sym end.1) until);
          cause = tt;
        }

    one_line : (raw begun : List ℕ) → IsLine raw → ((true ≡ true) × (begun ≡ raw) × (0 < length raw) × IsAtEnd (left k)) ⊎ (begun ≡ raw ++ 10 ∷ []) → lines_of begun ≡ without_cr raw ∷ []
    one_line raw begun plain (inl last) = ap (λ (l : List ℕ). lines_of l) last.1 ∙ lines-last raw plain last.2
    one_line raw begun plain (inr whole) = ap (λ (l : List ℕ). lines_of l) whole ∙ lines-feed raw [] plain

    line_whole : (read raw begun : List ℕ) → EndsLine read → IsLine raw → ((true ≡ true) × (begun ≡ raw) × (0 < length raw) × IsAtEnd (left k)) ⊎ (begun ≡ raw ++ 10 ∷ []) → EndsLine (read ++ begun) ⊎ IsAtEnd (left k)
    line_whole read raw begun ends plain (inl last) = inr last.3
    line_whole read raw begun ends plain (inr whole) = inl (subst (λ (l : List ℕ). EndsLine (read ++ l)) (sym whole) (whole_next read raw ends plain))

    -- where lines are not logged, each is begun
    begun_one : (halt : Halt) (old : Manning X) (line : Option (List ℕ)) (new : Manning X) → IsTakenTo fits count old line halt new ⊎ IsNotBegun false old halt new → IsTakenTo fits count old line halt new
    begun_one halt old line new (inl here) = here
    begun_one halt old line new (inr not) = (let clash : false ≡ true = not.is_logged in cc)

    -- a line was left in its midst
    stops_halted : (fault : SessionFault) (halt : Halt) (known : DispatchFault) (out : Option (List ℕ)) → fault ≢ session.Unkept → fault ≢ session.Unwritten → (r : Stopped fault) → (h : rounds.HaltsAt (HaltsManned fits count false) true halt k r.begun r.reached e) →
        ((t : IsTakenTo fits count r.reached (short_line h.raw) halt e) → WritesUntil known has out (text_of t.texts)) → Stops fits count s.asker s.bound known i k s.depot e.depot had out
    stops_halted fault halt known out a b r h writes =
        let before = read_came fault r in
        let same = none_last fault a b r in
        let fresh : r.reached.halted ≡ false = ap (λ (m : Manning X). m.halted) same ∙ before.going in
        let t = begun_one halt r.reached (short_line h.raw) e (h.halted.taken fresh) in
        let said : WritesUntil known r.between out (text_of t.texts) = until_after known r.between has out (text_of t.texts) (untold fault b r) (writes t) in
        let takes = subst (λ (m : Manning X). TakesLine fits count m.asker m.bound (heard (without_cr h.raw)) m.depot e.depot t.texts) same
        (subst (λ (l : Heard). TakesLine fits count r.reached.asker r.reached.bound l r.reached.depot e.depot t.texts) (heard_is h.raw) t.takes) in
        let leaves_it = begun_after (lines_of r.read) s r.mid e r.told (without_cr h.raw) known had r.between out t.texts r.kept before r.wrote takes said in
        let lines = r.whole r.begun ∙ ap (λ l. lines_of r.read ++ l) (one_line h.raw r.begun h.plain h.begun_is) in
        record {
          read = r.read ++ r.begun;
          begun = [];
          takes = subst (λ (l : List ℕ). Takes i k l) (sym (append-nil (r.read ++ r.begun))) (subst (λ (l : List ℕ). Takes i k (r.read ++ (l ++ r.begun))) (r.none refl a b) r.takes);
          part = tt;
          whole = begun_whole known r.between out (text_of t.texts) said k (r.read ++ r.begun) (line_whole r.read h.raw r.begun r.whole h.plain h.begun_is);
          serves = subst (λ (l : List (List ℕ)). ServesUntil fits count s.asker s.bound known l s.depot e.depot had out) (sym lines)
              (left_until s.asker s.bound known (lines_of r.read ++ without_cr h.raw ∷ []) s.depot e.depot had out leaves_it);
          cause = begun_cause known r.between out (text_of t.texts) said i k (length (lines_of (r.read ++ r.begun)));
        }

    told_so : (known so : DispatchFault) (out : Option (List ℕ)) → (so ≡ known) × (out ≡ has) → Stops fits count s.asker s.bound known i k s.depot e.depot had has → Stops fits count s.asker s.bound so i k s.depot e.depot had out
    told_so known so out is r = subst (λ (f : DispatchFault). Stops fits count s.asker s.bound f i k s.depot e.depot had out) (sym is.0)
        (subst (λ (o : Option (List ℕ)). Stops fits count s.asker s.bound known i k s.depot e.depot had o) (sym is.1) r)

    pub stops_so : (fault : SessionFault) (so : DispatchFault) (out : Option (List ℕ)) (said : List ℕ) → Stopped fault → EndsSo fault so has out said → (e.halted ≡ true → said ≡ e.left) → Stops fits count s.asker s.bound so i k s.depot e.depot had out
    stops_so session.Broken so out said r is waits = told_so Broken so out is
        (stops_between session.Broken Broken (λ q. cc) (λ q. cc) r (off session.Broken r) r.whole r.cause (λ o n t. t))
    stops_so session.Endless so out said r is waits = told_so Endless so out is
        (stops_between session.Endless Endless (λ q. cc) (λ q. cc) r (off session.Endless r) r.whole
        (subst (λ (n : ℕ). HasCause (plain_fault Endless) i k n) (no_more session.Endless (λ q. cc) (λ q. cc) r) r.cause) (λ o n t. t))
    stops_so session.Unwritten so out said r is waits = told_so Unwritten so out is (stops_unwritten r)
    stops_so session.Unkept so out said r is waits = elim r.left_so [
      | inl none ↦ absurd (none.other refl)
      | inr (inl some) ↦ absurd (never r.settled r.last_kept stands some.front)
      | inr (inr all) ↦ (let clash = all.is in cc)
    ]
    stops_so session.NoMemory so out said r is waits =
        let h = off session.NoMemory r in
        stops_halted session.NoMemory halts.NoMemory so out (λ q. cc) (λ q. cc) r h
        (λ t. all_left so has out said (text_of t.texts) (waits h.halted.halted ∙ t.left_is) is)
    stops_so session.Failed so out said r is waits =
        let h = off session.Failed r in
        stops_halted session.Failed halts.Failed so out (λ q. cc) (λ q. cc) r h
        (λ t. front_left so has out said (text_of t.texts) t.left_is.0 (waits h.halted.halted ∙ t.left_is.1) is)

    off_names : (fault : SessionFault) (r : Stopped fault) → rounds.LeavesOff (HaltsManned fits count false) true fault k r.begun r.reached e → e.names ≡ r.reached.names
    off_names session.Broken r l = ap (λ (m : Manning X). m.names) l.1
    off_names session.Endless r l = ap (λ (m : Manning X). m.names) l.1
    off_names session.Unwritten r l = ap (λ (m : Manning X). m.names) l.1
    off_names session.Unkept r l = ap (λ (m : Manning X). m.names) l.1
    off_names session.NoMemory r l = l.halted.names_are
    off_names session.Failed r l = l.halted.names_are

    pub names_kept : (fault : SessionFault) → Stopped fault → e.names ≡ s.names
    names_kept fault r = off_names fault r (off fault r) ∙ (last_came fault r).alike.names_are ∙ (read_came fault r).alike.names_are

  module _ (old : Seen) (spares : List X) (crew : Crew) (asker : Asker) (names : Names) (halted : Bool) (first begun_at : ℕ) (said : List ℕ) (going : halted ≡ false) (place : first ≤ length old.history) (room : begun_at ≤ length said) where
    abbrev begun : Drive → Manning X
    begun d = begun_by old spares crew asker names d

    stands_so : (d : Drive) → IsManned old crew d → StandsSo old spares crew asker names halted first begun_at said (begun d)
    stands_so d m = begun_stands old spares crew asker names halted first begun_at said going place room d m

    module _ (new : Seen) (rest : List X) (next : Crew) (later : Asker) (after : Names) (stopped : Bool) (first_then begun_then : ℕ) (says : List ℕ) where
      module _ {H : Type 0} (keeps leaves : H → Records → H → Type 0) (never : (a : H) (r : Records) (b : H) → leaves a r b → ⊥) (i k : Input) (had has : Option (List ℕ)) (stood stands : H) where
        module _ (most : ℕ) (end : End) (not : end ≡ ends.Over → ⊥)
            (served : (s : Manning X) → StandsSo old spares crew asker names halted first begun_at said s → (e : Manning X) × StandsSo new rest next later after stopped first_then begun_then says e × rounds.Serves (ServesManned fits count false) keeps true true most (rounds.round_of end) i k s e had has stood stands) where
          pub dispatches_from : DispatchesFrom fits count asker crew.bound i k old spares crew new rest next had has
          dispatches_from d m =
              let r = served (begun d) (stands_so d m) in
              let t = serves_end keeps leaves never i k (begun d) r.0 refl had has stood stands most end not r.2 in
              (r.0.depot.drive, r.1.manned t.0, subst (λ (x : Depot X). Dispatches fits count asker crew.bound i k (begun d).depot x had has) (depot_is new rest next later after stopped first_then begun_then says r.0 r.1) t.2)

          pub served_names : (d : Drive) → IsManned old crew d → after ≡ names
          served_names d m =
              let r = served (begun d) (stands_so d m) in
              let t = serves_end keeps leaves never i k (begun d) r.0 refl had has stood stands most end not r.2 in
              r.1.names_are ∙ t.1.names_are

        module _ (fault : SessionFault)
            (stopped_so : (s : Manning X) → StandsSo old spares crew asker names halted first begun_at said s → (e : Manning X) × StandsSo new rest next later after stopped first_then begun_then says e × rounds.Stops (ServesManned fits count false) (HaltsManned fits count false) keeps leaves true true false fault i k s e had has stood stands) where
          pub stops_from : (so : DispatchFault) (out : Option (List ℕ)) → EndsSo fault so has out (drop begun_then says) → StopsFrom fits count asker crew.bound so i k old spares crew new rest had out
          stops_from so out is d m =
              let r = stopped_so (begun d) (stands_so d m) in
              let t = stops_so keeps leaves never i k (begun d) r.0 refl had has stood stands fault so out (drop begun_then says) r.2 is r.1.left_is in
              (r.0.depot.drive, subst (λ (x : Depot X). Stops fits count asker crew.bound so i k (begun d).depot x had out) (depot_is new rest next later after stopped first_then begun_then says r.0 r.1) t)

          pub stopped_names : (d : Drive) → IsManned old crew d → after ≡ names
          stopped_names d m =
              let r = stopped_so (begun d) (stands_so d m) in
              r.1.names_are ∙ names_kept keeps leaves never i k (begun d) r.0 refl had has stood stands fault r.2

-- rounds that are settled one after another
use Rattle.std.proofs.Common.{◌≡◌, ◌≢◌, ◌∙◌, ℕ, ◌+◌, ◌≤◌, List, [], ◌++◌, Bool, true, false, Option, length, inl, inr, sym, subst, refl, ap, arith, append-nil, append_assoc}
use Rattle.std.specs.Prelude.{◌⊎◌}
use Rattle.std.specs.Io.KnownBytes.{Appends, Keeps}
use Rattle.std.proofs.KnownBytes.{Keeps-refl, Keeps-trans, Consumes-nil, Consumes-trans, Appends-nil, Appends-kept, Appends-trans}
use Rattle.wh_text.specs.Lines.{lines_of, IsLine}
use Rattle.wh_lines.specs.Text.{EndsLine}
use Rattle.wh_lines.specs.Input.{Input, left, Takes, with_failed}
use Rattle.wh_lines.specs.Output.{WritesFront}
use Rattle.wh_lines.proofs.Written.{front_after}
use Rattle.std.specs.Io.KnownBytes.{IsAtEnd}
use Rattle.wh_session.specs.declared.machine.Halt.{Halt}
use Rattle.wh_session.specs.declared.fault.Round.{Round}
use Rattle.wh_session.specs.declared.fault.Round.TheVariants.{More, Served, Ended, Torn, Over}
use Rattle.wh_session.specs.declared.fault.SessionFault.{SessionFault}
use Rattle.wh_session.specs.declared.fault.SessionFault.TheVariants.{Broken, Endless, Unwritten, Unkept, NoMemory, Failed}
use Rattle.wh_session.specs.Machines.{Records, nothing, joined, ServesAll, SomeStands}
use Rattle.wh_session.specs.Sessions.{IsWhole, IsWholeLine, EndsBy, LeavesOff, Serves, Stops, HasCause, ServesFrom, StopsFrom}
use Rattle.wh_session.specs.Parts.{Gathers, GathersUntil, GathersFrom, GathersUntilFrom}
use Rattle.wh_session.specs.Settling.{Unsettles, SettlesFrom, UnsettlesFrom}
use Rattle.wh_session.proofs.Following.{ends_both, lines_both, cause_on, texts_join}

appends_after : (a b c : Option (List ℕ)) (bs : List ℕ) → Keeps a b → Appends b c bs → Appends a c bs
appends_after a b c bs k p = Appends-trans a b c [] bs (Appends-kept a a b [] (Appends-nil a) k) p

front_late : (a b c : Option (List ℕ)) (bs : List ℕ) → Keeps a b → WritesFront b c bs → WritesFront a c bs
front_late a b c bs k w = front_after a b c [] bs (Appends-kept a a b [] (Appends-nil a) k) w

no_line : (read : List ℕ) → read ≡ [] → length (lines_of read) ≤ 1
no_line read e = (let none : length (lines_of read) ≡ 0 = ap (λ r. length (lines_of r)) e in omega arith)

whole_join : (last_too : Bool) (r : Round) (a b : List ℕ) → EndsLine a → IsWhole last_too r b → IsWhole last_too r (a ++ b)
whole_join true Ended a b p q = tt
whole_join false Ended a b p q = ends_both a b p q
whole_join true More a b p q = ends_both a b p q
whole_join false More a b p q = ends_both a b p q
whole_join true Served a b p q = ends_both a b p q
whole_join false Served a b p q = ends_both a b p q
whole_join true Torn a b p q = ends_both a b p q
whole_join false Torn a b p q = ends_both a b p q
whole_join true Over a b p q = ends_both a b p q
whole_join false Over a b p q = ends_both a b p q

-- more lines in front of a round that ended so
ends_join : (last_too : Bool) (r : Round) (after : Input) (a b begun : List ℕ) → EndsLine a → EndsBy last_too r after b begun → EndsBy last_too r after (a ++ b) begun
ends_join last_too More after a b begun p e = (e.0, let both = lines_both a b p in let some = e.1 in omega arith)
ends_join last_too Served after a b begun p e = (e.0, (let both = lines_both a b p in let some = e.1 in omega arith), e.2)
ends_join last_too Ended after a b begun p e = e
ends_join last_too Torn after a b begun p e = e
ends_join last_too Over after a b begun p e = e

-- whole lines, or the last one too
last_whole : (last_too : Bool) (r : Round) (after : Input) (read begun : List ℕ) → IsWhole last_too r read → EndsBy last_too r after read begun → EndsLine read ⊎ ((last_too ≡ true) × IsAtEnd (left after))
last_whole true Ended after read begun w e = inr (refl, e.1)
last_whole false Ended after read begun w e = inl w
last_whole true More after read begun w e = inl w
last_whole false More after read begun w e = inl w
last_whole true Served after read begun w e = inl w
last_whole false Served after read begun w e = inl w
last_whole true Torn after read begun w e = inl w
last_whole false Torn after read begun w e = inl w
last_whole true Over after read begun w e = inl w
last_whole false Over after read begun w e = inl w

-- what was taken and not served
cut_of : (last_too single may_end : Bool) (r : Round) (after : Input) (read begun : List ℕ) → (r ≡ Over → may_end ≡ true) → (r ≡ Over → single ≡ false) → EndsBy last_too r after read begun →
    IsLine begun ⊎ ((may_end ≡ true) × (single ≡ false) × IsWholeLine begun)
cut_of last_too single may_end More after read begun o n e = inl (subst IsLine (sym e.0) tt)
cut_of last_too single may_end Served after read begun o n e = inl (subst IsLine (sym e.0) tt)
cut_of last_too single may_end Ended after read begun o n e = inl (subst IsLine (sym e.0) tt)
cut_of last_too single may_end Torn after read begun o n e = inl e.0
cut_of last_too single may_end Over after read begun o n e = inr (o refl, n refl, e)

unsettled_off : {S : Type 0} (single may_end : Bool) (begun : List ℕ) (new : S) → IsLine begun ⊎ ((may_end ≡ true) × (single ≡ false) × IsWholeLine begun) →
    (IsLine begun × (new ≡ new)) ⊎ ((may_end ≡ true) × (single ≡ false) × IsWholeLine begun × (new ≡ new))
unsettled_off single may_end begun new (inl plain) = inl (plain, refl)
unsettled_off single may_end begun new (inr line) = inr (line.0, line.1, line.2, refl)

-- a cause with more lines
cause_more : (fault : SessionFault) (i j : Input) (few many : ℕ) → few ≤ many → HasCause fault i j few → HasCause fault i j many
cause_more Broken i j few many le c = c
cause_more Endless i j few many le (inl c) = inl c
cause_more Endless i j few many le (inr c) = inr (omega (arith, le, c))
cause_more Unwritten i j few many le c = tt
cause_more Unkept i j few many le c = tt
cause_more NoMemory i j few many le c = tt
cause_more Failed i j few many le c = tt

cause_failed : (fault : SessionFault) (i j : Input) (lines : ℕ) → HasCause fault i j lines → HasCause fault i (with_failed j true) lines
cause_failed Broken i j lines c = c
cause_failed Endless i j lines c = c
cause_failed Unwritten i j lines c = tt
cause_failed Unkept i j lines c = tt
cause_failed NoMemory i j lines c = tt
cause_failed Failed i j lines c = tt

module _ {S : Type 0} (serves : S → Option (List ℕ) → List ℕ → Records → S → Type 0) {H : Type 0} (keeps : H → Records → H → Type 0) (single : Bool) where
  -- rounds were served, no fewer than the given number, and where each line is one, no more
  pub record Proceeding (before after : Input) (old new : S) (had has : Option (List ℕ)) (stood stands : H) (turns : ℕ) : Type 0 where
    pub read : List ℕ
    pub takes : Takes before after read
    pub whole : EndsLine read
    pub told : List ℕ
    pub kept : Records
    pub all : ServesAll serves (lines_of read) old told kept new
    pub stood_on : keeps stood kept stands
    pub wrote : Appends had has told
    pub many : turns ≤ length (lines_of read)
    pub few : single ≡ true → length (lines_of read) ≤ turns

  abbrev pub ProceedingFrom : {X : Type 0} → (X → S → Type 0) → Input → Input → X → X → (had has : Option (List ℕ)) → (stood holds : H) → ℕ → Type 0
  ProceedingFrom {X} stands before after old new had has stood holds turns = (s : S) → stands old s → (e : S) × stands new e × Proceeding before after s e had has stood holds turns

module _ {S : Type 0} (serves : S → Option (List ℕ) → List ℕ → Records → S → Type 0) (halts : S → Option (List ℕ) → Halt → S → Type 0) {H : Type 0} (is_safe : H → Type 0) (keeps leaves : H → Records → H → Type 0)
    (kept_safe : (a : H) (r : Records) (b : H) → keeps a r b → is_safe b) (keeps_none : (a : H) → is_safe a → keeps a nothing a)
    (keeps_both : (a b c : H) (r s : Records) → keeps a r b → keeps b s c → keeps a (joined r s) c) (last_too single may_end : Bool) where
  -- ---- one round

  part : (i j : Input) (old new : S) (had mid has : Option (List ℕ)) (stood stands : H) (r : Round) (said : List ℕ) (came : Records) → Gathers serves last_too single r i j old new said came → Keeps had mid →
      keeps stood came stands → Appends mid has said → Serves serves keeps last_too single 1 r i j old new had has stood stands
  part i j old new had mid has stood stands r said came g flushed kept told = record {
    told = said;
    kept = came;
    lines = g.lines;
    stood_on = kept;
    wrote = appends_after had mid has said flushed told;
    few = g.few;
  }

  -- a round without lines
  empty : (i j : Input) (old new : S) (had mid : Option (List ℕ)) (stood : H) (r : Round) (said : List ℕ) (came : Records) (g : Gathers serves last_too single r i j old new said came) → Keeps had mid → is_safe stood → g.lines.read ≡ [] →
      Serves serves keeps last_too single 1 r i j old new had mid stood stood
  empty i j old new had mid stood r said came g flushed safe none =
      let all : ServesAll serves [] old said came new = subst (λ (b : List ℕ). ServesAll serves (lines_of b) old said came new) none g.lines.all in
      part i j old new had mid mid stood stood r said came g flushed (subst (λ (k : Records). keeps stood k stood) (sym all.2) (keeps_none stood safe)) (subst (λ (b : List ℕ). Appends mid mid b) (sym all.1) (Appends-nil mid))

  -- the lines were not all gathered
  ungathered : (fault : SessionFault) (i j : Input) (old new : S) (had has : Option (List ℕ)) (stood : H) → GathersUntil serves halts last_too single fault i j old new → Keeps had has → is_safe stood → fault ≢ Unkept →
      Stops serves halts keeps leaves last_too single may_end fault i j old new had has stood stood
  ungathered fault i j old new had has stood g flushed safe other = record {
    read = [];
    whole = λ more. refl;
    told = [];
    kept = nothing;
    mid = old;
    all = (refl, refl, refl);
    between = had;
    wrote = Appends-nil had;
    settled = stood;
    stood_on = keeps_none stood safe;
    last = g.read;
    last_whole = inl g.whole;
    last_told = g.told;
    last_kept = g.kept;
    reached = g.reached;
    last_all = g.all;
    few = λ e. no_line g.read (g.none e);
    none = λ e _ _. g.none e;
    left_so = inl (record { other = other; untold = flushed; as_it_was = refl });
    begun = g.begun;
    takes = g.takes;
    left_off = inl g.left_off;
    cause = cause_more fault i j (length (lines_of g.read)) (length (lines_of []) + length (lines_of g.read)) (omega arith) g.cause;
  }

  unsettled_by : (fault : SessionFault) (i j : Input) (old new : S) (had mid has : Option (List ℕ)) (stood stands : H) (r : Round) (said : List ℕ) (came : Records) → Gathers serves last_too single r i j old new said came → (r ≡ Over → may_end ≡ true) → (r ≡ Over → single ≡ false) → Keeps had mid →
      is_safe stood → Unsettles keeps leaves fault said came mid has stood stands → Stops serves halts keeps leaves last_too single may_end fault i j old new had has stood stands
  unsettled_by Unkept i j old new had mid has stood stands r said came g over several flushed safe u = record {
    read = [];
    whole = λ more. refl;
    told = [];
    kept = nothing;
    mid = old;
    all = (refl, refl, refl);
    between = had;
    wrote = Appends-nil had;
    settled = stood;
    stood_on = keeps_none stood safe;
    last = g.lines.read;
    last_whole = last_whole last_too r j g.lines.read g.lines.begun g.lines.whole g.lines.ends;
    last_told = said;
    last_kept = came;
    reached = new;
    last_all = g.lines.all;
    few = g.few;
    none = λ e a b. absurd (a refl);
    left_so = inr (inl (record { is = refl; untold = Keeps-trans had mid has flushed u.untold; front = u.front }));
    begun = g.lines.begun;
    takes = g.lines.takes;
    left_off = unsettled_off single may_end g.lines.begun new (cut_of last_too single may_end r j g.lines.read g.lines.begun over several g.lines.ends);
    cause = tt;
  }
  unsettled_by Unwritten i j old new had mid has stood stands r said came g over several flushed safe u = record {
    read = [];
    whole = λ more. refl;
    told = [];
    kept = nothing;
    mid = old;
    all = (refl, refl, refl);
    between = had;
    wrote = Appends-nil had;
    settled = stood;
    stood_on = keeps_none stood safe;
    last = g.lines.read;
    last_whole = last_whole last_too r j g.lines.read g.lines.begun g.lines.whole g.lines.ends;
    last_told = said;
    last_kept = came;
    reached = new;
    last_all = g.lines.all;
    few = g.few;
    none = λ e a b. absurd (b refl);
    left_so = inr (inr (record { is = refl; all_kept = u.all_kept; front = front_late had mid has said flushed u.front }));
    begun = g.lines.begun;
    takes = g.lines.takes;
    left_off = unsettled_off single may_end g.lines.begun new (cut_of last_too single may_end r j g.lines.read g.lines.begun over several g.lines.ends);
    cause = tt;
  }
  unsettled_by Broken i j old new had mid has stood stands r said came g over several flushed safe u = absurd u
  unsettled_by Endless i j old new had mid has stood stands r said came g over several flushed safe u = absurd u
  unsettled_by NoMemory i j old new had mid has stood stands r said came g over several flushed safe u = absurd u
  unsettled_by Failed i j old new had mid has stood stands r said came g over several flushed safe u = absurd u

  -- ---- rounds one after another

  start : (i : Input) (old : S) (had : Option (List ℕ)) (stood : H) → is_safe stood → Proceeding serves keeps single i i old old had had stood stood 0
  start i old had stood safe = record {
    read = [];
    takes = Consumes-nil (left i);
    whole = λ more. refl;
    told = [];
    kept = nothing;
    all = (refl, refl, refl);
    stood_on = keeps_none stood safe;
    wrote = Appends-nil had;
    many = omega arith;
    few = λ _. omega arith;
  }

  module _ (i j : Input) (old mid : S) (had has : Option (List ℕ)) (stood stands : H) (turns : ℕ) (f : Proceeding serves keeps single i j old mid had has stood stands turns) where
    taken : (k : Input) (bytes : List ℕ) → Takes j k bytes → Takes i k (f.read ++ bytes)
    taken k bytes t = Consumes-trans (left i) (left j) (left k) f.read bytes f.takes t

    proceed : (k : Input) (new : S) (last : Option (List ℕ)) (further : H) (r : Round) → ((read begun : List ℕ) → EndsBy last_too r k read begun → (begun ≡ []) × (1 ≤ length (lines_of read))) → ((read : List ℕ) → IsWhole last_too r read → EndsLine read) →
        Serves serves keeps last_too single 1 r j k mid new has last stands further → Proceeding serves keeps single i k old new had last stood further (turns + 1)
    proceed k new last further r opens whole s =
        let o = opens s.lines.read s.lines.begun s.lines.ends in
        let w = whole s.lines.read s.lines.whole in
        let both = lines_both f.read s.lines.read f.whole in
        let some = o.1 in
        let many = f.many in
        record {
          read = f.read ++ s.lines.read;
          takes = taken k s.lines.read (subst (λ l. Takes j k l) (ap (λ l. s.lines.read ++ l) o.0 ∙ append-nil s.lines.read) s.lines.takes);
          whole = ends_both f.read s.lines.read f.whole w;
          told = f.told ++ s.told;
          kept = joined f.kept s.kept;
          all = texts_join serves f.read s.lines.read old mid new f.told s.told f.kept s.kept f.whole f.all s.lines.all;
          stood_on = keeps_both stood stands further f.kept s.kept f.stood_on s.stood_on;
          wrote = Appends-trans had has last f.told s.told f.wrote s.wrote;
          many = omega arith;
          few = λ e. let less = f.few e in let one = s.few e in omega arith;
        }

    finish : (k : Input) (new : S) (last : Option (List ℕ)) (further : H) (r : Round) (most : ℕ) → turns + 1 ≤ most → Serves serves keeps last_too single 1 r j k mid new has last stands further →
        Serves serves keeps last_too single most r i k old new had last stood further
    finish k new last further r most within s = record {
      told = f.told ++ s.told;
      kept = joined f.kept s.kept;
      lines = record {
        read = f.read ++ s.lines.read;
        begun = s.lines.begun;
        takes = subst (λ l. Takes i k l) (sym (append_assoc f.read s.lines.read s.lines.begun)) (taken k (s.lines.read ++ s.lines.begun) s.lines.takes);
        whole = whole_join last_too r f.read s.lines.read f.whole s.lines.whole;
        ends = ends_join last_too r k f.read s.lines.read s.lines.begun f.whole s.lines.ends;
        all = texts_join serves f.read s.lines.read old mid new f.told s.told f.kept s.kept f.whole f.all s.lines.all;
      };
      stood_on = keeps_both stood stands further f.kept s.kept f.stood_on s.stood_on;
      wrote = Appends-trans had has last f.told s.told f.wrote s.wrote;
      few = λ e. let less = f.few e in let one = s.few e in let both = lines_both f.read s.lines.read f.whole in omega arith;
    }

    stop : (fault : SessionFault) (k : Input) (new : S) (last : Option (List ℕ)) (further : H) → i.reads ≤ j.reads → j.failed ≡ false → Stops serves halts keeps leaves last_too single may_end fault j k mid new has last stands further →
        Stops serves halts keeps leaves last_too single may_end fault i k old new had last stood further
    stop fault k new last further before fine s = record {
      read = f.read ++ s.read;
      whole = ends_both f.read s.read f.whole s.whole;
      told = f.told ++ s.told;
      kept = joined f.kept s.kept;
      mid = s.mid;
      all = texts_join serves f.read s.read old mid s.mid f.told s.told f.kept s.kept f.whole f.all s.all;
      between = s.between;
      wrote = Appends-trans had has s.between f.told s.told f.wrote s.wrote;
      settled = s.settled;
      stood_on = keeps_both stood stands s.settled f.kept s.kept f.stood_on s.stood_on;
      last = s.last;
      last_whole = s.last_whole;
      last_told = s.last_told;
      last_kept = s.last_kept;
      reached = s.reached;
      last_all = s.last_all;
      few = s.few;
      none = s.none;
      left_so = s.left_so;
      begun = s.begun;
      takes = subst (λ l. Takes i k l) (sym (append_assoc f.read s.read (s.last ++ s.begun))) (taken k (s.read ++ (s.last ++ s.begun)) s.takes);
      left_off = s.left_off;
      cause = cause_on fault i j k (length (lines_of s.read) + length (lines_of s.last)) (length (lines_of (f.read ++ s.read)) + length (lines_of s.last)) before fine
          (let both = lines_both f.read s.read f.whole in omega arith) s.cause;
    }

    -- more rounds were served than can be counted
    endless : 18446744073709551615 ≤ turns → Stops serves halts keeps leaves last_too single may_end Endless i j old mid had has stood stands
    endless all = record {
      read = f.read;
      whole = f.whole;
      told = f.told;
      kept = f.kept;
      mid = mid;
      all = f.all;
      between = has;
      wrote = f.wrote;
      settled = stands;
      stood_on = f.stood_on;
      last = [];
      last_whole = inl (λ more. refl);
      last_told = [];
      last_kept = nothing;
      reached = mid;
      last_all = (refl, refl, refl);
      few = λ _. omega arith;
      none = λ _ _ _. refl;
      left_so = inl (record { other = λ e. cc; untold = Keeps-refl has; as_it_was = refl });
      begun = [];
      takes = subst (λ l. Takes i j l) (sym (append-nil f.read)) f.takes;
      left_off = inl (tt, refl);
      cause = inr (let many = f.many in omega arith);
    }

  -- the reader is told to have failed
  left_failed : (fault : SessionFault) (j : Input) (begun : List ℕ) (old new : S) → LeavesOff halts last_too fault j begun old new → LeavesOff halts last_too fault (with_failed j true) begun old new
  left_failed NoMemory j begun old new h = record { raw = h.raw; plain = h.plain; begun_is = h.begun_is; halted = h.halted }
  left_failed Failed j begun old new h = record { raw = h.raw; plain = h.plain; begun_is = h.begun_is; halted = h.halted }
  left_failed Broken j begun old new h = h
  left_failed Endless j begun old new h = h
  left_failed Unwritten j begun old new h = h
  left_failed Unkept j begun old new h = h

  left_off_failed : (fault : SessionFault) (j : Input) (begun : List ℕ) (old new : S) → LeavesOff halts last_too fault j begun old new ⊎ ((may_end ≡ true) × (single ≡ false) × IsWholeLine begun × (new ≡ old)) →
      LeavesOff halts last_too fault (with_failed j true) begun old new ⊎ ((may_end ≡ true) × (single ≡ false) × IsWholeLine begun × (new ≡ old))
  left_off_failed fault j begun old new (inl h) = inl (left_failed fault j begun old new h)
  left_off_failed fault j begun old new (inr cut) = inr cut

  failed : (fault : SessionFault) (i j k : Input) (old new : S) (had has : Option (List ℕ)) (stood stands : H) → k ≡ with_failed j true → Stops serves halts keeps leaves last_too single may_end fault i j old new had has stood stands →
      Stops serves halts keeps leaves last_too single may_end fault i k old new had has stood stands
  failed fault i j k old new had has stood stands is s = subst (λ (x : Input). Stops serves halts keeps leaves last_too single may_end fault i x old new had has stood stands) (sym is) (record {
    read = s.read;
    whole = s.whole;
    told = s.told;
    kept = s.kept;
    mid = s.mid;
    all = s.all;
    between = s.between;
    wrote = s.wrote;
    settled = s.settled;
    stood_on = s.stood_on;
    last = s.last;
    last_whole = s.last_whole;
    last_told = s.last_told;
    last_kept = s.last_kept;
    reached = s.reached;
    last_all = s.last_all;
    few = s.few;
    none = s.none;
    left_so = s.left_so;
    begun = s.begun;
    takes = s.takes;
    left_off = left_off_failed fault j s.begun s.reached new s.left_off;
    cause = cause_failed fault i j (length (lines_of s.read) + length (lines_of s.last)) s.cause;
  })

  -- the reader had failed before
  failed_before : (i : Input) (old : S) (had : Option (List ℕ)) (stood : H) → is_safe stood → i.failed ≡ true → Stops serves halts keeps leaves last_too single may_end Broken i i old old had had stood stood
  failed_before i old had stood safe is = record {
    read = [];
    whole = λ more. refl;
    told = [];
    kept = nothing;
    mid = old;
    all = (refl, refl, refl);
    between = had;
    wrote = Appends-nil had;
    settled = stood;
    stood_on = keeps_none stood safe;
    last = [];
    last_whole = inl (λ more. refl);
    last_told = [];
    last_kept = nothing;
    reached = old;
    last_all = (refl, refl, refl);
    few = λ _. omega arith;
    none = λ _ _ _. refl;
    left_so = inl (record { other = λ e. cc; untold = Keeps-refl had; as_it_was = refl });
    begun = [];
    takes = Consumes-nil (left i);
    left_off = inl (tt, refl);
    cause = inl is;
  }

  -- ---- from each state that the machine represents

  module _ {X : Type 0} (stands : X → S → Type 0) (says : X → S → List ℕ) (logs : X → S → Records) where
    pub part_from : (i j : Input) (old new : X) (had mid has : Option (List ℕ)) (stood holds : H) (r : Round) → GathersFrom stands serves says logs last_too single r i j old new → Keeps had mid →
        SettlesFrom stands says logs keeps new mid has stood holds → ServesFrom stands serves keeps last_too single 1 r i j old new had has stood holds
    part_from i j old new had mid has stood holds r g flushed settles s h =
        let t = g s h in
        let both = settles t.0 t.1 in
        (t.0, t.1, part i j s t.0 had mid has stood holds r (says new t.0) (logs new t.0) t.2 flushed both.0 both.1)

    pub safe_from : (i j : Input) (old new : X) (mid has : Option (List ℕ)) (stood holds : H) (r : Round) → GathersFrom stands serves says logs last_too single r i j old new → SomeStands stands old →
        SettlesFrom stands says logs keeps new mid has stood holds → is_safe holds
    safe_from i j old new mid has stood holds r g some settles =
        let t = g some.0 some.1 in
        let both = settles t.0 t.1 in
        kept_safe stood (logs new t.0) holds both.0

    pub ungathered_from : (fault : SessionFault) (i j : Input) (old new : X) (had has : Option (List ℕ)) (stood : H) → GathersUntilFrom stands serves halts last_too single fault i j old new → Keeps had has → is_safe stood → fault ≢ Unkept →
        StopsFrom stands serves halts keeps leaves last_too single may_end fault i j old new had has stood stood
    ungathered_from fault i j old new had has stood g flushed safe other s h =
        let t = g s h in
        (t.0, t.1, ungathered fault i j s t.0 had has stood t.2 flushed safe other)

    pub over_from : (i j : Input) (old new : X) (had mid : Option (List ℕ)) (stood : H) (r : Round) → GathersFrom stands serves says logs last_too single r i j old new → Keeps had mid → is_safe stood → single ≡ true → r ≡ Over →
        ServesFrom stands serves keeps last_too single 1 r i j old new had mid stood stood
    over_from i j old new had mid stood r g flushed safe one over s h =
        let t = g s h in
        (t.0, t.1, empty i j s t.0 had mid stood r (says new t.0) (logs new t.0) t.2 flushed safe (t.2.none one over))

    pub unsettled_from : (fault : SessionFault) (i j : Input) (old new : X) (had mid has : Option (List ℕ)) (stood holds : H) (r : Round) → GathersFrom stands serves says logs last_too single r i j old new → (r ≡ Over → may_end ≡ true) → (r ≡ Over → single ≡ false) → Keeps had mid → is_safe stood →
        UnsettlesFrom stands says logs keeps leaves fault new mid has stood holds → StopsFrom stands serves halts keeps leaves last_too single may_end fault i j old new had has stood holds
    unsettled_from fault i j old new had mid has stood holds r g over several flushed safe u s h =
        let t = g s h in
        (t.0, t.1, unsettled_by fault i j s t.0 had mid has stood holds r (says new t.0) (logs new t.0) t.2 over several flushed safe (u t.0 t.1))

    pub start_from : (i : Input) (old : X) (had : Option (List ℕ)) (stood : H) → is_safe stood → ProceedingFrom serves keeps single stands i i old old had had stood stood 0
    start_from i old had stood safe s h = (s, h, start i s had stood safe)

    module _ (i j : Input) (old mid : X) (had has : Option (List ℕ)) (stood holds : H) (turns : ℕ) (f : ProceedingFrom serves keeps single stands i j old mid had has stood holds turns) where
      pub proceed_from : (k : Input) (new : X) (last : Option (List ℕ)) (further : H) (r : Round) → ((read begun : List ℕ) → EndsBy last_too r k read begun → (begun ≡ []) × (1 ≤ length (lines_of read))) → ((read : List ℕ) → IsWhole last_too r read → EndsLine read) →
          ServesFrom stands serves keeps last_too single 1 r j k mid new has last holds further → ProceedingFrom serves keeps single stands i k old new had last stood further (turns + 1)
      proceed_from k new last further r opens whole o s h =
          let a = f s h in
          let b = o a.0 a.1 in
          (b.0, b.1, proceed i j s a.0 had has stood holds turns a.2 k b.0 last further r opens whole b.2)

      pub finish_from : (k : Input) (new : X) (last : Option (List ℕ)) (further : H) (r : Round) (most : ℕ) → turns + 1 ≤ most → ServesFrom stands serves keeps last_too single 1 r j k mid new has last holds further →
          ServesFrom stands serves keeps last_too single most r i k old new had last stood further
      finish_from k new last further r most within o s h =
          let a = f s h in
          let b = o a.0 a.1 in
          (b.0, b.1, finish i j s a.0 had has stood holds turns a.2 k b.0 last further r most within b.2)

      pub stop_from : (fault : SessionFault) (k : Input) (new : X) (last : Option (List ℕ)) (further : H) → i.reads ≤ j.reads → j.failed ≡ false → StopsFrom stands serves halts keeps leaves last_too single may_end fault j k mid new has last holds further →
          StopsFrom stands serves halts keeps leaves last_too single may_end fault i k old new had last stood further
      stop_from fault k new last further before fine o s h =
          let a = f s h in
          let b = o a.0 a.1 in
          (b.0, b.1, stop i j s a.0 had has stood holds turns a.2 fault k b.0 last further before fine b.2)

      pub endless_from : 18446744073709551615 ≤ turns → StopsFrom stands serves halts keeps leaves last_too single may_end Endless i j old mid had has stood holds
      endless_from all s h =
          let a = f s h in
          (a.0, a.1, endless i j s a.0 had has stood holds turns a.2 all)

    pub failed_from : (fault : SessionFault) (i j k : Input) (old new : X) (had has : Option (List ℕ)) (stood holds : H) → k ≡ with_failed j true → StopsFrom stands serves halts keeps leaves last_too single may_end fault i j old new had has stood holds →
        StopsFrom stands serves halts keeps leaves last_too single may_end fault i k old new had has stood holds
    failed_from fault i j k old new had has stood holds is o s h =
        let b = o s h in
        (b.0, b.1, failed fault i j k s b.0 had has stood holds is b.2)

    pub before_from : (i : Input) (old : X) (had : Option (List ℕ)) (stood : H) → is_safe stood → i.failed ≡ true → StopsFrom stands serves halts keeps leaves last_too single may_end Broken i i old old had had stood stood
    before_from i old had stood safe is s h = (s, h, failed_before i s had stood safe is)

pub opens_more : (last_too : Bool) (k : Input) (read begun : List ℕ) → EndsBy last_too More k read begun → (begun ≡ []) × (1 ≤ length (lines_of read))
opens_more last_too k read begun e = e

pub opens_served : (last_too : Bool) (k : Input) (read begun : List ℕ) → EndsBy last_too Served k read begun → (begun ≡ []) × (1 ≤ length (lines_of read))
opens_served last_too k read begun e = (e.0, e.1)

pub whole_more : (last_too : Bool) (read : List ℕ) → IsWhole last_too More read → EndsLine read
whole_more true read w = w
whole_more false read w = w

pub whole_served : (last_too : Bool) (read : List ℕ) → IsWhole last_too Served read → EndsLine read
whole_served true read w = w
whole_served false read w = w

-- lines that are served one after another
use Rattle.std.proofs.Common.{◌≡◌, ◌∙◌, ℕ, ◌+◌, ◌≤◌, ◌<◌, List, [], ◌∷◌, ◌++◌, Bool, true, false, Option, None, length, inl, inr, sym, subst, refl, ap, arith, append-nil, append_assoc}
use Rattle.std.specs.Prelude.{◌⊎◌, position}
use Rattle.std.proofs.KnownBytes.{Consumes-nil, Consumes-trans}
use Rattle.std.proofs.lemmas.List.{length-append}
use Rattle.wh_text.specs.Lines.{lines_of, without_cr, is_line_feed, IsLine}
use Rattle.wh_text.proofs.CutLemmas.{lines-feed, lines-last}
use Rattle.wh_lines.specs.Text.{short_line, EndsLine}
use Rattle.wh_lines.specs.Input.{Input, left, Takes}
use Rattle.wh_lines.proofs.Cuts.{whole_next}
use Rattle.wh_lines.proofs.Parts.{none, none_before, before_plain}
use Rattle.wh_session.specs.declared.machine.Halt.{Halt}
use Rattle.wh_session.specs.declared.fault.Round.{Round}
use Rattle.wh_session.specs.declared.fault.Round.TheVariants.{More, Served, Ended, Torn, Over}
use Rattle.wh_session.specs.declared.fault.SessionFault.{SessionFault}
use Rattle.wh_session.specs.declared.fault.SessionFault.TheVariants.{Broken, Endless, Unwritten, Unkept, NoMemory, Failed}
use Rattle.wh_session.specs.Machines.{Records, nothing, joined, ServesAll, ServesOne, ClearFrom}
use Rattle.wh_session.specs.Joined.{joined_nil, joined_assoc}
use Rattle.wh_session.specs.Sessions.{IsWhole, Reads, HasCause}
use Rattle.wh_session.specs.Steps.{TakesLine, TakesRest, TakesTorn, TakesNone, Same, Halts, StepsFrom, HaltsStepFrom}
use Rattle.wh_session.specs.declared.stepping.Step.TheVariants as steps
use Rattle.wh_session.specs.Parts.{GathersUntil, GathersFrom, GathersUntilFrom}

pub plain_all : (xs : List ℕ) → position is_line_feed xs ≡ None → IsLine xs
plain_all xs e = subst IsLine (none_before xs (none xs e)) (before_plain xs)

pub ends_both : (a b : List ℕ) → EndsLine a → EndsLine b → EndsLine (a ++ b)
ends_both a b p q more =
    ap lines_of (append_assoc a b more) ∙ p (b ++ more) ∙ ap (λ l. lines_of a ++ l) (q more) ∙ sym (append_assoc (lines_of a) (lines_of b) (lines_of more)) ∙ ap (λ l. l ++ lines_of more) (sym (p b))

-- lines and then lines are as many as both
pub lines_both : (a b : List ℕ) → EndsLine a → length (lines_of (a ++ b)) ≡ length (lines_of a) + length (lines_of b)
lines_both a b p = ap (λ (ls : List (List ℕ)). length ls) (p b) ∙ length-append (lines_of a) (lines_of b)

pub whole_any : (last_too : Bool) (r : Round) (read : List ℕ) → EndsLine read → IsWhole last_too r read
whole_any true Ended read p = tt
whole_any false Ended read p = p
whole_any true More read p = p
whole_any false More read p = p
whole_any true Served read p = p
whole_any false Served read p = p
whole_any true Torn read p = p
whole_any false Torn read p = p
whole_any true Over read p = p
whole_any false Over read p = p

pub whole_end : (last_too : Bool) (read : List ℕ) → last_too ≡ true → IsWhole last_too Ended read
whole_end true read e = tt
whole_end false read e = cc

was_asked : (i j k : Input) → i.reads ≤ j.reads → j.failed ≡ false → (j.failed ≡ true) ⊎ (j.reads < k.reads) → i.reads < k.reads
was_asked i j k before fine (inl failed) = absurd (cc (failed, fine))
was_asked i j k before fine (inr more) = omega (arith, before, more)

-- a cause from later on, with lines before it
pub cause_on : (fault : SessionFault) (i j k : Input) (few many : ℕ) → i.reads ≤ j.reads → j.failed ≡ false → few ≤ many → HasCause fault j k few → HasCause fault i k many
cause_on Broken i j k few many before fine le c = inr (was_asked i j k before fine c)
cause_on Endless i j k few many before fine le (inl c) = inl c
cause_on Endless i j k few many before fine le (inr c) = inr (omega (arith, le, c))
cause_on Unwritten i j k few many before fine le c = tt
cause_on Unkept i j k few many before fine le c = tt
cause_on NoMemory i j k few many before fine le c = tt
cause_on Failed i j k few many before fine le c = tt

module _ {S : Type 0} (serves : S → Option (List ℕ) → List ℕ → Records → S → Type 0) where
  pub all_join : (lines more : List (List ℕ)) (old mid new : S) (t u : List ℕ) (k l : Records) → ServesAll serves lines old t k mid → ServesAll serves more mid u l new →
      ServesAll serves (lines ++ more) old (t ++ u) (joined k l) new
  all_join [] more old mid new t u k l p q =
      let here : ServesAll serves more old u l new = subst (λ (x : S). ServesAll serves more x u l new) p.0 q in
      let told : ServesAll serves more old (t ++ u) l new = subst (λ (b : List ℕ). ServesAll serves more old b l new) (sym (ap (λ (f : List ℕ). f ++ u) p.1)) here in
      subst (λ (b : Records). ServesAll serves more old (t ++ u) b new) (sym (ap (λ (f : Records). joined f l) p.2)) told
  all_join (line ∷ lines) more old mid new t u k l p q = (
    p.0,
    p.1,
    p.2 ++ u,
    p.3,
    joined p.4 l,
    p.5,
    all_join lines more p.0 mid new p.2 u p.4 l p.6 q,
    ap (λ (b : List ℕ). b ++ u) p.7 ∙ append_assoc p.1 p.2 u,
    ap (λ (b : Records). joined b l) p.8 ∙ joined_assoc p.3 p.4 l,
  )

  -- whole lines and then others
  pub texts_join : (a b : List ℕ) (old mid new : S) (t u : List ℕ) (k l : Records) → EndsLine a → ServesAll serves (lines_of a) old t k mid → ServesAll serves (lines_of b) mid u l new →
      ServesAll serves (lines_of (a ++ b)) old (t ++ u) (joined k l) new
  texts_join a b old mid new t u k l whole p q =
      subst (λ ls. ServesAll serves ls old (t ++ u) (joined k l) new) (sym (whole b)) (all_join (lines_of a) (lines_of b) old mid new t u k l p q)

  -- whole lines and one more
  one_join : (a bytes raw : List ℕ) (old mid new : S) (said says : List ℕ) (came comes : Records) → EndsLine a → lines_of bytes ≡ without_cr raw ∷ [] → ServesAll serves (lines_of a) old said came mid →
      ServesOne serves (short_line raw) mid new said says came comes → ServesAll serves (lines_of (a ++ bytes)) old says comes new
  one_join a bytes raw old mid new said says came comes whole one all s =
      let line : ServesAll serves (lines_of bytes) mid s.told s.kept new =
      subst (λ ls. ServesAll serves ls mid s.told s.kept new) (sym one) (new, s.told, [], s.kept, nothing, s.did, (refl, refl, refl), sym (append-nil s.told), sym (joined_nil s.kept)) in
      let both = texts_join a bytes old mid new said s.told came s.kept whole all line in
      let told = subst (λ (b : List ℕ). ServesAll serves (lines_of (a ++ bytes)) old b (joined came s.kept) new) (sym s.says_are) both in
      subst (λ (b : Records). ServesAll serves (lines_of (a ++ bytes)) old says b new) (sym s.comes_are) told

  -- whole lines were served, no fewer than the given number
  pub record Following (before after : Input) (old new : S) (said : List ℕ) (came : Records) (turns : ℕ) : Type 0 where
    pub read : List ℕ
    pub takes : Takes before after read
    pub whole : EndsLine read
    pub all : ServesAll serves (lines_of read) old said came new
    pub many : turns ≤ length (lines_of read)

  follows_start : (i : Input) (old : S) (said : List ℕ) (came : Records) → said ≡ [] → came ≡ nothing → Following i i old old said came 0
  follows_start i old said came p q = record { read = []; takes = Consumes-nil (left i); whole = λ more. refl; all = (refl, p, q); many = omega arith }

  module _ (i j k : Input) (old mid : S) (said : List ℕ) (came : Records) (turns : ℕ) (f : Following i j old mid said came turns) where
    taken : (bytes : List ℕ) → Takes j k bytes → Takes i k (f.read ++ bytes)
    taken bytes t = Consumes-trans (left i) (left j) (left k) f.read bytes f.takes t

    module _ (new : S) (says : List ℕ) (comes : Records) where
      follows_line : TakesLine serves j k mid new said says came comes → Following i k old new says comes (turns + 1)
      follows_line t =
          let bytes = t.raw ++ 10 ∷ [] in
          let lines = lines_both f.read bytes f.whole in
          let one = ap (λ (ls : List (List ℕ)). length ls) (lines-feed t.raw [] t.plain) in
          let many = f.many in
          record {
            read = f.read ++ bytes;
            takes = taken bytes t.takes;
            whole = whole_next f.read t.raw f.whole t.plain;
            all = one_join f.read bytes t.raw old mid new said says came comes f.whole (lines-feed t.raw [] t.plain) f.all t.one;
            many = omega arith;
          }

      -- and a first one is one
      first_line : (t : TakesLine serves j k mid new said says came comes) → f.read ≡ [] → length (lines_of (f.read ++ (t.raw ++ 10 ∷ []))) ≤ 1
      first_line t e =
          let lines : lines_of (f.read ++ (t.raw ++ 10 ∷ [])) ≡ without_cr t.raw ∷ [] = ap (λ r. lines_of (r ++ (t.raw ++ 10 ∷ []))) e ∙ lines-feed t.raw [] t.plain in
          let one : length (lines_of (f.read ++ (t.raw ++ 10 ∷ []))) ≡ 1 = ap (λ (ls : List (List ℕ)). length ls) lines in
          omega arith

      -- the same lines, where the same waits
      still_all : Same mid new said says came comes → ServesAll serves (lines_of f.read) old says comes new
      still_all same = subst (λ (x : S). ServesAll serves (lines_of f.read) old says comes x) (sym same.state)
          (subst (λ (b : List ℕ). ServesAll serves (lines_of f.read) old b comes mid) (sym same.said_is)
          (subst (λ (r : Records). ServesAll serves (lines_of f.read) old said r mid) (sym same.came_is) f.all))

      module _ (last_too : Bool) where
        reads_rest : TakesRest serves last_too j k mid new said says came comes → Reads serves last_too Ended i k old new says comes
        reads_rest t = elim t.one [
          | inl still ↦ record {
            read = f.read;
            begun = [];
            takes = taken [] (subst (λ l. Takes j k l) still.1 t.takes);
            whole = whole_any last_too Ended f.read f.whole;
            ends = (refl, t.ended);
            all = still_all still.0;
          }
          | inr more ↦ record {
            read = f.read ++ t.raw;
            begun = [];
            takes = subst (λ l. Takes i k l) (sym (append-nil (f.read ++ t.raw))) (taken t.raw t.takes);
            whole = whole_end last_too (f.read ++ t.raw) more.0;
            ends = (refl, t.ended);
            all = one_join f.read t.raw t.raw old mid new said says came comes f.whole (lines-last t.raw t.plain more.1) f.all more.2;
          }
        ]

        few_rest : (t : TakesRest serves last_too j k mid new said says came comes) → f.read ≡ [] → length (lines_of (reads_rest t).read) ≤ 1
        unfolding reads_rest
        few_rest t e = elim t.one as (λ o. length (lines_of (reads_rest (record { raw = t.raw; plain = t.plain; takes = t.takes; ended = t.ended; one = o })).read) ≤ 1) [
          | inl still ↦ (let no : length (lines_of f.read) ≡ 0 = ap (λ r. length (lines_of r)) e in omega arith)
          | inr more ↦
              let lines : lines_of (f.read ++ t.raw) ≡ without_cr t.raw ∷ [] = ap (λ r. lines_of (r ++ t.raw)) e ∙ lines-last t.raw t.plain more.1 in
              let one : length (lines_of (f.read ++ t.raw)) ≡ 1 = ap (λ (ls : List (List ℕ)). length ls) lines in
              omega arith
        ]

        reads_none : TakesNone j k mid new said says came comes → Reads serves last_too Over i k old new says comes
        reads_none t = record {
          read = f.read;
          begun = t.bytes;
          takes = taken t.bytes t.takes;
          whole = whole_any last_too Over f.read f.whole;
          ends = t.line;
          all = still_all t.same;
        }

        reads_torn : TakesTorn last_too j k mid new said says came comes → Reads serves last_too Torn i k old new says comes
        reads_torn t = record {
          read = f.read;
          begun = t.raw;
          takes = taken t.raw t.takes;
          whole = whole_any last_too Torn f.read f.whole;
          ends = (t.plain, t.some, t.ended, t.not_too);
          all = still_all t.same;
        }

    -- no further line was served
    until : (halts : S → Option (List ℕ) → Halt → S → Type 0) (last_too single : Bool) (fault : SessionFault) (new : S) → (single ≡ true → f.read ≡ []) → i.reads ≤ j.reads → j.failed ≡ false → Halts halts last_too fault j k mid new →
        GathersUntil serves halts last_too single fault i k old new
    until halts last_too single fault new none before fine h = record {
      read = f.read;
      whole = f.whole;
      told = said;
      kept = came;
      reached = mid;
      all = f.all;
      none = none;
      begun = h.bytes;
      takes = taken h.bytes h.takes;
      left_off = h.left_off;
      cause = cause_on fault i j k 0 (length (lines_of f.read)) before fine (omega arith) h.cause;
    }

  reads_more : (last_too : Bool) (i j : Input) (old new : S) (said : List ℕ) (came : Records) (turns : ℕ) (f : Following i j old new said came turns) → 1 ≤ turns → Reads serves last_too More i j old new said came
  reads_more last_too i j old new said came turns f some = record {
    read = f.read;
    begun = [];
    takes = subst (λ l. Takes i j l) (sym (append-nil f.read)) f.takes;
    whole = whole_any last_too More f.read f.whole;
    ends = (refl, let many = f.many in omega arith);
    all = f.all;
  }

  reads_served : (last_too : Bool) (i j : Input) (old new : S) (said : List ℕ) (came : Records) (turns : ℕ) (f : Following i j old new said came turns) → 1 ≤ turns → IsLine j.waiting → Reads serves last_too Served i j old new said came
  reads_served last_too i j old new said came turns f some plain = record {
    read = f.read;
    begun = [];
    takes = subst (λ l. Takes i j l) (sym (append-nil f.read)) f.takes;
    whole = whole_any last_too Served f.read f.whole;
    ends = (refl, (let many = f.many in omega arith), plain);
    all = f.all;
  }

-- ---- from each state that the machine represents

module _ {X : Type 0} {S : Type 0} (stands : X → S → Type 0) (serves : S → Option (List ℕ) → List ℕ → Records → S → Type 0) (halts : S → Option (List ℕ) → Halt → S → Type 0) (says : X → S → List ℕ) (logs : X → S → Records) (last_too single : Bool) where
  -- where each line is a round, none was served yet
  abbrev pub FollowingFrom : Input → Input → X → X → ℕ → Type 0
  FollowingFrom before after old new turns =
      (s : S) → stands old s → (e : S) × stands new e × (f : Following serves before after s e (says new e) (logs new e) turns) × (single ≡ true → f.read ≡ [])

  pub from_start : (i : Input) (old new : X) → ClearFrom stands says logs old new → FollowingFrom i i old new 0
  unfolding follows_start
  from_start i old new clear s h =
      let n = clear s h in
      (s, n.0, follows_start serves i s (says new s) (logs new s) n.1 n.2, λ _. refl)

  module _ (i j k : Input) (old mid new : X) (turns : ℕ) (f : FollowingFrom i j old mid turns) where
    pub from_more : StepsFrom stands serves says logs last_too steps.Line j k mid new → (single ≡ true → ⊥) → FollowingFrom i k old new (turns + 1)
    from_more o many s h =
        let r = f s h in
        let t = o r.0 r.1 in
        (t.0, t.1, follows_line serves i j k s r.0 (says mid r.0) (logs mid r.0) turns r.2 t.0 (says new t.0) (logs new t.0) t.2, λ e. absurd (many e))

    -- a line was served, and the round ends
    pub from_single : StepsFrom stands serves says logs last_too steps.Line j k mid new → single ≡ true → GathersFrom stands serves says logs last_too single More i k old new
    unfolding reads_more follows_line
    from_single o e s h =
        let r = f s h in
        let t = o r.0 r.1 in
        let more = follows_line serves i j k s r.0 (says mid r.0) (logs mid r.0) turns r.2 t.0 (says new t.0) (logs new t.0) t.2 in (
          t.0,
          t.1,
          record {
            lines = reads_more serves last_too i k s t.0 (says new t.0) (logs new t.0) (turns + 1) more (omega arith);
            few = λ _. first_line serves i j k s r.0 (says mid r.0) (logs mid r.0) turns r.2 t.0 (says new t.0) (logs new t.0) t.2 (r.3 e);
            none = λ _ over. absurd (let clash : More ≡ Over = over in cc);
          },
        )

    pub from_rest : StepsFrom stands serves says logs last_too steps.Ended j k mid new → GathersFrom stands serves says logs last_too single Ended i k old new
    from_rest o s h =
        let r = f s h in
        let t = o r.0 r.1 in (
          t.0,
          t.1,
          record {
            lines = reads_rest serves i j k s r.0 (says mid r.0) (logs mid r.0) turns r.2 t.0 (says new t.0) (logs new t.0) last_too t.2;
            few = λ e. few_rest serves i j k s r.0 (says mid r.0) (logs mid r.0) turns r.2 t.0 (says new t.0) (logs new t.0) last_too t.2 (r.3 e);
            none = λ _ over. absurd (let clash : Ended ≡ Over = over in cc);
          },
        )

    pub from_torn : StepsFrom stands serves says logs last_too steps.Torn j k mid new → GathersFrom stands serves says logs last_too single Torn i k old new
    unfolding reads_torn
    from_torn o s h =
        let r = f s h in
        let t = o r.0 r.1 in (
          t.0,
          t.1,
          record {
            lines = reads_torn serves i j k s r.0 (says mid r.0) (logs mid r.0) turns r.2 t.0 (says new t.0) (logs new t.0) last_too t.2;
            few = λ e. let no : length (lines_of r.2.read) ≡ 0 = ap (λ b. length (lines_of b)) (r.3 e) in omega arith;
            none = λ _ over. absurd (let clash : Torn ≡ Over = over in cc);
          },
        )

    pub from_none : StepsFrom stands serves says logs last_too steps.Over j k mid new → GathersFrom stands serves says logs last_too single Over i k old new
    unfolding reads_none
    from_none o s h =
        let r = f s h in
        let t = o r.0 r.1 in (
          t.0,
          t.1,
          record {
            lines = reads_none serves i j k s r.0 (says mid r.0) (logs mid r.0) turns r.2 t.0 (says new t.0) (logs new t.0) last_too t.2;
            few = λ e. let no : length (lines_of r.2.read) ≡ 0 = ap (λ b. length (lines_of b)) (r.3 e) in omega arith;
            none = λ e _. r.3 e;
          },
        )

    pub from_halt : (fault : SessionFault) → i.reads ≤ j.reads → j.failed ≡ false → HaltsStepFrom stands halts last_too fault j k mid new → GathersUntilFrom stands serves halts last_too single fault i k old new
    from_halt fault before fine o s h =
        let r = f s h in
        let t = o r.0 r.1 in
        (t.0, t.1, until serves i j k s r.0 (says mid r.0) (logs mid r.0) turns r.2 halts last_too single fault t.0 r.3 before fine t.2)

  -- lines were served, and there are more, or none
  pub from_full : (i j : Input) (old new : X) (turns : ℕ) → FollowingFrom i j old new (turns + 1) → GathersFrom stands serves says logs last_too single More i j old new
  unfolding reads_more
  from_full i j old new turns f s h =
      let r = f s h in (
        r.0,
        r.1,
        record {
          lines = reads_more serves last_too i j s r.0 (says new r.0) (logs new r.0) (turns + 1) r.2 (omega arith);
          few = λ e. let no : length (lines_of r.2.read) ≡ 0 = ap (λ b. length (lines_of b)) (r.3 e) in omega arith;
          none = λ e _. r.3 e;
        },
      )

  pub from_served : (i j : Input) (old new : X) (turns : ℕ) → FollowingFrom i j old new (turns + 1) → IsLine j.waiting → GathersFrom stands serves says logs last_too single Served i j old new
  unfolding reads_served
  from_served i j old new turns f plain s h =
      let r = f s h in (
        r.0,
        r.1,
        record {
          lines = reads_served serves last_too i j s r.0 (says new r.0) (logs new r.0) (turns + 1) r.2 (omega arith) plain;
          few = λ e. let no : length (lines_of r.2.read) ≡ 0 = ap (λ b. length (lines_of b)) (r.3 e) in omega arith;
          none = λ e _. r.3 e;
        },
      )

  -- more lines were served than can be counted
  pub from_endless : (i j : Input) (old new : X) (turns : ℕ) → FollowingFrom i j old new turns → 18446744073709551615 ≤ turns → GathersUntilFrom stands serves halts last_too single Endless i j old new
  from_endless i j old new turns f all s h =
      let r = f s h in
      let many = r.2.many in (
        r.0,
        r.1,
        record {
          read = r.2.read;
          whole = r.2.whole;
          told = says new r.0;
          kept = logs new r.0;
          reached = r.0;
          all = r.2.all;
          none = r.3;
          begun = [];
          takes = subst (λ l. Takes i j l) (sym (append-nil r.2.read)) r.2.takes;
          left_off = (tt, refl);
          cause = inr (omega arith);
        },
      )

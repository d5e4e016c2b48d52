-- A client's session that ended, or was stopped by a fault.
use Rattle.std.proofs.Common.{◌≡◌, ◌≢◌, ◌+◌, ◌≤◌, ℕ, List, [], ◌∷◌, ◌++◌, length, refl, sym, ap, ◌∙◌, arith, subst, Option, append_assoc, append-nil, Bool, true, false, inl, inr, Result}
use Rattle.std.specs.Prelude.{◌-◌, ◌^◌}
use Rattle.std.specs.Io.KnownBytes.{Appends, Keeps}
use Rattle.std.proofs.KnownBytes.{Appends-nil, Appends-kept}
use mathlib.Core.List.{IsPrefix}
use Rattle.wh_text.specs.Lines.{lines_of, without_cr, IsLine}
use Rattle.wh_text.proofs.CutLemmas.{lines-feed}
use Rattle.wh_lines.specs.Text.{EndsLine, short_line}
use Rattle.wh_lines.specs.Input.{Input, Takes}
use Rattle.wh_lines.specs.Output.{WritesFront}
use Rattle.wh_lines.proofs.Cuts.{whole_next}
use Rattle.wh_lines.proofs.Written.{front_kept}
use Rattle.wh_grid.specs.Grids.{Floor}
use Rattle.wh_board.proofs.Fronts.{prefix_self, prefix_trans}
use Rattle.wh_desk.specs.Lists.{Received}
use Rattle.wh_desk.specs.Pasts.{Origin}
use Rattle.wh_event.specs.declared.entry.Entry.{Entry}
use Rattle.wh_replay.specs.Answers.{text_of}
use Rattle.wh_replay.specs.Scripts.{WritesToLast}
use Rattle.wh_replay.specs.declared.script.ReplayFault.TheVariants as replay
use Rattle.wh_session.specs.Machines.{Records, ServesAll as AllServed}
use Rattle.wh_session.specs.Sessions.{round_of, Serves, Stops as Stopped, LeavesOff, HaltsAt}
use Rattle.wh_session.specs.declared.machine.Halt.TheVariants as kinds
use Rattle.wh_session.specs.declared.fault.End.{End as SessionEnd}
use Rattle.wh_session.specs.declared.fault.End.TheVariants as session
use Rattle.wh_session.specs.declared.fault.SessionFault.{SessionFault}
use Rattle.wh_session.specs.declared.fault.SessionFault.TheVariants as faults
use Rattle.wh_session.proofs.Following.{ends_both}
use Rattle.wh_serve.specs.declared.served.ServeFault.{ServeFault}
use Rattle.wh_serve.specs.declared.served.ServeFault.TheVariants.{Cut, Unjournaled}
use Rattle.wh_serve.specs.declared.call.Lost.{Lost}
use Rattle.wh_serve.specs.declared.call.Lost.TheVariants as lost
use Rattle.wh_serve.specs.Texts.{InEach, receipt_text, begin_text}
use Rattle.wh_serve.specs.Beginnings.{behind_begin}
use Rattle.wh_serve.specs.Sayings.{asked, said}
use Rattle.wh_serve.specs.Outcomes.{Gives, IsOutputOf, answers}
use Rattle.wh_serve.specs.Losses.{Loses}
use Rattle.wh_serve.specs.Machines.{Standing, IsSameClient}
use Rattle.wh_serve.specs.Sessions.{IsUnserved, IsReadTo, ServesAll, Stops, IsLost, WritesUntil, WritesButLast, HasCause, end_of, fault_of}
use Rattle.wh_serve.proofs.Beginnings.{heard}
use Rattle.wh_serve.proofs.Giving.{output_one}
use Rattle.wh_serve.proofs.Serving.{Answered, same_both, still_short, serves_so, halts_so, output_then, all_grow, all_answered, all_same}

-- no line was served
no_lines : {S : Type 0} (serves : S → Option (List ℕ) → List ℕ → Records → S → Type 0) (bytes : List ℕ) (x y : S) (told : List ℕ) (kept : Records) → bytes ≡ [] → AllServed serves (lines_of bytes) x told kept y → y ≡ x
no_lines serves [] x y told kept is all = all.0
no_lines serves (b ∷ bytes) x y told kept is all = absurd (let no : b ∷ bytes ≡ [] = is in cc)

no_replies : (replies : List (List ℕ)) → length replies ≤ 0 → replies ≡ []
no_replies [] few = refl
no_replies (reply ∷ replies) few = absurd (omega (arith, few))

-- all was told
but_none : (had has : Option (List ℕ)) (replies : List (List ℕ)) → Appends had has (text_of replies) → WritesButLast had has replies
but_none had has replies wrote = record { told = replies; last = []; replies_are = sym (append-nil replies); few = omega arith; whole = wrote }

module _ {X : Type 0} (cells : ℕ) (fits : X → Floor → Bool) (count : X → ℕ) (origin : Origin) where
  module _ {H : Type 0} (keeps leaves : H → Records → H → Type 0) (i j : Input) (s e : Standing X) (had has : Option (List ℕ)) (stood holds : H) (fresh : s.begun ≡ false) (short : length (begin_text s.tag) ≤ 256) where
    -- the output of what is served, where the connection begins with these lines
    output_behind : (history : List Entry) (lines : List (List ℕ)) (to : Received) (left : List X) (replies : List (List ℕ)) → IsOutputOf s.may cells fits count origin.site.grid (receipt_text s.form origin history) (heard s.begun s.tag lines) s.pass s.spares to left replies
        → IsOutputOf s.may cells fits count origin.site.grid (receipt_text s.form origin history) (behind_begin s.tag lines) s.pass s.spares to left replies
    output_behind history lines to left replies o = subst (λ (b : Bool). IsOutputOf s.may cells fits count origin.site.grid (receipt_text s.form origin history) (heard b s.tag lines) s.pass s.spares to left replies) fresh o

    -- ---- without a fault

    served_with : (end : SessionEnd) → s.replies ≡ 0 → (r : Serves (serves_so cells fits count origin) keeps false true (2 ^ 64 - 1) (round_of end) i j s e had has stood holds)
        → EndsLine r.lines.read → IsUnserved (end_of end) r.lines.begun → IsReadTo (end_of end) j
        → InEach e.pass.known (λ history. ServesAll s.may cells fits count origin.site.grid (receipt_text s.form origin history) s.tag i j s.pass s.spares e.pass e.spares had has e.replies (end_of end))
    served_with end zero r whole unserved read_to history begins =
        let a = all_answered cells fits count origin history (lines_of r.lines.read) s r.told r.kept e short r.lines.all begins in
        let few = r.few refl in
        let counted = a.counted (omega (arith, zero, few, a.few)) in
        record {
          read = r.lines.read;
          behind = r.lines.begun;
          takes = r.lines.takes;
          whole = whole;
          unserved = unserved;
          read_to = read_to;
          replies = a.replies;
          output = output_behind history (lines_of r.lines.read) e.pass e.spares a.replies a.output;
          appends = subst (λ (t : List ℕ). Appends had has t) a.told_is r.wrote;
          written_is = omega (arith, zero, counted);
        }

    served_to : (end : SessionEnd) → s.replies ≡ 0 → Serves (serves_so cells fits count origin) keeps false true (2 ^ 64 - 1) (round_of end) i j s e had has stood holds
        → InEach e.pass.known (λ history. ServesAll s.may cells fits count origin.site.grid (receipt_text s.form origin history) s.tag i j s.pass s.spares e.pass e.spares had has e.replies (end_of end))
    served_to session.Input zero r = served_with session.Input zero r r.lines.whole r.lines.ends.0 r.lines.ends.1
    served_to session.Torn zero r = served_with session.Torn zero r r.lines.whole (r.lines.ends.0, r.lines.ends.1) r.lines.ends.2
    served_to session.Over zero r = served_with session.Over zero r r.lines.whole r.lines.ends tt

    -- ---- after a fault

    abbrev StopsBy : ServeFault → List Entry → Type 0
    StopsBy fault history = Stops s.may cells fits count origin.site.grid (receipt_text s.form origin history) s.tag fault i j s.pass s.spares e.pass e.spares had has

    -- lines were served and told, and no more was told
    module _ (read begun told : List ℕ) (kept : Records) (x : Standing X) (whole : EndsLine read) (takes : Takes i j (read ++ begun)) (all : AllServed (serves_so cells fits count origin) (lines_of read) s told kept x)
        (wrote : Appends had has told) where
      module _ (history : List Entry) (begins : IsPrefix x.pass.known history) where
        abbrev answered : Answered cells fits count origin history (lines_of read) told s x
        answered = all_answered cells fits count origin history (lines_of read) s told kept x short all begins

        wrote_replies : Appends had has (text_of answered.replies)
        wrote_replies = subst (λ (t : List ℕ). Appends had has t) answered.told_is wrote

        -- no more was served
        stops_told : (fault : ServeFault) → e.pass ≡ x.pass → e.spares ≡ x.spares → IsLost fault begun → ((replies : List (List ℕ)) → Appends had has (text_of replies) → WritesUntil fault had has replies)
            → HasCause fault i j (length (lines_of read)) → StopsBy fault history
        stops_told fault pass spares lost writes cause = record {
          read = read;
          behind = begun;
          takes = takes;
          lost = lost;
          whole = whole;
          replies = answered.replies;
          output =
              output_behind history (lines_of read) e.pass e.spares answered.replies
              (subst (λ (p : Received). IsOutputOf s.may cells fits count origin.site.grid (receipt_text s.form origin history) (heard s.begun s.tag (lines_of read)) s.pass s.spares p e.spares answered.replies) (sym pass)
              (subst (λ (xs : List X). IsOutputOf s.may cells fits count origin.site.grid (receipt_text s.form origin history) (heard s.begun s.tag (lines_of read)) s.pass s.spares x.pass xs answered.replies) (sym spares) answered.output));
          writes = writes answered.replies wrote_replies;
          cause = cause;
        }

        -- one line more was served
        stops_untold : (raw : List ℕ) → x.begun ≡ true → IsLine raw → begun ≡ raw ++ 10 ∷ [] → (replies : List (List ℕ))
            → Gives x.may cells fits count origin.site.grid (asked (said (short_line raw))) (answers x.may.rights (receipt_text x.form origin history) (said (short_line raw))) x.pass x.spares e.pass e.spares replies
            → length replies ≤ 1 → StopsBy Unjournaled history
        stops_untold raw live plain is replies gives few =
            let text = receipt_text x.form origin history in
            let line = output_one x.may cells fits count origin.site.grid text (without_cr raw) x.pass x.spares e.pass e.spares replies gives in
            let lines : lines_of (read ++ begun) ≡ lines_of read ++ (without_cr raw ∷ []) =
            whole begun ∙ ap (λ (l : List (List ℕ)). lines_of read ++ l) (ap (λ (l : List ℕ). lines_of l) is ∙ lines-feed raw [] plain) in
            let last : heard x.begun x.tag (without_cr raw ∷ []) ≡ without_cr raw ∷ [] = ap (λ (b : Bool). heard b x.tag (without_cr raw ∷ [])) live in
            let served : heard s.begun s.tag (lines_of (read ++ begun)) ≡ heard s.begun s.tag (lines_of read) ++ (without_cr raw ∷ []) =
            ap (λ (ls : List (List ℕ)). heard s.begun s.tag ls) lines ∙ answered.goes_on (without_cr raw ∷ []) ∙ ap (λ (ls : List (List ℕ)). heard s.begun s.tag (lines_of read) ++ ls) last in
            record {
              read = read ++ begun;
              behind = [];
              takes = subst (λ (l : List ℕ). Takes i j l) (sym (append-nil (read ++ begun))) takes;
              lost = inl refl;
              whole = subst (λ (l : List ℕ). EndsLine (read ++ l)) (sym is) (whole_next read raw whole plain);
              replies = answered.replies ++ replies;
              output = output_behind history (lines_of (read ++ begun)) e.pass e.spares (answered.replies ++ replies)
                  (subst (λ (ls : List (List ℕ)). IsOutputOf s.may cells fits count origin.site.grid (receipt_text s.form origin history) ls s.pass s.spares e.pass e.spares (answered.replies ++ replies)) (sym served)
                  (output_then cells fits count origin history (heard s.begun s.tag (lines_of read)) (without_cr raw ∷ []) s x e answered.replies replies answered.same answered.output line));
              writes = record { told = answered.replies; last = replies; replies_are = refl; few = few; whole = wrote_replies };
              cause = tt;
            }

      -- the journal has failed at a line
      stops_lost : (raw : List ℕ) → x.begun ≡ true → IsLine raw → begun ≡ raw ++ 10 ∷ [] → (history : List Entry) → IsPrefix e.pass.known history → (why : Lost)
          → Loses x.may cells fits count origin.site.grid (receipt_text x.form origin history) (said (short_line raw)) x.pass x.spares e.pass e.spares why → StopsBy Unjournaled history
      stops_lost raw live plain is history begins lost.Failed loses =
          stops_told history (subst (λ (p : Received). IsPrefix p.known history) loses.0 begins) Unjournaled loses.0 loses.1 (inr (raw, plain, is)) (λ replies w. but_none had has replies w) tt
      stops_lost raw live plain is history begins lost.Unkept loses =
          stops_untold history (prefix_trans x.pass.known e.pass.known history loses.1.known begins) raw live plain is loses.0 loses.1 loses.2

    module _ (none_leaves : (a : H) (r : Records) (b : H) → leaves a r b → ⊥) where
      module _ (fault : SessionFault) (r : Stopped (serves_so cells fits count origin) (halts_so cells fits count origin) keeps leaves false true true fault i j s e had has stood holds) where
        last_whole : EndsLine r.last
        last_whole = elim r.last_whole [
          | inl whole ↦ whole
          | inr at_end ↦ absurd (let no : false ≡ true = at_end.0 in cc)
        ]

        left_off : LeavesOff (halts_so cells fits count origin) false fault j r.begun r.reached e
        left_off = elim r.left_off [
          | inl left ↦ left
          | inr over ↦ absurd (let no : true ≡ false = over.1 in cc)
        ]

        -- where the writer did not fail, no more was told than the rounds before
        untold : fault ≢ faults.Unwritten → Keeps r.between has
        untold other = elim r.left_so [
          | inl nothing ↦ nothing.untold
          | inr (inl part) ↦ absurd (none_leaves _ _ _ part.front)
          | inr (inr part) ↦ absurd (other part.is)
        ]

        wrote_all : fault ≢ faults.Unwritten → Appends had has r.told
        wrote_all other = Appends-kept had r.between has r.told r.wrote (untold other)

        same_reached : IsSameClient s r.reached
        same_reached = same_both s r.mid r.reached (all_same cells fits count origin (lines_of r.read) s r.told r.kept r.mid r.all) (all_same cells fits count origin (lines_of r.last) r.mid r.last_told r.last_kept r.reached r.last_all)

        -- no line was served behind those that were told
        module _ (none : r.last ≡ []) where
          all_reached : AllServed (serves_so cells fits count origin) (lines_of r.read) s r.told r.kept r.reached
          all_reached = subst (λ (x : Standing X). AllServed (serves_so cells fits count origin) (lines_of r.read) s r.told r.kept x)
              (sym (no_lines (serves_so cells fits count origin) r.last r.mid r.reached r.last_told r.last_kept none r.last_all)) r.all

          takes_begun : Takes i j (r.read ++ r.begun)
          takes_begun = subst (λ (l : List ℕ). Takes i j (r.read ++ (l ++ r.begun))) none r.takes

          no_more_lines : length (lines_of r.read) + length (lines_of r.last) ≡ length (lines_of r.read)
          no_more_lines = let zero : length (lines_of r.last) ≡ 0 = ap (λ (l : List ℕ). length (lines_of l)) none in omega (arith, zero)

          -- reading failed
          stops_read : (f : ServeFault) → fault ≢ faults.Unwritten → e ≡ r.reached → IsLost f r.begun → ((replies : List (List ℕ)) → Appends had has (text_of replies) → WritesUntil f had has replies)
              → HasCause f i j (length (lines_of r.read) + length (lines_of r.last)) → InEach e.pass.known (λ history. StopsBy f history)
          stops_read f other same lost writes cause history begins =
              stops_told r.read r.begun r.told r.kept r.reached r.whole takes_begun all_reached (wrote_all other) history (subst (λ (x : Standing X). IsPrefix x.pass.known history) same begins) f
              (ap (λ (x : Standing X). x.pass) same) (ap (λ (x : Standing X). x.spares) same) lost writes (subst (λ (n : ℕ). HasCause f i j n) no_more_lines cause)

          -- the journal has failed
          stops_halted : fault ≢ faults.Unwritten → HaltsAt (halts_so cells fits count origin) false kinds.Failed j r.begun r.reached e → InEach e.pass.known (λ history. StopsBy Unjournaled history)
          stops_halted other h history begins =
              let is : r.begun ≡ h.raw ++ 10 ∷ [] = elim h.begun_is [
                | inl late ↦ absurd (let no : false ≡ true = late.0 in cc)
                | inr line ↦ line
              ] in
              let l = h.halted history begins in
              stops_lost r.read r.begun r.told r.kept r.reached r.whole takes_begun all_reached (wrote_all other) h.raw l.begun h.plain is history begins l.why l.loses

        -- the reply of the last line was not written to its end, or no more could be read since the writer failed
        module _ (history : List Entry) (begins : IsPrefix r.reached.pass.known history) where
          abbrev first : Answered cells fits count origin history (lines_of r.read) r.told s r.mid
          first = all_answered cells fits count origin history (lines_of r.read) s r.told r.kept r.mid short r.all
              (prefix_trans r.mid.pass.known r.reached.pass.known history (all_grow cells fits count origin (lines_of r.last) r.mid r.last_told r.last_kept r.reached r.last_all) begins)

          abbrev last : Answered cells fits count origin history (lines_of r.last) r.last_told r.mid r.reached
          last = all_answered cells fits count origin history (lines_of r.last) r.mid r.last_told r.last_kept r.reached
              (still_short cells fits count origin s r.mid (all_same cells fits count origin (lines_of r.read) s r.told r.kept r.mid r.all) short) r.last_all begins

          last_front : WritesFront r.between has (text_of last.replies)
          last_front = subst (λ (t : List ℕ). WritesFront r.between has t) last.told_is (elim r.left_so [
            | inl nothing ↦ front_kept r.between r.between has r.last_told 0 (Appends-nil r.between) nothing.untold
            | inr (inl part) ↦ absurd (none_leaves _ _ _ part.front)
            | inr (inr part) ↦ part.front
          ])

          to_last : WritesToLast had has (first.replies ++ last.replies)
          to_last = record {
            told = first.replies;
            last = last.replies;
            replies_are = refl;
            few = let few = r.few refl in omega (arith, few, last.few);
            between = r.between;
            whole = subst (λ (t : List ℕ). Appends had r.between t) first.told_is r.wrote;
            front = last_front;
          }

          stops_written : IsLine r.begun → e ≡ r.reached → StopsBy (Cut replay.Unwritten) history
          stops_written part same = record {
            read = r.read ++ r.last;
            behind = r.begun;
            takes = subst (λ (l : List ℕ). Takes i j l) (sym (append_assoc r.read r.last r.begun)) r.takes;
            lost = part;
            whole = ends_both r.read r.last r.whole last_whole;
            replies = first.replies ++ last.replies;
            output = output_behind history (lines_of (r.read ++ r.last)) e.pass e.spares (first.replies ++ last.replies)
                (subst (λ (ls : List (List ℕ)). IsOutputOf s.may cells fits count origin.site.grid (receipt_text s.form origin history) ls s.pass s.spares e.pass e.spares (first.replies ++ last.replies)) (sym (ap (λ (ls : List (List ℕ)). heard s.begun s.tag ls) (r.whole r.last) ∙ first.goes_on (lines_of r.last)))
                (subst (λ (x : Standing X). IsOutputOf s.may cells fits count origin.site.grid (receipt_text s.form origin history) (heard s.begun s.tag (lines_of r.read) ++ heard r.mid.begun r.mid.tag (lines_of r.last)) s.pass s.spares x.pass x.spares (first.replies ++ last.replies)) (sym same)
                (output_then cells fits count origin history (heard s.begun s.tag (lines_of r.read)) (heard r.mid.begun r.mid.tag (lines_of r.last)) s r.mid r.reached first.replies last.replies first.same first.output last.output)));
            writes = to_last;
            cause = tt;
          }

        none_last : fault ≢ faults.Unkept → fault ≢ faults.Unwritten → r.last ≡ []
        none_last kept told = r.none refl kept told

        same_still : e ≡ r.reached → IsSameClient s e
        same_still same = subst (λ (x : Standing X). IsSameClient s x) (sym same) same_reached

      -- a beginning of what came
      stopped : (fault : SessionFault) → Stopped (serves_so cells fits count origin) (halts_so cells fits count origin) keeps leaves false true true fault i j s e had has stood holds
          → InEach e.pass.known (λ history. StopsBy (fault_of fault) history)
      stopped faults.Broken r =
          let kept : faults.Broken ≢ faults.Unkept = λ is. let no : faults.Broken ≡ faults.Unkept = is in cc in
          let told : faults.Broken ≢ faults.Unwritten = λ is. let no : faults.Broken ≡ faults.Unwritten = is in cc in
          let left = left_off faults.Broken r in
          stops_read faults.Broken r (none_last faults.Broken r kept told) (Cut replay.Broken) told left.1 left.0 (λ replies w. w) r.cause
      stopped faults.Endless r =
          let kept : faults.Endless ≢ faults.Unkept = λ is. let no : faults.Endless ≡ faults.Unkept = is in cc in
          let told : faults.Endless ≢ faults.Unwritten = λ is. let no : faults.Endless ≡ faults.Unwritten = is in cc in
          let left = left_off faults.Endless r in
          stops_read faults.Endless r (none_last faults.Endless r kept told) (Cut replay.Endless) told left.1 left.0 (λ replies w. w) r.cause
      stopped faults.Unwritten r = λ history begins.
          (let left = left_off faults.Unwritten r in
          stops_written faults.Unwritten r history (subst (λ (x : Standing X). IsPrefix x.pass.known history) left.1 begins) left.0 left.1)
      stopped faults.Failed r =
          let kept : faults.Failed ≢ faults.Unkept = λ is. let no : faults.Failed ≡ faults.Unkept = is in cc in
          let told : faults.Failed ≢ faults.Unwritten = λ is. let no : faults.Failed ≡ faults.Unwritten = is in cc in
          stops_halted faults.Failed r (none_last faults.Failed r kept told) told (left_off faults.Failed r)
      stopped faults.NoMemory r = absurd (left_off faults.NoMemory r).halted
      stopped faults.Unkept r = absurd (elim r.left_so [
        | inl nothing ↦ nothing.other refl
        | inr (inl part) ↦ none_leaves _ _ _ part.front
        | inr (inr part) ↦ (let no : faults.Unkept ≡ faults.Unwritten = part.is in cc)
      ])

      -- of the same client
      stopped_same : (fault : SessionFault) → Stopped (serves_so cells fits count origin) (halts_so cells fits count origin) keeps leaves false true true fault i j s e had has stood holds → IsSameClient s e
      stopped_same faults.Broken r = same_still faults.Broken r (left_off faults.Broken r).1
      stopped_same faults.Endless r = same_still faults.Endless r (left_off faults.Endless r).1
      stopped_same faults.Unwritten r = same_still faults.Unwritten r (left_off faults.Unwritten r).1
      stopped_same faults.Unkept r = same_still faults.Unkept r (left_off faults.Unkept r).1
      stopped_same faults.Failed r = same_both s r.reached e (same_reached faults.Failed r) ((left_off faults.Failed r).halted e.pass.known (prefix_self e.pass.known)).same
      stopped_same faults.NoMemory r = absurd (left_off faults.NoMemory r).halted

-- the same of a machine that stood so, and stands so
module _ {X : Type 0} (cells : ℕ) (fits : X → Floor → Bool) (count : X → ℕ) (origin : Origin) (s e : Standing X) {H : Type 0} (keeps leaves : H → Records → H → Type 0) (i j : Input) (had has : Option (List ℕ)) (stood holds : H) (fresh : s.begun ≡ false) (short : length (begin_text s.tag) ≤ 256) where
  module _ (end : SessionEnd) (f : (a : Standing X) → s ≡ a → (b : Standing X) × (e ≡ b) × Serves (serves_so cells fits count origin) keeps false true (2 ^ 64 - 1) (round_of end) i j a b had has stood holds) where
    served : Serves (serves_so cells fits count origin) keeps false true (2 ^ 64 - 1) (round_of end) i j s e had has stood holds
    served =
        let t = f s refl in
        subst (λ (x : Standing X). Serves (serves_so cells fits count origin) keeps false true (2 ^ 64 - 1) (round_of end) i j s x had has stood holds) (sym t.1) t.2

    pub served_so : s.replies ≡ 0 → InEach e.pass.known (λ history. ServesAll s.may cells fits count origin.site.grid (receipt_text s.form origin history) s.tag i j s.pass s.spares e.pass e.spares had has e.replies (end_of end))
    served_so zero = served_to cells fits count origin keeps leaves i j s e had has stood holds fresh short end zero served

    pub served_same : IsSameClient s e
    served_same = all_same cells fits count origin (lines_of served.lines.read) s served.told served.kept e served.lines.all

  module _ (none_leaves : (a : H) (r : Records) (b : H) → leaves a r b → ⊥) (fault : SessionFault)
      (f : (a : Standing X) → s ≡ a → (b : Standing X) × (e ≡ b) × Stopped (serves_so cells fits count origin) (halts_so cells fits count origin) keeps leaves false true true fault i j a b had has stood holds) where
    left : Stopped (serves_so cells fits count origin) (halts_so cells fits count origin) keeps leaves false true true fault i j s e had has stood holds
    left =
        let t = f s refl in
        subst (λ (x : Standing X). Stopped (serves_so cells fits count origin) (halts_so cells fits count origin) keeps leaves false true true fault i j s x had has stood holds) (sym t.1) t.2

    pub stopped_so : InEach e.pass.known (λ history. Stops s.may cells fits count origin.site.grid (receipt_text s.form origin history) s.tag (fault_of fault) i j s.pass s.spares e.pass e.spares had has)
    stopped_so = stopped cells fits count origin keeps leaves i j s e had has stood holds fresh short none_leaves fault left

    pub stopped_as : IsSameClient s e
    stopped_as = stopped_same cells fits count origin keeps leaves i j s e had has stood holds fresh short none_leaves fault left

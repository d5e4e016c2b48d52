-- What calls give, one after another.
use Rattle.std.proofs.Common.{◌≡◌, ◌+◌, ◌≤◌, ◌⊎◌, ℕ, inl, inr, true, false, List, [], ◌∷◌, ◌++◌, length, drop, refl, sym, ap, ◌∙◌, arith, subst, Ok, Err, append_assoc, append-nil, Bool, suc}
use Rattle.wh_grid.specs.Grids.{Floor}
use Rattle.wh_event.specs.declared.event.Command.{Command}
use Rattle.wh_event.specs.declared.entry.Entry.{Entry}
use Rattle.wh_event.specs.declared.fault.LineFault.{LineFault}
use mathlib.Core.List.{IsPrefix}
use Rattle.wh_desk.specs.declared.answer.DeskFault.TheVariants as faults
use Rattle.wh_desk.specs.Lists.{Received}
use Rattle.wh_board.proofs.Fronts.{prefix_self, prefix_trans, prefix_length}
use Rattle.wh_desk.proofs.Telling.{refused_keeps}
use Rattle.std.proofs.lemmas.List.{length-append}
use Rattle.wh_serve.specs.Allowances.{MayCall, IsWhyNone}
use Rattle.wh_serve.specs.Sayings.{asked, commands_of, says}
use Rattle.wh_serve.specs.declared.allowance.Allowance.{Allowance}
use Rattle.wh_serve.specs.declared.allowance.Rights.{Rights}
use Rattle.wh_serve.specs.declared.said.Said.{Said}
use Rattle.wh_serve.specs.declared.said.Said.TheVariants.{Nothing, Asks, Stop, NoCommand}
use Rattle.wh_serve.specs.declared.call.NoReceipt.{NoReceipt}
use Rattle.wh_serve.specs.declared.call.NoReceipt.TheVariants as without
use Rattle.wh_serve.specs.Texts.{without_text}
use Rattle.wh_serve.specs.Outcomes.{Outcome, receipts_of, line_text, stop_text, answers, replies_to, Made, Gives, IsOutputOf, HasFull}
use Rattle.wh_scribe.specs.Calls.{Receives}
use Rattle.wh_serve.specs.Calls.{Leaves}

-- ---- calls

-- whether a command has no receipt since the journal is full
abbrev says_full : NoReceipt → Bool
says_full (without.Refused faults.Full) = true
says_full (without.Refused faults.Stale) = false
says_full (without.Refused faults.NoMemory) = false
says_full (without.Refused faults.CellTaken) = false
says_full without.Barred = false
says_full without.ShareUsed = false

abbrev outcome_full : Outcome → Bool
outcome_full (Ok receipt) = false
outcome_full (Err why) = says_full why

not_full : (why : NoReceipt) → HasFull (Err why ∷ []) → says_full why ≡ true
not_full why (inl is) = ap outcome_full is
not_full why (inr none) = absurd none

-- what is left of a pass where a command has no receipt
left_caller : (cells : ℕ) (had : Received) (why : NoReceipt) (has : Received) → Leaves cells had why has → (has.caller ≡ had.caller) × (has.list ≡ had.list) × IsPrefix had.known has.known
left_caller cells had (without.Refused fault) has r = refused_keeps cells had fault has r
left_caller cells had without.Barred has r = (ap (λ (p : Received). p.caller) r, ap (λ (p : Received). p.list) r, subst (λ (p : Received). IsPrefix had.known p.known) (sym r) (prefix_self had.known))
left_caller cells had without.ShareUsed has r = (ap (λ (p : Received). p.caller) r, ap (λ (p : Received). p.list) r, subst (λ (p : Received). IsPrefix had.known p.known) (sym r) (prefix_self had.known))

-- who is refused since the journal is full knows of a full one
left_filled : (cells : ℕ) (had : Received) (why : NoReceipt) (has : Received) → Leaves cells had why has → HasFull (Err why ∷ []) → cells ≤ length has.known
left_filled cells had (without.Refused faults.Full) has r full = omega (arith, r.is_full)
left_filled cells had (without.Refused faults.Stale) has r full = absurd (cc (not_full (without.Refused faults.Stale) full))
left_filled cells had (without.Refused faults.NoMemory) has r full = absurd (cc (not_full (without.Refused faults.NoMemory) full))
left_filled cells had (without.Refused faults.CellTaken) has r full = absurd (cc (not_full (without.Refused faults.CellTaken) full))
left_filled cells had without.Barred has r full = absurd (cc (not_full without.Barred full))
left_filled cells had without.ShareUsed has r full = absurd (cc (not_full without.ShareUsed full))

receipts_append : (os ps : List Outcome) → receipts_of (os ++ ps) ≡ receipts_of os ++ receipts_of ps
receipts_append [] ps = refl
receipts_append (Ok r ∷ os) ps = ap (λ rs. r ∷ rs) (receipts_append os ps)
receipts_append (Err f ∷ os) ps = receipts_append os ps

-- how many entries there are behind one outcome and more
held_more : (held : ℕ) (o : Outcome) (os : List Outcome) → held + length (receipts_of (o ∷ os)) ≡ (held + length (receipts_of (o ∷ []))) + length (receipts_of os)
held_more held (Ok r) os = omega arith
held_more held (Err why) os = omega arith

made_append : {X : Type 0} (may : Allowance) (fits : X → Floor → Bool) (count : X → ℕ) (grid : Floor) (held : ℕ) (cs : List Command) (os : List Outcome) (ds : List Command) (ps : List Outcome) (spares left rest : List X)
    → Made may fits count grid held cs os spares left → Made may fits count grid (held + length (receipts_of os)) ds ps left rest → Made may fits count grid held (cs ++ ds) (os ++ ps) spares rest
made_append {X} may fits count grid held [] [] ds ps spares left rest p q =
    subst (λ (xs : List X). Made may fits count grid held ds ps xs rest) p (subst (λ n. Made may fits count grid n ds ps left rest) (omega arith) q)
made_append may fits count grid held (c ∷ cs) (o ∷ os) ds ps spares left rest p q =
    (p.0, p.1, made_append may fits count grid (held + length (receipts_of (o ∷ []))) cs os ds ps p.0 left rest p.2 (subst (λ n. Made may fits count grid n ds ps left rest) (held_more held o os) q))
made_append may fits count grid held [] (o ∷ os) ds ps spares left rest p q = absurd p
made_append may fits count grid held (c ∷ cs) [] ds ps spares left rest p q = absurd p

-- each command has its outcome
made_length : {X : Type 0} (may : Allowance) (fits : X → Floor → Bool) (count : X → ℕ) (grid : Floor) (held : ℕ) (cs : List Command) (os : List Outcome) (spares rest : List X) → Made may fits count grid held cs os spares rest → length os ≡ length cs
made_length may fits count grid held [] [] spares rest p = refl
made_length may fits count grid held (c ∷ cs) (o ∷ os) spares rest p = ap suc (made_length may fits count grid (held + length (receipts_of (o ∷ []))) cs os p.0 rest p.2)
made_length may fits count grid held [] (o ∷ os) spares rest p = absurd p
made_length may fits count grid held (c ∷ cs) [] spares rest p = absurd p

-- ---- lines

commands_both : (lines more : List (List ℕ)) → commands_of (lines ++ more) ≡ commands_of lines ++ commands_of more
commands_both [] more = refl
commands_both (l ∷ lines) more = ap (λ cs. asked (says l) ++ cs) (commands_both lines more) ∙ sym (append_assoc (asked (says l)) (commands_of lines) (commands_of more))

-- one line more in front, whatever it says
replies_by : (rights : Rights) (text : ℕ × Entry → List ℕ) (kind : Said) (lines more : List (List ℕ)) (os ps : List Outcome) (told : List (List ℕ))
    → ((ns : List Outcome) → length ns ≡ length (commands_of lines) → replies_to rights text (lines ++ more) (ns ++ ps) ≡ replies_to rights text lines ns ++ told)
    → length os ≡ length (asked kind ++ commands_of lines)
    → answers rights text kind (os ++ ps) ++ replies_to rights text (lines ++ more) (drop (length (asked kind)) (os ++ ps)) ≡ (answers rights text kind os ++ replies_to rights text lines (drop (length (asked kind)) os)) ++ told
replies_by rights text Nothing lines more os ps told further e = further os e
replies_by rights text (NoCommand fault) lines more os ps told further e = ap (λ rs. line_text fault ∷ rs) (further os e)
replies_by rights text Stop lines more os ps told further e = ap (λ rs. stop_text rights ∷ rs) (further os e)
replies_by rights text (Asks command) lines more [] ps told further e = absurd (omega (arith, e))
replies_by rights text (Asks command) lines more (o ∷ os) ps told further e = ap (λ rs. answers rights text (Asks command) (o ∷ os) ++ rs) (further os (omega (arith, e)))

replies_both : (rights : Rights) (text : ℕ × Entry → List ℕ) (lines more : List (List ℕ)) (os ps : List Outcome) → length os ≡ length (commands_of lines)
    → replies_to rights text (lines ++ more) (os ++ ps) ≡ replies_to rights text lines os ++ replies_to rights text more ps
replies_both rights text [] more [] ps e = refl
replies_both rights text [] more (o ∷ os) ps e = absurd (omega (arith, e))
replies_both rights text (l ∷ lines) more os ps e = replies_by rights text (says l) lines more os ps (replies_to rights text more ps) (λ ns d. replies_both rights text lines more ns ps d) e

-- ---- what is given

pub gives_nothing : {X : Type 0} (may : Allowance) (cells : ℕ) (fits : X → Floor → Bool) (count : X → ℕ) (grid : Floor) (told : List Outcome → List (List ℕ)) (old : Received) (spares : List X)
    → Gives may cells fits count grid [] told old spares old spares (told [])
gives_nothing may cells fits count grid told old spares = record {
  outcomes = [];
  replies_are = refl;
  made = refl;
  caller_is = refl;
  gained = sym (append-nil old.list);
  known = prefix_self old.known;
  filled = λ full. absurd full;
}

-- a receipt says no such thing
no_full : (receipt : ℕ × Entry) → HasFull (Ok receipt ∷ []) → ⊥
no_full receipt (inl is) = cc (ap outcome_full is)
no_full receipt (inr none) = none

-- where one of two rows of outcomes says that the journal is full
full_later : (o : Outcome) (os ps : List Outcome) → HasFull os ⊎ HasFull ps → HasFull (o ∷ os) ⊎ HasFull ps
full_later o os ps (inl full) = inl (inr full)
full_later o os ps (inr full) = inr full

full_in : (os ps : List Outcome) → HasFull (os ++ ps) → HasFull os ⊎ HasFull ps
full_in [] ps full = inr full
full_in (o ∷ os) ps (inl is) = inl (inl is)
full_in (o ∷ os) ps (inr more) = full_later o os ps (full_in os ps more)

full_of : (cells : ℕ) (os ps : List Outcome) (mid new : List Entry) → IsPrefix mid new → (HasFull os → cells ≤ length mid) → (HasFull ps → cells ≤ length new) → HasFull os ⊎ HasFull ps → cells ≤ length new
full_of cells os ps mid new more p q (inl full) = omega (arith, p full, prefix_length mid new more)
full_of cells os ps mid new more p q (inr full) = q full

full_then : (cells : ℕ) (os ps : List Outcome) (mid new : List Entry) → IsPrefix mid new → (HasFull os → cells ≤ length mid) → (HasFull ps → cells ≤ length new) → HasFull (os ++ ps) → cells ≤ length new
full_then cells os ps mid new more p q full = full_of cells os ps mid new more p q (full_in os ps full)

-- the output of one line
pub output_one : {X : Type 0} (may : Allowance) (cells : ℕ) (fits : X → Floor → Bool) (count : X → ℕ) (grid : Floor) (text : ℕ × Entry → List ℕ) (line : List ℕ) (old : Received) (spares : List X) (new : Received) (rest : List X) (replies : List (List ℕ))
    → Gives may cells fits count grid (asked (says line)) (answers may.rights text (says line)) old spares new rest replies → IsOutputOf may cells fits count grid text (line ∷ []) old spares new rest replies
output_one may cells fits count grid text line old spares new rest replies g = record {
  outcomes = g.outcomes;
  replies_are = g.replies_are ∙ sym (append-nil (answers may.rights text (says line) g.outcomes));
  made = subst (λ cs. Made may fits count grid (length old.list) cs g.outcomes spares rest) (sym (append-nil (asked (says line)))) g.made;
  caller_is = g.caller_is;
  gained = g.gained;
  known = g.known;
  filled = g.filled;
}

-- the output of lines and then others
pub output_both : {X : Type 0} (may : Allowance) (cells : ℕ) (fits : X → Floor → Bool) (count : X → ℕ) (grid : Floor) (text : ℕ × Entry → List ℕ) (lines more : List (List ℕ)) (old : Received) (spares : List X) (mid : Received) (left : List X) (new : Received) (rest : List X)
    (had has : List (List ℕ)) → IsOutputOf may cells fits count grid text lines old spares mid left had → IsOutputOf may cells fits count grid text more mid left new rest has
    → IsOutputOf may cells fits count grid text (lines ++ more) old spares new rest (had ++ has)
output_both may cells fits count grid text lines more old spares mid left new rest had has p q =
    let long = made_length may fits count grid (length old.list) (commands_of lines) p.outcomes spares left p.made in
    record {
      outcomes = p.outcomes ++ q.outcomes;
      replies_are = ap (λ rs. rs ++ has) p.replies_are ∙ ap (λ rs. replies_to may.rights text lines p.outcomes ++ rs) q.replies_are ∙ sym (replies_both may.rights text lines more p.outcomes q.outcomes long);
      made = subst (λ cs. Made may fits count grid (length old.list) cs (p.outcomes ++ q.outcomes) spares rest) (sym (commands_both lines more))
          (made_append may fits count grid (length old.list) (commands_of lines) p.outcomes (commands_of more) q.outcomes spares left rest p.made
          (subst (λ n. Made may fits count grid n (commands_of more) q.outcomes left rest) (ap length p.gained ∙ length-append old.list (receipts_of p.outcomes)) q.made));
      caller_is = q.caller_is ∙ p.caller_is;
      gained = q.gained ∙ ap (λ rs. rs ++ receipts_of q.outcomes) p.gained ∙ append_assoc old.list (receipts_of p.outcomes) (receipts_of q.outcomes) ∙ ap (λ rs. old.list ++ rs) (sym (receipts_append p.outcomes q.outcomes));
      known = prefix_trans old.known mid.known new.known p.known q.known;
      filled = λ full. full_then cells p.outcomes q.outcomes mid.known new.known q.known p.filled q.filled full;
    }

-- ---- one line

module _ {X : Type 0} (may : Allowance) (cells : ℕ) (fits : X → Floor → Bool) (count : X → ℕ) (grid : Floor) (text : ℕ × Entry → List ℕ) (line : Said) where
  pub answered_nothing : (old : Received) (spares : List X) → Nothing ≡ line → Gives may cells fits count grid (asked line) (answers may.rights text line) old spares old spares []
  answered_nothing old spares e =
      subst (λ (k : Said). Gives may cells fits count grid (asked k) (answers may.rights text k) old spares old spares []) e
      (gives_nothing may cells fits count grid (answers may.rights text Nothing) old spares)

  pub answered_fault : (old : Received) (spares : List X) (fault : LineFault) → NoCommand fault ≡ line → Gives may cells fits count grid (asked line) (answers may.rights text line) old spares old spares (line_text fault ∷ [])
  answered_fault old spares fault e =
      subst (λ (k : Said). Gives may cells fits count grid (asked k) (answers may.rights text k) old spares old spares (line_text fault ∷ [])) e
      (gives_nothing may cells fits count grid (answers may.rights text (NoCommand fault)) old spares)

  pub answered_stop : (old : Received) (spares : List X) (replies : List (List ℕ)) → replies ≡ stop_text may.rights ∷ [] → Stop ≡ line → Gives may cells fits count grid (asked line) (answers may.rights text line) old spares old spares replies
  answered_stop old spares replies is e =
      subst (λ (k : Said). Gives may cells fits count grid (asked k) (answers may.rights text k) old spares old spares replies) e
      (subst (λ (rs : List (List ℕ)). Gives may cells fits count grid [] (answers may.rights text Stop) old spares old spares rs) (sym is)
      (gives_nothing may cells fits count grid (answers may.rights text Stop) old spares))

  pub answered_receipt : (old : Received) (spares : List X) (command : Command) (receipt : ℕ × Entry) (new : Received) (rest : List X) (told : List ℕ) → told ≡ text receipt
      → Asks command ≡ line → MayCall may (length old.list) command → Receives fits count grid command old spares receipt new rest → Gives may cells fits count grid (asked line) (answers may.rights text line) old spares new rest (told ∷ [])
  answered_receipt old spares command receipt new rest told is e fine r =
      subst (λ (k : Said). Gives may cells fits count grid (asked k) (answers may.rights text k) old spares new rest (told ∷ [])) e
      (record { outcomes = Ok receipt ∷ []; replies_are = ap (λ (t : List ℕ). t ∷ []) is; made = (rest, (fine, r.answers, r.takes), refl); caller_is = r.caller_is; gained = r.gained; known = r.known; filled = λ full. absurd (no_full receipt full) })

  pub answered_without : (old : Received) (spares : List X) (command : Command) (why : NoReceipt) (new : Received) (rest : List X)
      → Asks command ≡ line → IsWhyNone may (length old.list) command why → Leaves cells old why new → rest ≡ spares → Gives may cells fits count grid (asked line) (answers may.rights text line) old spares new rest (without_text why ∷ [])
  answered_without old spares command why new rest e is_why left kept =
      let keeps = left_caller cells old why new left in
      subst (λ (k : Said). Gives may cells fits count grid (asked k) (answers may.rights text k) old spares new rest (without_text why ∷ [])) e
      (record {
        outcomes = Err why ∷ [];
        replies_are = refl;
        made = (rest, (is_why, kept), refl);
        caller_is = keeps.0;
        gained = keeps.1 ∙ sym (append-nil old.list);
        known = keeps.2;
        filled = left_filled cells old why new left;
      })

  -- the receipt of a call that is told to nobody
  pub answered_untold : (old : Received) (spares : List X) (command : Command) (new : Received) (rest : List X)
      → Asks command ≡ line → MayCall may (length old.list) command → (receipt : ℕ × Entry) × Receives fits count grid command old spares receipt new rest
      → (replies : List (List ℕ)) × Gives may cells fits count grid (asked line) (answers may.rights text line) old spares new rest replies × (length replies ≤ 1)
  answered_untold old spares command new rest e fine r =
      (text r.0 ∷ [], answered_receipt old spares command r.0 new rest (text r.0) refl e fine r.1, omega arith)

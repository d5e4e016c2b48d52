-- What the calls tell follows from what the journal and the pass keep.
use Rattle.std.proofs.Common.{Option, None, IfSome, ◌≡◌, ℕ, ◌+◌, ◌<◌, List, [], ◌∷◌, ◌++◌, length, take, Some, slice_get, refl, ap, sym, ◌∙◌, subst, arith, IfOk, Result, Ok, Err}
use Rattle.std.specs.List.{All}
use Rattle.std.proofs.lemmas.List.{take_at, length_push}
use Rattle.std.proofs.lemmas.List.Elements.{All-weaker}
use Rattle.wh_event.specs.declared.entry.Entry.{Entry}
use Rattle.wh_event.specs.declared.event.Command.{Command}
use Rattle.wh_desk.specs.declared.answer.Receipt.{Receipt}
use Rattle.wh_desk.specs.declared.answer.DeskFault.{DeskFault}
use Rattle.wh_core.specs.States.{State}
use Rattle.wh_core.specs.Steps.{Run}
use Rattle.wh_desk.specs.Lists.{entries_of, StandIn, Received, Ledger}
use Rattle.logbook.specs.Pages.{Book}
use Rattle.wh_board.specs.Pasts.{Origin, Known}
use Rattle.wh_board.proofs.Fronts.{prefix_self, prefix_trans, prefix_length}
use mathlib.Core.List.{IsPrefix}
use Rattle.std.proofs.Common.{◌≢◌, IfErr, OnErr}
use Rattle.wh_desk.specs.Lists.{TellsTheSame}
use Rattle.wh_desk.specs.Calls.{Entered, Called, IsClockAt, IsStateAt, KnowsFull, Refuses, TellsReceipt, Together, Untouched}
use Rattle.wh_desk.proofs.Entries.{get_left, get_push, entries_stands, entries_before, entries_push_same}

pub called : {X : Type 0} {origin : Origin} {before after : Ledger X} {had has : Received} {command : Command} {position : ℕ} {entry : Entry} → Entered origin before had command after has position entry → Run origin.site origin.opening after.history after.state → Called origin had command has position entry
called {X} {origin} {before} {after} {had} {has} {command} {position} {entry} e run =
    let grown : List Entry = before.history ++ entry ∷ [] in
    let old : StandIn before.history (entries_of before.history had.caller) = entries_stands [] before.history had.caller in
    let kept : StandIn grown (entries_of before.history had.caller) = All-weaker (λ (x : ℕ × Entry). slice_get before.history x.0 ≡ Some x.1) (λ (x : ℕ × Entry). slice_get grown x.0 ≡ Some x.1) (λ x is. get_left before.history (entry ∷ []) x.0 x.1 is) (entries_of before.history had.caller) old in
    let earlier : All (λ (x : ℕ × Entry). x.0 < position) (entries_of before.history had.caller) = All-weaker (λ (x : ℕ × Entry). x.0 < 0 + length before.history) (λ (x : ℕ × Entry). x.0 < position) (λ x less. omega (arith, e.position_is)) (entries_of before.history had.caller) (entries_before 0 before.history had.caller) in
    let stands : slice_get grown position ≡ Some entry = ap (slice_get grown) e.position_is ∙ get_push before.history entry in
    record {
      history = after.history;
      state = after.state;
      run = run;
      goes_on = prefix_trans had.known before.history after.history e.had_known (entry ∷ [], sym e.history);
      behind = omega (arith, e.position_is, prefix_length had.known before.history e.had_known);
      had_stand = subst (λ h. StandIn h had.list) (sym e.history) (subst (λ l. StandIn grown l) (sym e.had_all) kept);
      stands = ap (λ h. slice_get h position) e.history ∙ stands;
      later = subst (λ l. All (λ (x : ℕ × Entry). x.0 < position) l) (sym e.had_all) earlier;
      caller_is = e.caller_is;
      command_is = e.command_is;
      has_caller = e.has_caller;
      has_list = e.has_list;
      has_known = e.has_known;
      has_all = e.has_list ∙ ap (λ l. l ++ (position, entry) ∷ []) e.had_all ∙ ap (λ n. entries_of before.history had.caller ++ (n, entry) ∷ []) e.position_is ∙ sym (entries_push_same before.history entry had.caller e.caller_is) ∙ ap (λ h. entries_of h had.caller) (sym e.history);
    }

pub together : {origin : Origin} {one two : Received} {long : ℕ} (history : List Entry) (state : State) → Run origin.site origin.opening history state → long ≡ length history → one.list ≡ entries_of history one.caller → two.list ≡ entries_of history two.caller → Together origin one two long
together {origin} {one} {two} {long} history state run len all all' =
    record {
      history = history;
      state = state;
      run = run;
      length_is = len;
      one_stands = subst (λ l. StandIn history l) (sym all) (entries_stands [] history one.caller);
      two_stands = subst (λ l. StandIn history l) (sym all') (entries_stands [] history two.caller);
      one_all = all;
      two_all = all';
    }

-- the same of a call that may be refused
pub called_if : {X : Type 0} (origin : Origin) (before after : Ledger X) (had has : Received) (command : Command) (outcome : Result Receipt DeskFault) → IfOk outcome (λ r. Entered origin before had command after has r.position r.entry) → Run origin.site origin.opening after.history after.state → IfOk outcome (λ r. Called origin had command has r.position r.entry)
called_if origin before after had has command (Ok r) e run = called e run
called_if origin before after had has command (Err fault) e run = tt

-- the clock that a receipt tells is that at its entry's place
pub clock_if : {X : Type 0} (origin : Origin) (before after : Ledger X) (had has : Received) (command : Command) (outcome : Result Receipt DeskFault)
    → IfOk outcome (λ r. Entered origin before had command after has r.position r.entry) → IfOk outcome (λ r. r.clock ≡ before.state.clock)
    → Run origin.site origin.opening before.history before.state → IfOk outcome (λ r. IsClockAt origin has.known r.position r.clock)
clock_if origin before after had has command (Ok r) e is run =
    let front : take r.position has.known ≡ before.history = ap (λ (l : List Entry). take r.position l) (e.has_known ∙ e.history) ∙ take_at before.history (r.entry ∷ []) r.position (sym e.position_is) in
    (before.state, subst (λ (l : List Entry). Run origin.site origin.opening l before.state) (sym front) run, is)
clock_if origin before after had has command (Err fault) e is run = tt

-- and the state before it is that from which the entry was made
pub state_if : {X : Type 0} (origin : Origin) (before after : Ledger X) (had has : Received) (command : Command) (outcome : Result Receipt DeskFault)
    → IfOk outcome (λ r. Entered origin before had command after has r.position r.entry) → Run origin.site origin.opening before.history before.state
    → IfOk outcome (λ r. IsStateAt origin has.known r.position before.state)
state_if origin before after had has command (Ok r) e run =
    let grown : has.known ≡ before.history ++ r.entry ∷ [] = e.has_known ∙ e.history in
    let front : take r.position has.known ≡ before.history = ap (λ (l : List Entry). take r.position l) grown ∙ take_at before.history (r.entry ∷ []) r.position (sym e.position_is) in
    record {
      within = omega (arith, e.position_is, ap (λ (l : List Entry). length l) grown, length_push before.history r.entry);
      run = subst (λ (l : List Entry). Run origin.site origin.opening l before.state) (sym front) run;
    }
state_if origin before after had has command (Err fault) e run = tt

told_one : {X : Type 0} (origin : Origin) (book : Book) (before after : Ledger X) (had has : Received) (command : Command) (position : ℕ) (entry : Entry) (told : Option Known)
    → Entered origin before had command after has position entry
    → IfSome told (λ t. (t.book ≡ book) × (t.past ≡ record { origin = origin; history = after.history }) × (after.shown ≡ after.history))
    → IfSome told (λ t. TellsReceipt book origin position entry t)
told_one origin book before after had has command position entry None e t = tt
told_one origin book before after had has command position entry (Some k) e t =
    record {
      book_is = t.0;
      origin_is = ap (λ p. p.origin) t.1;
      stands = ap (λ p. slice_get p.history position) t.1 ∙ ap (λ h. slice_get h position) e.history ∙ ap (slice_get (before.history ++ entry ∷ [])) e.position_is ∙ get_push before.history entry;
    }

-- what is told with a receipt, of a call that may be refused
pub told_if : {X : Type 0} (origin : Origin) (book : Book) (before after : Ledger X) (had has : Received) (command : Command) (outcome : Result Receipt DeskFault)
    → IfOk outcome (λ r. Entered origin before had command after has r.position r.entry)
    → IfOk outcome (λ r. IfSome r.told (λ t. (t.book ≡ book) × (t.past ≡ record { origin = origin; history = after.history }) × (after.shown ≡ after.history)))
    → IfOk outcome (λ r. IfSome r.told (λ t. TellsReceipt book origin r.position r.entry t))
told_if origin book before after had has command (Ok r) e t = told_one origin book before after had has command r.position r.entry r.told e t
told_if origin book before after had has command (Err fault) e t = tt

-- what is told of a full journal
pub knows_full : (capacity : ℕ) (had has : Received) (history : List Entry) → has ≡ record { caller = had.caller; list = had.list; known = history } → IsPrefix had.known history → length history ≡ capacity
    → KnowsFull capacity had has
knows_full capacity had has history is begins full = record {
  caller_is = ap (λ (p : Received). p.caller) is;
  list_is = ap (λ (p : Received). p.list) is;
  goes_on = subst (λ (l : List Entry). IsPrefix had.known l) (sym (ap (λ (p : Received). p.known) is)) begins;
  is_full = ap (λ (p : Received). length p.known) is ∙ full;
}

-- a call that was refused for another reason than a stale pass or a full journal
untouched_late : {X : Type 0} (old : Ledger X) (fault : DeskFault) (new : Ledger X) → fault ≢ DeskFault.Stale → fault ≢ DeskFault.Full → TellsTheSame old new → Untouched old fault new
untouched_late old DeskFault.Stale new one two same = absurd (one refl)
untouched_late old DeskFault.Full new one two same = absurd (two refl)
untouched_late old DeskFault.NoMemory new one two same = same
untouched_late old DeskFault.CellTaken new one two same = same

refuses_late : (capacity : ℕ) (had : Received) (fault : DeskFault) (has : Received) → fault ≢ DeskFault.Stale → fault ≢ DeskFault.Full → has ≡ had → Refuses capacity had fault has
refuses_late capacity had DeskFault.Stale has one two same = same
refuses_late capacity had DeskFault.Full has one two same = absurd (two refl)
refuses_late capacity had DeskFault.NoMemory has one two same = same
refuses_late capacity had DeskFault.CellTaken has one two same = same

pub untouched_if : {X : Type 0} (old new : Ledger X) (outcome : Result Receipt DeskFault) (had has : Received) → OnErr outcome (TellsTheSame old new × (has ≡ had)) → IfErr outcome (λ fault. (fault ≢ DeskFault.Stale) × (fault ≢ DeskFault.Full)) → IfErr outcome (λ fault. Untouched old fault new)
untouched_if old new (Ok r) had has same late = tt
untouched_if old new (Err fault) had has same late = untouched_late old fault new late.0 late.1 same.0

pub refuses_if : {X : Type 0} (old new : Ledger X) (capacity : ℕ) (outcome : Result Receipt DeskFault) (had has : Received) → OnErr outcome (TellsTheSame old new × (has ≡ had)) → IfErr outcome (λ fault. (fault ≢ DeskFault.Stale) × (fault ≢ DeskFault.Full)) → IfErr outcome (λ fault. Refuses capacity had fault has)
refuses_if old new capacity (Ok r) had has same late = tt
refuses_if old new capacity (Err fault) had has same late = refuses_late capacity had fault has late.0 late.1 same.1

-- what a refused call leaves of a pass, whatever the reason
pub refused_keeps : (capacity : ℕ) (had : Received) (fault : DeskFault) (has : Received) → Refuses capacity had fault has → (has.caller ≡ had.caller) × (has.list ≡ had.list) × IsPrefix had.known has.known
refused_keeps capacity had DeskFault.Full has r = (r.caller_is, r.list_is, r.goes_on)
refused_keeps capacity had DeskFault.Stale has r = (ap (λ (p : Received). p.caller) r, ap (λ (p : Received). p.list) r, subst (λ (l : List Entry). IsPrefix had.known l) (sym (ap (λ (p : Received). p.known) r)) (prefix_self had.known))
refused_keeps capacity had DeskFault.NoMemory has r = (ap (λ (p : Received). p.caller) r, ap (λ (p : Received). p.list) r, subst (λ (l : List Entry). IsPrefix had.known l) (sym (ap (λ (p : Received). p.known) r)) (prefix_self had.known))
refused_keeps capacity had DeskFault.CellTaken has r = (ap (λ (p : Received). p.caller) r, ap (λ (p : Received). p.list) r, subst (λ (l : List Entry). IsPrefix had.known l) (sym (ap (λ (p : Received). p.known) r)) (prefix_self had.known))

-- who was told that the journal is full knows of a history of its length
pub refused_full : (capacity : ℕ) (had : Received) (has : Received) → Refuses capacity had DeskFault.Full has → length has.known ≡ capacity
refused_full capacity had has r = r.is_full

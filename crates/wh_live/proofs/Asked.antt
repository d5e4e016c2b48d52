-- What a crew asks is in the ranges of a log.
use Rattle.std.proofs.Common.{◌≡◌, ◌+◌, ◌<◌, ◌≤◌, ◌^◌, ◌==◌, ℕ, Bool, true, false, List, [], ◌∷◌, ◌++◌, length, cond, get_or, replicate, reverse, refl, sym, ap, ◌∙◌, subst, arith, All, Option, None, Some, Result, Ok, Err, slice_get}
use Prim.Native.Nat.{zero, suc}
use Rattle.std.specs.List.{AllByRecursion}
use Rattle.std.proofs.lemmas.List.{length-reverse, get_or-reverse}
use Rattle.std.proofs.lemmas.List.Elements.{All-from_recursion}
use Rattle.std.proofs.lemmas.Option.{get_or_from_slice_get, slice_get-get_or, slice_get_within}
use Rattle.std.proofs.lemmas.Bool.Decides.{nat_tests}
use Rattle.wh_grid.specs.Grids.{Floor}
use Rattle.wh_text.specs.Lines.{lines_of}
use Rattle.wh_lines.specs.Input.{Input}
use Rattle.wh_event.specs.CommandLines.{command_of}
use Rattle.wh_event.specs.declared.entry.Entry.{Entry}
use Rattle.wh_event.specs.declared.event.Event.{Event}
use Rattle.wh_event.specs.declared.event.Spare.{Spare}
use Rattle.wh_event.specs.declared.event.Command.{Command}
use Rattle.wh_event.specs.declared.fault.LineFault.{LineFault}
use Rattle.wh_edge.specs.Script.{IsScript, command_in, commands_in}
use Rattle.wh_edge.specs.declared.work.Work.{Work}
use Rattle.wh_log.specs.Ranges.{EventKeeps, SpareKeeps}
use Rattle.wh_live.specs.Lists.{Received, entries_from, entries_of}
use Rattle.wh_live.specs.Work.{IsSublist, nothing, keeps, skips, commands_of, spares_told, told_by, LentFromEnd}
use Rattle.wh_live.specs.Work as crew
use Rattle.wh_live.specs.Pasts.{Origin}
use Rattle.wh_core.specs.States.{State}
use Rattle.wh_live.specs.Clients.{ReadInTurn}
use Rattle.wh_live.specs.Lives.{WorkedFrom}
use Rattle.wh_live.specs.Works.{requests}
use Rattle.wh_judge.specs.Written.{IsAskedInRange}
use Rattle.wh_service.proofs.Asked.{CommandKeeps, CountKeeps, asked_line, keeps_append, spare_keeps, split_left}

line_keeps : (line : List ℕ) (said : Result (Option Command) LineFault) → said ≡ command_of line → AllByRecursion CommandKeeps (command_in said)
line_keeps line (Ok (Some command)) is = (asked_line line command (sym is), tt)
line_keeps line (Ok None) is = tt
line_keeps line (Err fault) is = tt

lines_keep : (lines : List (List ℕ)) → AllByRecursion CommandKeeps (commands_in lines)
lines_keep [] = tt
lines_keep (line ∷ lines) = keeps_append CommandKeeps (command_in (command_of line)) (commands_in lines) (line_keeps line (command_of line) refl) (lines_keep lines)

script_keeps : (lines : List (List ℕ)) (commands : List Command) → IsScript lines commands → AllByRecursion CommandKeeps commands
script_keeps lines commands script = subst (AllByRecursion CommandKeeps) (sym script.1) (lines_keep lines)

-- each client's script
pub clients_keep : (old new : Input) (scripts : List (List Command)) → ReadInTurn old new scripts → AllByRecursion (AllByRecursion CommandKeeps) scripts
clients_keep old new [] turns = tt
clients_keep old new (commands ∷ scripts) turns =
    let read = turns.1.1 in (script_keeps (lines_of read.script) commands read.says, clients_keep turns.1.0 new scripts turns.1.2)

pub replicate_keeps : (n : ℕ) (command : Command) → CommandKeeps command → AllByRecursion CommandKeeps (replicate n command)
replicate_keeps zero command keep = tt
replicate_keeps (suc n) command keep = (keep, replicate_keeps n command keep)

pub requests_keep : (turns agents : ℕ) → agents ≤ 256 → AllByRecursion (AllByRecursion CommandKeeps) (requests turns agents)
requests_keep turns zero few = tt
requests_keep turns (suc agent) few =
    keeps_append (AllByRecursion CommandKeeps) (requests turns agent) _ (requests_keep turns agent (omega arith))
    (replicate_keeps turns (Command.Token agent) (omega arith), tt)

-- a planner of the list, wherever it stands in the list turned round
turned : {X : Type 0} (P : X → Type 0) (xs : List X) (k : ℕ) (x : X) → All P xs → slice_get (reverse xs) k ≡ Some x → P x
turned P xs k x all at =
    let within : k < length (reverse xs) = slice_get_within (reverse xs) k x at in
    let long = length-reverse xs in
    let there : get_or (reverse xs) k x ≡ x = get_or_from_slice_get (reverse xs) k x x at in
    subst P (sym (get_or-reverse xs k x (omega arith)) ∙ there) (all _ x (omega arith))

told_keeps : (told : List Spare) → ((k : ℕ) (t : Spare) → slice_get told k ≡ Some t → SpareKeeps t) → AllByRecursion SpareKeeps told
told_keeps [] each = tt
told_keeps (t ∷ told) each = (each 0 t refl, told_keeps told (λ k s at. each (suc k) s at))

lent_keeps : {X : Type 0} (fits : X → Floor → Bool) (count : X → ℕ) (grid : Floor) (spares : List X) (told : List Spare) → All (CountKeeps count) spares → LentFromEnd fits count grid spares told
    → AllByRecursion SpareKeeps told
lent_keeps fits count grid spares told few lent =
    told_keeps told (λ k t at. spare_keeps fits count grid (slice_get (reverse spares) k) t (λ planner is. turned (CountKeeps count) spares k planner few is) (lent k t at))

-- ---- the entries of one worker

sublist_keeps : {A : Type 0} (P : A → Type 0) (xs ys : List A) → IsSublist xs ys → AllByRecursion P ys → AllByRecursion P xs
sublist_keeps P _ _ nothing all = tt
sublist_keeps P _ _ (keeps x xs ys s) all = (all.0, sublist_keeps P xs ys s all.1)
sublist_keeps P _ _ (skips y xs ys s) all = sublist_keeps P xs ys s all.1

event_keeps : (event : Event) → CommandKeeps (crew.command_of event) → AllByRecursion SpareKeeps (told_by event) → EventKeeps 8 event
event_keeps (Event.Submit client stops) asked told = asked
event_keeps (Event.Request agent) asked told = asked
event_keeps Event.Tick asked told = tt
event_keeps (Event.Replace agent spare) asked told = (asked, told.0)
event_keeps Event.Close asked told = tt

-- what is told with a receipt keeps the ranges
abbrev pub ReceiptKeeps : ℕ × Entry → Type 0
ReceiptKeeps x = EventKeeps 8 x.1.event

pub receipts_keep : (receipts : List (ℕ × Entry)) → AllByRecursion CommandKeeps (commands_of receipts) → AllByRecursion SpareKeeps (spares_told receipts)
    → AllByRecursion ReceiptKeeps receipts
receipts_keep [] asked told = tt
receipts_keep (x ∷ receipts) asked told =
    let parts = split_left SpareKeeps (told_by x.1.event) (spares_told receipts) told in
    (event_keeps x.1.event asked.0 parts.0, receipts_keep receipts asked.1 parts.1)

-- ---- the whole history

tail_of : (k : ℕ) (entry : Entry) (history : List Entry) (caller : ℕ) → AllByRecursion ReceiptKeeps (entries_from k (entry ∷ history) caller)
    → AllByRecursion ReceiptKeeps (entries_from (k + 1) history caller)
tail_of k entry history caller all =
    (elim (entry.caller == caller) as (λ b. AllByRecursion ReceiptKeeps (cond b ((k, entry) ∷ entries_from (k + 1) history caller) (entries_from (k + 1) history caller)) → AllByRecursion ReceiptKeeps (entries_from (k + 1) history caller)) [
      | true ↦ λ both. both.1
      | false ↦ λ rest. rest
    ]) all

head_of : (k : ℕ) (entry : Entry) (history : List Entry) → AllByRecursion ReceiptKeeps (entries_from k (entry ∷ history) entry.caller) → EventKeeps 8 entry.event
head_of k entry history all =
    let test : (entry.caller == entry.caller) ≡ true = grind (arith, nat_tests) in
    (subst (λ b. AllByRecursion ReceiptKeeps (cond b ((k, entry) ∷ entries_from (k + 1) history entry.caller) (entries_from (k + 1) history entry.caller))) test all).0

history_keeps : (k : ℕ) (history : List Entry) (workers : ℕ) → workers ≤ 64 → All (λ entry. entry.caller < workers) history
    → ((caller : ℕ) → caller < workers → AllByRecursion ReceiptKeeps (entries_from k history caller)) → AllByRecursion IsAskedInRange history
history_keeps k [] workers few callers each = tt
history_keeps k (entry ∷ history) workers few callers each =
    let mine = callers 0 entry (omega arith) in (
      record { caller = omega arith; event = head_of k entry history (each entry.caller mine) },
      history_keeps (k + 1) history workers few (λ j d less. callers (suc j) d (omega arith)) (λ caller less. tail_of k entry history caller (each caller less)),
    )

-- the work is in range: its commands, and what is told of its spares
pub record WorkKeeps {X : Type 0} (count : X → ℕ) (work : Work X) : Type 0 where
  pub commands : AllByRecursion CommandKeeps work.commands.items
  pub spares : All (CountKeeps count) work.spares.items

-- what one of the workers did who had nothing before is in range, where their works are
pub worker_keeps : {X : Type 0} (fits : X → Floor → Bool) (count : X → ℕ) (origin : Origin) (works : List (Work X)) (callers journal : ℕ) (history : List Entry) (state : State)
    → length works ≤ callers → AllByRecursion (WorkKeeps count) works → WorkedFrom fits count origin works callers journal history state
    → (caller : ℕ) → caller < length works → AllByRecursion ReceiptKeeps (entries_of history caller)
worker_keeps {X} fits count origin works callers journal history state within keep worked caller less =
    let all = All-from_recursion (WorkKeeps count) works keep in
    let many = worked.worked.one_each in
    let count_is = worked.in_order.count in
    (elim works as (λ ws. ws ≡ works → AllByRecursion ReceiptKeeps (entries_of history caller)) [
      | [] ↦ λ is. absurd (let none = ap length is in omega arith)
      | work ∷ rest ↦ λ is.
          let pass : Received = record { caller = 0; list = []; known = [] } in
          let w = get_or works caller work in
          let had = get_or worked.passes caller pass in
          let n = get_or worked.missed caller (record { full = 0; memory = 0; other = 0 }) in
          let seen = worked.worked.each caller w had n (slice_get-get_or works caller work less) (slice_get-get_or worked.passes caller pass (omega arith)) (slice_get-get_or worked.missed caller (record { full = 0; memory = 0; other = 0 }) (omega arith)) in
          let good = all caller work less in
          let had_none : had.list ≡ [] = worked.empty caller pass (omega arith) in
          let goes : entries_of history caller ≡ seen.received = seen.goes_on ∙ ap (λ l. l ++ seen.received) had_none in
          subst (AllByRecursion ReceiptKeeps) (sym goes)
          (receipts_keep seen.received (sublist_keeps CommandKeeps (commands_of seen.received) w.commands.items seen.in_order good.commands)
          (lent_keeps fits count origin.site.grid w.spares.items (spares_told seen.received) good.spares seen.lent))
    ]) refl

-- what all callers did is in range, where each did so
pub crew_keeps : {X : Type 0} (fits : X → Floor → Bool) (count : X → ℕ) (origin : Origin) (works : List (Work X)) (callers journal : ℕ) (history : List Entry) (state : State)
    → callers ≤ 64 → WorkedFrom fits count origin works callers journal history state → ((caller : ℕ) → caller < callers → AllByRecursion ReceiptKeeps (entries_of history caller))
    → All IsAskedInRange history
crew_keeps fits count origin works callers journal history state few worked each =
    All-from_recursion IsAskedInRange history (history_keeps 0 history callers few worked.by_callers each)

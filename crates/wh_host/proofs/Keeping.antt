-- What a client's entries are, by what it may do.
use Rattle.std.proofs.Common.{◌≡◌, ◌≢◌, ◌≤◌, ◌<◌, ◌+◌, ℕ, List, [], ◌∷◌, ◌++◌, length, true, refl, sym, ap, ◌∙◌, arith, subst, Option, Some, slice_get, Result, Ok, Err, Bool, inl, inr, append_assoc, append-nil}
use Rattle.std.specs.List.{All}
use Rattle.std.proofs.lemmas.List.{length-append}
use Rattle.std.proofs.lemmas.List.Elements.{All-append, All-cons, All-nil}
use Rattle.std.proofs.lemmas.Option.{slice_get_within}
use Rattle.wh_grid.specs.Grids.{Floor}
use Rattle.wh_lines.specs.Input.{Input}
use Rattle.wh_event.specs.declared.event.Command.{Command}
use Rattle.wh_event.specs.declared.entry.Entry.{Entry}
use Rattle.wh_desk.specs.Lists.{Received, entries_of}
use Rattle.wh_desk.specs.Calls.{InOrder}
use Rattle.wh_crew.specs.Work.{command_of}
use Rattle.wh_serve.specs.Allowances.{allows}
use Rattle.wh_host.specs.Runs.{KeepsTo}
use Rattle.wh_serve.specs.Outcomes.{Outcome, receipts_of, Made, Gives}
use Rattle.wh_serve.specs.Rows.{Fared, Session, Visit, Row, Attended}
use Rattle.wh_host.specs.Hosting.{AllServed}
use Rattle.wh_serve.specs.declared.allowance.Allowance.{Allowance}
use Rattle.wh_serve.specs.declared.doors.Tag.{Tag}
use Rattle.wh_serve.specs.declared.served.Served.{Served}
use Rattle.wh_serve.specs.declared.served.ServeFault.{ServeFault}
use Rattle.wh_serve.specs.declared.threads.Client.{Client}
use Rattle.wh_crew.proofs.Crews.{all_at}
use Rattle.wh_serve.proofs.Hosts.{get_some}

-- the client has the right to a receipt's command
abbrev Allowed : Allowance → ℕ × Entry → Type 0
Allowed may x = allows may.rights (command_of x.1.event) ≡ true

made_allowed : {X : Type 0} (may : Allowance) (fits : X → Floor → Bool) (count : X → ℕ) (grid : Floor) (held : ℕ) (cs : List Command) (os : List Outcome) (spares rest : List X)
    → Made may fits count grid held cs os spares rest → All (Allowed may) (receipts_of os)
made_allowed may fits count grid held [] [] spares rest p = All-nil (Allowed may)
made_allowed may fits count grid held (c ∷ cs) (Ok r ∷ os) spares rest p =
    All-cons (Allowed may) r (receipts_of os) (ap (allows may.rights) p.1.1 ∙ p.1.0.0) (made_allowed may fits count grid (held + 1) cs os p.0 rest p.2)
made_allowed may fits count grid held (c ∷ cs) (Err why ∷ os) spares rest p = made_allowed may fits count grid (held + 0) cs os p.0 rest p.2
made_allowed may fits count grid held [] (o ∷ os) spares rest p = absurd p
made_allowed may fits count grid held (c ∷ cs) [] spares rest p = absurd p

made_few : {X : Type 0} (may : Allowance) (fits : X → Floor → Bool) (count : X → ℕ) (grid : Floor) (held : ℕ) (cs : List Command) (os : List Outcome) (spares rest : List X)
    → Made may fits count grid held cs os spares rest → held ≤ may.entries → held + length (receipts_of os) ≤ may.entries
made_few may fits count grid held [] [] spares rest p few = omega (arith, few)
made_few may fits count grid held (c ∷ cs) (Ok r ∷ os) spares rest p few =
    omega (arith, made_few may fits count grid (held + 1) cs os p.0 rest p.2 (omega (arith, p.1.0.1)))
made_few may fits count grid held (c ∷ cs) (Err why ∷ os) spares rest p few =
    omega (arith, made_few may fits count grid (held + 0) cs os p.0 rest p.2 (omega (arith, few)))
made_few may fits count grid held [] (o ∷ os) spares rest p few = absurd p
made_few may fits count grid held (c ∷ cs) [] spares rest p few = absurd p

-- where something was received, it was within the share
made_some : {X : Type 0} (may : Allowance) (fits : X → Floor → Bool) (count : X → ℕ) (grid : Floor) (held : ℕ) (cs : List Command) (os : List Outcome) (spares rest : List X)
    → Made may fits count grid held cs os spares rest → 0 < length (receipts_of os) → held + length (receipts_of os) ≤ may.entries
made_some may fits count grid held [] [] spares rest p some = absurd (omega (arith, some))
made_some may fits count grid held (c ∷ cs) (Ok r ∷ os) spares rest p some =
    omega (arith, made_few may fits count grid (held + 1) cs os p.0 rest p.2 (omega (arith, p.1.0.1)))
made_some may fits count grid held (c ∷ cs) (Err why ∷ os) spares rest p some =
    omega (arith, made_some may fits count grid (held + 0) cs os p.0 rest p.2 some)
made_some may fits count grid held [] (o ∷ os) spares rest p some = absurd p
made_some may fits count grid held (c ∷ cs) [] spares rest p some = absurd p

-- of more that was added, either nothing is new, or what is new was within the share
few_more : {A : Type 0} (most had has : ℕ) (added more : List A) → has ≡ had + length more → (added ≢ [] → had ≤ most) → (0 < length more → had + length more ≤ most) → added ++ more ≢ [] → has ≤ most
few_more most had has added [] is old new some = omega (arith, is, old (λ none. some (append-nil added ∙ none)))
few_more most had has added (x ∷ more) is old new some = omega (arith, is, new (omega arith))

-- one that kept to it does so still
gives_keeps : {X : Type 0} (may : Allowance) (cells : ℕ) (fits : X → Floor → Bool) (count : X → ℕ) (grid : Floor) (begun : List (ℕ × Entry)) (commands : List Command) (told : List Outcome → List (List ℕ))
    (old : Received) (spares : List X) (new : Received) (rest : List X) (replies : List (List ℕ)) → KeepsTo may begun old.list → Gives may cells fits count grid commands told old spares new rest replies → KeepsTo may begun new.list
gives_keeps may cells fits count grid begun commands told old spares new rest replies kept g =
    let more = receipts_of g.outcomes in
    let long : length new.list ≡ length old.list + length more = ap length g.gained ∙ length-append old.list more in
    record {
      added = kept.added ++ more;
      entries_are = g.gained ∙ ap (λ (l : List (ℕ × Entry)). l ++ more) kept.entries_are ∙ append_assoc begun kept.added more;
      allowed = All-append (Allowed may) kept.added more kept.allowed (made_allowed may fits count grid (length old.list) commands g.outcomes spares rest g.made);
      few = few_more may.entries (length old.list) (length new.list) kept.added more long kept.few (made_some may fits count grid (length old.list) commands g.outcomes spares rest g.made);
    }

fared_keeps : {X : Type 0} (may : Allowance) (cells : ℕ) (fits : X → Floor → Bool) (count : X → ℕ) (grid : Floor) (begun : List (ℕ × Entry)) (text : ℕ × Entry → List ℕ) (tag : Tag) (outcome : Result Served ServeFault) (before after : Input)
    (old : Received) (spares : List X) (new : Received) (rest : List X) (had has : Option (List ℕ)) → KeepsTo may begun old.list → Fared may cells fits count grid text tag outcome before after old spares new rest had has → KeepsTo may begun new.list
fared_keeps may cells fits count grid begun text tag (Ok served) before after old spares new rest had has kept f = gives_keeps may cells fits count grid begun _ _ old spares new rest _ kept f.output
fared_keeps may cells fits count grid begun text tag (Err fault) before after old spares new rest had has kept f = gives_keeps may cells fits count grid begun _ _ old spares new rest _ kept f.output

module _ {R W X : Type 0} (may : Allowance) (cells : ℕ) (fits : X → Floor → Bool) (count : X → ℕ) (grid : Floor) (begun : List (ℕ × Entry)) (text : ℕ × Entry → List ℕ) (remaining : R → Option (List ℕ)) (contents : W → Option (List ℕ)) where
  session_keeps : (reader : R) (writer : W) (tag : Tag) (outcome : Result Served ServeFault) (left : W) (had : Received) (spares : List X) (has : Received) (rest : List X) → KeepsTo may begun had.list
      → Session may cells fits count grid text remaining contents reader writer tag outcome left had spares has rest → KeepsTo may begun has.list
  session_keeps reader writer tag outcome left had spares has rest kept (inl s) =
      fared_keeps may cells fits count grid begun text tag outcome s.before s.after had spares has rest s.told (contents left) kept s.fared
  session_keeps reader writer tag outcome left had spares has rest kept (inr s) = subst (λ (p : Received). KeepsTo may begun p.list) (sym s.same) kept

  row_keeps : (visits : List (Visit R W X)) (had : Received) (spares : List X) (has : Received) (rest : List X) → KeepsTo may begun had.list
      → Row may cells fits count grid text remaining contents had spares visits has rest → KeepsTo may begun has.list
  row_keeps [] had spares has rest kept r = subst (λ (p : Received). KeepsTo may begun p.list) (sym r.0) kept
  row_keeps (v ∷ vs) had spares has rest kept r =
      row_keeps vs v.has v.rest has rest (session_keeps v.reader v.writer v.tag v.outcome v.left had spares v.has v.rest kept r.0) r.1

-- who has what it had before keeps to it
begun_keeps : (may : Allowance) (begun entries : List (ℕ × Entry)) → entries ≡ begun → KeepsTo may begun entries
begun_keeps may begun entries same = record {
  added = [];
  entries_are = same ∙ sym (append-nil begun);
  allowed = All-nil (Allowed may);
  few = λ some. absurd (some refl);
}

-- what is each client's in the history, where each had what is its caller's in an earlier one
pub all_keep : {R W X : Type 0} (cells : ℕ) (fits : X → Floor → Bool) (count : X → ℕ) (grid : Floor) (text : ℕ × Entry → List ℕ) (remaining : R → Option (List ℕ)) (contents : W → Option (List ℕ))
    (clients : List (Client X)) (callers : ℕ) (passes : List Received) (earlier history : List Entry) (connections : List ℕ) → length clients ≤ callers → InOrder callers passes → All (λ pass. pass.list ≡ entries_of earlier pass.caller) passes
    → AllServed (λ c had has n. Attended cells fits count grid text remaining contents c had has n) clients passes history connections
    → (i : ℕ) (client : Client X) → slice_get clients i ≡ Some client → KeepsTo client.allowance (entries_of earlier i) (entries_of history i)
all_keep cells fits count grid text remaining contents clients callers passes earlier history connections few order lists served i client client_at =
    let within = slice_get_within clients i client client_at in
    let had = get_some passes i (omega (arith, order.count, few, within)) in
    let times = get_some connections i (omega (arith, served.one_each, within)) in
    let by = served.each i client had.0 times.0 client_at had.1 times.1 in
    let begun : had.0.list ≡ entries_of earlier i =
    all_at (λ (p : Received). p.list ≡ entries_of earlier p.caller) passes lists i had.0 had.1 ∙ ap (entries_of earlier) (order.each i had.0 had.1) in
    subst (KeepsTo client.allowance (entries_of earlier i)) by.list_is
    (row_keeps client.allowance cells fits count grid (entries_of earlier i) text remaining contents by.served.visits.visits had.0 client.spares.items by.has by.served.rest (begun_keeps client.allowance (entries_of earlier i) had.0.list begun) by.served.visits.row)

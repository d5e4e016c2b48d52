-- Turns through a journal.
use Rattle.std.proofs.Common.{◌≡◌, ◌≢◌, ℕ, ◌+◌, ◌<◌, ◌≤◌, ◌⊎◌, ◌||◌, inl, inr, Bool, true, false, cond, not, get_or, set, slice_set, List, [], ◌∷◌, ◌++◌, length, Option, None, Some, IfSome, IfNone, slice_get, refl, ap, sym, ◌∙◌, subst, arith, append_assoc}
use Rattle.std.specs.List.{All, count_by}
use Rattle.std.proofs.lemmas.List.Sums.{sum_by-set}
use Rattle.std.proofs.lemmas.List.{append-nil, length_push, length-set}
use Rattle.std.proofs.lemmas.List.Elements.{All-cons, All-nil}
use Rattle.std.proofs.lemmas.Option.{get_or_from_slice_get, same_Some, slice_get_within}
use mathlib.Core.List.{IsPrefix}
use Rattle.wh_grid.specs.Grids.{Floor}
use Rattle.wh_event.specs.declared.entry.Entry.{Entry}
use Rattle.wh_event.specs.declared.event.Command.TheVariants.{Tick}
use Rattle.wh_board.specs.Pasts.{Origin}
use Rattle.wh_board.specs.declared.board.Board.{Board}
use Rattle.wh_board.proofs.Fronts.{prefix_trans}
use Rattle.wh_desk.specs.Lists.{entries_of, Received}
use Rattle.wh_desk.specs.Calls.{AllBegin, AskedNext, IsNextAt, NobodyAsked, Refuses}
use Rattle.wh_desk.proofs.Asking.{next_may}
use Rattle.wh_desk.specs.declared.answer.DeskFault.{DeskFault}
use Rattle.wh_desk.specs.declared.answer.DeskFault.TheVariants as desk
use Rattle.wh_desk.specs.declared.answer.Receipt.{Receipt}
use Rattle.wh_desk.proofs.Entries.{get_push}
use Rattle.wh_desk.proofs.Telling.{refused_keeps}
use Rattle.wh_crew.proofs.Ending.{all_last}
use Rattle.wh_crew.specs.Work.{command_of}
use Rattle.wh_crew.specs.Turns.{AllAsked, AskInTurn, Asks, Gains, IsLastWhole, IsOutcome, Outcome, Shows, Taken, Ticks, has_any, moves, nobody, with_receipt}
use Rattle.wh_crew.proofs.Asking.{any_push, asks_all, asks_none, asks_more, asks_next, at_tick, gains_called, gains_more, gains_none, gains_still}
use Rattle.wh_crew.proofs.Resting.{outcome_more, rests}
use Rattle.wh_crew.proofs.Turning.{Taking, taken_more}
use Rattle.wh_scribe.specs.Calls.{Leaves, LeavesNext, Receives}
use Rattle.wh_scribe.specs.declared.calling.CallFault.{CallFault}
use Rattle.wh_scribe.specs.declared.calling.CallFault.TheVariants.{Refused, Failed, Unkept}
use Rattle.wh_serve.specs.declared.doors.WorkerEnd.{WorkerEnd}
use Rattle.wh_serve.specs.declared.doors.WorkerEnd.TheVariants.{ShareUsed, Untold}
use Rattle.wh_host.specs.declared.pacing.Pacing.{Pacing}
use Rattle.wh_host.specs.Pacing.{AsksOnce, LeavesOff, PacedIn, PacesUntil, Stops, StopsAsking, StopsTicking, StopsTurn, callers_of}

-- ---- no more entries than may be its own

-- it has no more than the given number of entries, if it has any more than it had
abbrev pub KeepsShare : ℕ → (had has : Received) → Type 0
KeepsShare entries had has = (has.list ≡ had.list) ⊎ (length has.list ≤ entries)

pub share_kept : (entries : ℕ) (a b c : Received) → KeepsShare entries a b → KeepsShare entries b c → KeepsShare entries a c
share_kept entries a b c k (inr few) = inr few
share_kept entries a b c (inl same) (inl still) = inl (still ∙ same)
share_kept entries a b c (inr few) (inl still) = inr (omega (arith, few, ap (λ (l : List (ℕ × Entry)). length l) still))

-- one entry more, where there were fewer
pub share_more : (entries : ℕ) {had has : Received} (x : ℕ × Entry) → Gains had (x ∷ []) has → length had.list < entries → KeepsShare entries had has
share_more entries {had} {has} x g less = inr (omega (arith, ap (λ (l : List (ℕ × Entry)). length l) g.list_is, length_push had.list x, less))

-- ---- a call that told no receipt

refused_gains : (cells : ℕ) (had : Received) (fault : DeskFault) (has : Received) → Refuses cells had fault has → Gains had [] has
refused_gains cells had fault has r =
    let keeps = refused_keeps cells had fault has r in
    record { caller_is = keeps.0; list_is = keeps.1 ∙ sym (append-nil had.list); goes_on = keeps.2; within = All-nil (λ (x : ℕ × Entry). x.0 < length has.known) }

same_gains : (had has : Received) → has ≡ had → Gains had [] has
same_gains had has same = subst (λ (p : Received). Gains had [] p) (sym same) (gains_none had)

-- the pass gained what the last call left
left_gains : (cells entries : ℕ) (had : Received) (end : WorkerEnd) (untold : List (ℕ × Entry)) (has : Received) → LeavesOff cells entries had end untold has → Gains had untold has
left_gains cells entries had ShareUsed untold has l = subst (λ (xs : List (ℕ × Entry)). Gains had xs has) (sym l.0) (same_gains had has l.1)
left_gains cells entries had (Untold (Refused fault)) untold has l = subst (λ (xs : List (ℕ × Entry)). Gains had xs has) (sym l.0) (refused_gains cells had fault has l.1)
left_gains cells entries had (Untold Failed) untold has l = subst (λ (xs : List (ℕ × Entry)). Gains had xs has) (sym l.0) (same_gains had has l.1)
left_gains cells entries had (Untold Unkept) untold has l = l.1

stops_gains : {cells entries : ℕ} {a c : Received} {end : WorkerEnd} (told untold : List (ℕ × Entry)) → Stops cells entries a told untold end c → Gains a (told ++ untold) c
stops_gains {cells} {entries} {a} {c} {end} told untold s = gains_more told untold s.gains (left_gains cells entries s.between end untold c s.left)

-- it ended at once, and nothing is left of the call
stops_bare : {cells entries : ℕ} {had has : Received} {end : WorkerEnd} → LeavesOff cells entries had end [] has → Stops cells entries had [] [] end has
stops_bare {cells} {entries} {had} {has} {end} left = record { between = had; gains = gains_none had; left = left }

-- at a request
pub stops_next : (origin : Origin) (cells entries : ℕ) (had : Received) (asked : List Bool) (fault : CallFault) (has : Received) (marked : List Bool) → LeavesNext origin cells had asked fault has marked
    → StopsAsking origin cells entries had asked (Untold fault) has
stops_next origin cells entries had asked (Refused fault) has marked l = ([], [], stops_bare (refl, l.0), (asked, refl))
stops_next origin cells entries had asked Failed has marked l = ([], [], stops_bare (refl, l.0), (asked, refl))
stops_next origin cells entries had asked Unkept has marked l =
    let one = asks_next l.1 in
    ([], (l.0.0, l.0.1) ∷ [], record { between = had; gains = gains_none had; left = (refl, one.gains) }, (marked, one.ask))

pub share_next : (origin : Origin) (cells entries : ℕ) (had : Received) (asked : List Bool) (fault : CallFault) (has : Received) (marked : List Bool) → LeavesNext origin cells had asked fault has marked
    → length had.list < entries → KeepsShare entries had has
share_next origin cells entries had asked (Refused fault) has marked l less = inl (refused_keeps cells had fault has l.0).1
share_next origin cells entries had asked Failed has marked l less = inl (ap (λ (p : Received). p.list) l.0)
share_next origin cells entries had asked Unkept has marked l less = share_more entries (l.0.0, l.0.1) (gains_called l.1.called) less

pub share_came : (origin : Origin) (entries : ℕ) (had : Received) (asked : List Bool) (next : Option Receipt) (has : Received) (marked : List Bool)
    → IfSome next (λ r. AskedNext origin had asked has marked r.position r.entry) → IfNone next (NobodyAsked origin had asked has marked) → length had.list < entries → KeepsShare entries had has
share_came origin entries had asked (Some r) has marked some none less = share_more entries (r.position, r.entry) (gains_called some.called) less
share_came origin entries had asked None has marked some none less = inl none.knows.list_is

-- the share is used
pub used_asking : (origin : Origin) (cells entries : ℕ) (p : Received) (asked : List Bool) → entries ≤ length p.list → StopsAsking origin cells entries p asked ShareUsed p
used_asking origin cells entries p asked used = ([], [], stops_bare (refl, refl, used), (asked, refl))

-- no memory is left for the list of who was asked
pub starved_asking : (origin : Origin) (cells entries : ℕ) (p : Received) (asked : List Bool) → StopsAsking origin cells entries p asked (Untold (Refused desk.NoMemory)) p
starved_asking origin cells entries p asked = ([], [], stops_bare (refl, refl), (asked, refl))

-- behind some requests
pub stops_later : {origin : Origin} {cells entries : ℕ} {a b c : Received} {asked mid : List Bool} {end : WorkerEnd} (requests : List (ℕ × Entry)) → Asks origin a asked requests b mid
    → StopsAsking origin cells entries b mid end c → StopsAsking origin cells entries a asked end c
stops_later {origin} {cells} {entries} {a} {b} {c} {asked} {mid} {end} requests asks stops =
    let told = stops.0 in
    let untold = stops.1 in
    let more = asks_more requests (told ++ untold) asks (record { gains = stops_gains told untold stops.2; ask = stops.3.1 }) in (
      requests ++ told,
      untold,
      record { between = stops.2.between; gains = gains_more requests told asks.gains stops.2.gains; left = stops.2.left },
      (stops.3.0, subst (λ (xs : List (ℕ × Entry)). AskInTurn origin c.known asked xs stops.3.0) (sym (append_assoc requests told untold)) more.ask),
    )

-- ---- requests

asked_unmarked : (origin : Origin) (history : List Entry) (place : ℕ) (asked : List Bool) (agent : ℕ) → IsNextAt origin history place asked agent → slice_get asked agent ≡ Some false
asked_unmarked origin history place asked agent next = next_may origin.site next.0 asked agent next.2

pub asks_once : (origin : Origin) (had : Received) (asked : List Bool) (old : Outcome) (has : Received) (marked : List Bool) (new : Outcome) (position : ℕ) (entry : Entry)
    → AskedNext origin had asked has marked position entry → new ≡ with_receipt old position entry.reply → AsksOnce origin had asked old has marked new
asks_once origin had asked old has marked new position entry a is = record {
  receipt = (position, entry);
  asks = asks_next a;
  agent = a.agent;
  unasked = asked_unmarked origin has.known position asked a.agent a.next;
  marked_is = a.marked_is;
  outcome_is = is;
}

abbrev bit : Bool → ℕ
bit b = cond b 1 0

-- one fewer is left to ask
pub fewer_left : (asked : List Bool) (agent : ℕ) → slice_get asked agent ≡ Some false → count_by not (slice_set asked agent true) < count_by not asked
fewer_left asked agent may =
    let lt = slice_get_within asked agent false may in
    let read : get_or asked agent true ≡ false = get_or_from_slice_get asked agent false true may in
    let counts : count_by not (set asked agent true) + bit (not (get_or asked agent true)) ≡ count_by not asked + bit (not true) = sum_by-set (λ (b : Bool). bit (not b)) asked agent true true lt in
    let was : bit (not (get_or asked agent true)) ≡ 1 = ap (λ (b : Bool). bit (not b)) read in
    omega (arith, counts, was)

pub fewer_asked : {origin : Origin} {had has : Received} {asked marked : List Bool} {old new : Outcome} → AsksOnce origin had asked old has marked new → count_by not marked < count_by not asked
fewer_asked {origin} {had} {has} {asked} {marked} {old} {new} a = subst (λ (l : List Bool). count_by not l < count_by not asked) (sym a.marked_is) (fewer_left asked a.agent a.unasked)

-- these asked in a turn at a board, since a worker had this
pub record Asking (origin : Origin) (board : Board) (had has : Received) (asked : List Bool) (some : Bool) (outcome : Outcome) : Type 0 where
  pub requests : List (ℕ × Entry)
  pub asks : Asks origin had (nobody origin) requests has asked
  pub some_is : some ≡ has_any requests
  pub outcome_is : IsOutcome board requests outcome

pub asking_none : (origin : Origin) (board : Board) (p : Received) (outcome : Outcome) → IsOutcome board [] outcome → Asking origin board p p (nobody origin) false outcome
asking_none origin board p outcome is = record { requests = []; asks = asks_none origin p (nobody origin); some_is = refl; outcome_is = is }

pub asking_more : {origin : Origin} {board : Board} {a b c : Received} {asked marked : List Bool} {some : Bool} {old new : Outcome} → Asking origin board a b asked some old → AsksOnce origin b asked old c marked new
    → Asking origin board a c marked true new
asking_more {origin} {board} {a} {b} {c} {asked} {marked} {some} {old} {new} t one = record {
  requests = t.requests ++ one.receipt ∷ [];
  asks = asks_more t.requests (one.receipt ∷ []) t.asks one.asks;
  some_is = sym (any_push t.requests one.receipt);
  outcome_is = subst (λ (o : Outcome). IsOutcome board (t.requests ++ one.receipt ∷ []) o) (sym one.outcome_is) (outcome_more board t.requests old one.receipt t.outcome_is);
}

pub asking_length : {origin : Origin} {had has : Received} {asked marked : List Bool} {old new : Outcome} → AsksOnce origin had asked old has marked new → length marked ≡ length asked
asking_length {origin} {had} {has} {asked} {marked} {old} {new} one = ap (λ (l : List Bool). length l) one.marked_is ∙ length-set asked one.agent true

pub asking_ends : {origin : Origin} {board : Board} {a b c : Received} {asked marked : List Bool} {some : Bool} {outcome : Outcome} → Asking origin board a b asked some outcome → NobodyAsked origin b asked c marked
    → AllAsked origin board a some c outcome
asking_ends t none = asks_all t.requests t.asks none t.some_is t.outcome_is

-- at a tick
module _ {X : Type 0} (fits : X → Floor → Bool) (count : X → ℕ) (grid : Floor) where
  pub ticks_received : {had has : Received} {spares left : List X} (x : ℕ × Entry) → Receives fits count grid Tick had spares x has left → Ticks had x has
  ticks_received {had} {has} {spares} {left} x r = record {
    gains = record {
      caller_is = r.caller_is;
      list_is = r.gained;
      goes_on = r.known;
      within = All-cons (λ (y : ℕ × Entry). y.0 < length has.known) x [] (slice_get_within has.known x.0 x.1 r.stands) (All-nil (λ (y : ℕ × Entry). y.0 < length has.known));
    };
    tick = r.answers;
    behind = r.behind;
  }

  pub stops_tick : (cells entries : ℕ) (had : Received) (spares : List X) (fault : CallFault) (has : Received) (left : List X) → Leaves fits count grid cells Tick had spares fault has left
      → StopsTicking cells entries had (Untold fault) has
  stops_tick cells entries had spares (Refused fault) has left l = inl (refl, l.0)
  stops_tick cells entries had spares Failed has left l = inl (refl, l.0)
  stops_tick cells entries had spares Unkept has left l = (let t = ticks_received l.0 l.1 in inr (l.0, (refl, t.gains), t))

  pub share_tick : (cells entries : ℕ) (had : Received) (spares : List X) (fault : CallFault) (has : Received) (left : List X) → Leaves fits count grid cells Tick had spares fault has left
      → length had.list < entries → KeepsShare entries had has
  share_tick cells entries had spares (Refused fault) has left l less = inl (refused_keeps cells had fault has l.0).1
  share_tick cells entries had spares Failed has left l less = inl (ap (λ (p : Received). p.list) l.0)
  share_tick cells entries had spares Unkept has left l less = (let t = ticks_received l.0 l.1 in share_more entries l.0 t.gains less)

pub used_ticking : (cells entries : ℕ) (p : Received) → entries ≤ length p.list → StopsTicking cells entries p ShareUsed p
used_ticking cells entries p used = inl (refl, refl, used)

-- in a turn
pub turn_stops : {origin : Origin} {cells entries : ℕ} {board : Board} {a b : Received} {end : WorkerEnd} → board.open_tasks ≢ 0 → StopsAsking origin cells entries a (nobody origin) end b → StopsTurn origin cells entries board a end b
turn_stops is_open stops = (stops.0, stops.1, stops.2, inl (is_open, stops.3))

pub turn_stops_ticking : {origin : Origin} {cells entries : ℕ} {board : Board} {a b c : Received} {some : Bool} {outcome : Outcome} {end : WorkerEnd} → board.entries ≤ length a.known → AllAsked origin board a some b outcome
    → (some || moves board.agents.items) ≡ true → StopsTicking cells entries b end c → StopsTurn origin cells entries board a end c
turn_stops_ticking {origin} {cells} {entries} {board} {a} {b} {c} {some} {outcome} {end} shown all due (inl left) =
    let none = left_gains cells entries b end [] c left in (
      all.requests,
      [],
      record { between = b; gains = all.asks.gains; left = left },
      inr (at_tick c [] shown all due none.goes_on (All-nil (λ (x : ℕ × Entry). length b.known ≤ x.0)) (All-nil (λ (x : ℕ × Entry). command_of x.1.event ≡ Tick))),
    )
turn_stops_ticking {origin} {cells} {entries} {board} {a} {b} {c} {some} {outcome} {end} shown all due (inr ticked) =
    let x = ticked.0 in
    let ticks = ticked.2 in (
      all.requests,
      x ∷ [],
      record { between = b; gains = all.asks.gains; left = ticked.1 },
      inr (
          at_tick c (x ∷ []) shown all due ticks.gains.goes_on (All-cons (λ (y : ℕ × Entry). length b.known ≤ y.0) x [] ticks.behind (All-nil (λ (y : ℕ × Entry). length b.known ≤ y.0)))
          (All-cons (λ (y : ℕ × Entry). command_of y.1.event ≡ Tick) x [] ticks.tick (All-nil (λ (y : ℕ × Entry). command_of y.1.event ≡ Tick)))
          ),
    )

-- ---- what was done

-- turns that were taken are all that was done
pub paces : {cells : ℕ} {pace : Pacing} {origin : Origin} {a b : Received} {looks : ℕ} {outcome : Outcome} → Taking origin a b looks outcome → looks ≤ pace.turns → KeepsShare pace.entries a b → PacesUntil cells pace origin a b None
paces {cells} {pace} {origin} {a} {b} {looks} {outcome} t few share = record {
  caller_is = t.caller_is;
  goes_on = t.goes_on;
  turns = t.turns;
  few = omega (arith, t.count, few);
  taken = t.taken;
  received = t.received;
  ends = t.whole;
  share = share;
}

-- the worker ended at a look
pub paces_stale : {cells : ℕ} {pace : Pacing} {origin : Origin} {a b : Received} {looks : ℕ} {outcome : Outcome} → Taking origin a b looks outcome → looks ≤ pace.turns → KeepsShare pace.entries a b
    → PacesUntil cells pace origin a b (Some (Untold (Refused desk.Stale)))
paces_stale {cells} {pace} {origin} {a} {b} {looks} {outcome} t few share = record {
  caller_is = t.caller_is;
  goes_on = t.goes_on;
  turns = t.turns;
  few = omega (arith, t.count, few);
  taken = t.taken;
  received = t.received;
  ends = inl (t.whole, refl);
  share = share;
}

-- the worker ended in a turn
pub paces_until : {cells : ℕ} {pace : Pacing} {origin : Origin} {a b c : Received} {looks : ℕ} {outcome : Outcome} {board : Board} {end : WorkerEnd} → Taking origin a b looks outcome → looks < pace.turns → Shows origin b.known b.list board
    → rests outcome board ≡ false → StopsTurn origin cells pace.entries board b end c → KeepsShare pace.entries a b → KeepsShare pace.entries b c → PacesUntil cells pace origin a c (Some end)
paces_until {cells} {pace} {origin} {a} {b} {c} {looks} {outcome} {board} {end} t less shows busy stops before share =
    let received = stops.0 ++ stops.1 in
    let gains = stops_gains stops.0 stops.1 stops.2 in
    record {
      caller_is = gains.caller_is ∙ t.caller_is;
      goes_on = prefix_trans a.known b.known c.known t.goes_on gains.goes_on;
      turns = record { had = b.list; board = board; received = received; later = [] } ∷ t.turns;
      few = omega (arith, t.count, less);
      taken = taken_more received t shows busy gains;
      received = gains.list_is;
      ends = inr (record { before = b; before_is = refl; told = stops.0; untold = stops.1; received_are = refl; stops = stops.2; broken_off = stops.3 });
      share = share_kept pace.entries a b c before share;
    }

-- what the worker has in the history, where its pass is the last one
pub paced_in : (cells : ℕ) (pace : Pacing) (n : ℕ) (origin : Origin) (history : List Entry) (all passes left : List Received) (own pass : Received) (ended : Option WorkerEnd) → all ≡ passes ++ own ∷ [] → n ≡ length passes
    → PacesUntil cells pace origin own pass ended → All (λ p. p.list ≡ entries_of history p.caller) (left ++ pass ∷ []) → AllBegin history (left ++ pass ∷ [])
    → (had : Received) → slice_get all n ≡ Some had → PacedIn cells pace origin history had ended
paced_in cells pace n origin history all passes left own pass ended parts last paces lists begun had at =
    let there : slice_get all n ≡ Some own = ap (λ (k : ℕ). slice_get all k) last ∙ ap (λ (l : List Received). slice_get l (length passes)) parts ∙ get_push passes own in
    let own_is : own ≡ had = same_Some _ _ (sym there ∙ at) in
    subst (λ (p : Received). PacedIn cells pace origin history p ended) own_is (record {
      has = pass;
      has_all = all_last (λ (p : Received). p.list ≡ entries_of history p.caller) left pass lists ∙ ap (entries_of history) paces.caller_is;
      has_known = all_last (λ (p : Received). IsPrefix p.known history) left pass begun;
      paces = paces;
    })

-- there are no more clients than callers
pub clients_few : {C : Type 0} (clients : List C) (pace : Option Pacing) → length clients ≤ callers_of clients pace
clients_few clients None = omega arith
clients_few clients (Some pace) = omega arith

-- The calls of one turn.
use Rattle.std.proofs.Common.{◌≡◌, ◌⊎◌, inl, inr, ℕ, ◌<◌, ◌≤◌, ◌||◌, Bool, true, false, List, [], ◌∷◌, ◌++◌, cond, length, slice_set, Some, slice_get, refl, ap, sym, ◌∙◌, subst, arith, append_assoc}
use Rattle.std.specs.List.{All}
use Rattle.std.proofs.lemmas.List.{append-nil}
use Rattle.std.proofs.lemmas.List.Elements.{All-append, All-cons, All-nil, All-weaker}
use Rattle.std.proofs.lemmas.Option.{slice_get_within}
use mathlib.Core.List.{IsPrefix}
use Rattle.wh_event.specs.declared.entry.Entry.{Entry}
use Rattle.wh_event.specs.declared.event.Command.{Command}
use Rattle.wh_event.specs.declared.event.Command.TheVariants.{Tick}
use Rattle.wh_board.specs.Pasts.{Origin}
use Rattle.wh_board.specs.declared.board.Board.{Board}
use Rattle.wh_board.proofs.Fronts.{prefix_self, prefix_trans, prefix_length}
use Rattle.wh_desk.specs.Lists.{Received}
use Rattle.wh_desk.specs.Calls.{AllRestAt, AskedNext, Called, KnowsMore, NobodyAsked}
use Rattle.wh_desk.proofs.Asking.{next_later, rest_later}
use Rattle.wh_crew.specs.Work.{command_of}
use Rattle.wh_crew.specs.Turns.{AllAsked, AskInTurn, Asks, ComesTo, Gains, IsAtTick, IsOutcome, IsTurn, NobodyIsLeft, Outcome, Ticks, has_any, moves, nobody}
use Rattle.wh_crew.proofs.Calls.{command_back}

-- ---- one receipt behind another

-- it stands among the first entries of a history of this length
abbrev pub Within : List Entry → ℕ × Entry → Type 0
Within history x = x.0 < length history

within_later : (h g : List Entry) (xs : List (ℕ × Entry)) → IsPrefix h g → All (λ (x : ℕ × Entry). x.0 < length h) xs → All (λ (x : ℕ × Entry). x.0 < length g) xs
within_later h g xs p all = All-weaker (λ (x : ℕ × Entry). x.0 < length h) (λ (x : ℕ × Entry). x.0 < length g) (λ x less. omega (arith, less, prefix_length h g p)) xs all

pub gains_none : (p : Received) → Gains p [] p
gains_none p = record { caller_is = refl; list_is = sym (append-nil p.list); goes_on = prefix_self p.known; within = All-nil (λ (x : ℕ × Entry). x.0 < length p.known) }

pub gains_known : {had has : Received} → KnowsMore had has → Gains had [] has
gains_known {had} {has} k = record { caller_is = k.caller_is; list_is = k.list_is ∙ sym (append-nil had.list); goes_on = k.goes_on; within = All-nil (λ (x : ℕ × Entry). x.0 < length has.known) }

pub gains_more : {a b c : Received} (xs ys : List (ℕ × Entry)) → Gains a xs b → Gains b ys c → Gains a (xs ++ ys) c
gains_more {a} {b} {c} xs ys p q = record {
  caller_is = q.caller_is ∙ p.caller_is;
  list_is = q.list_is ∙ ap (λ (l : List (ℕ × Entry)). l ++ ys) p.list_is ∙ append_assoc a.list xs ys;
  goes_on = prefix_trans a.known b.known c.known p.goes_on q.goes_on;
  within = All-append (λ (x : ℕ × Entry). x.0 < length c.known) xs ys (within_later b.known c.known xs q.goes_on p.within) q.within;
}

pub gains_still : {a b c : Received} (xs : List (ℕ × Entry)) → Gains a xs b → Gains b [] c → Gains a xs c
gains_still {a} {b} {c} xs p q = subst (λ (l : List (ℕ × Entry)). Gains a l c) (append-nil xs) (gains_more xs [] p q)

pub gains_called : {origin : Origin} {had has : Received} {command : Command} {position : ℕ} {entry : Entry} → Called origin had command has position entry → Gains had ((position, entry) ∷ []) has
gains_called {origin} {had} {has} {command} {position} {entry} called =
    let stands : slice_get has.known position ≡ Some entry = ap (λ (l : List Entry). slice_get l position) called.has_known ∙ called.stands in
    record {
      caller_is = called.has_caller;
      list_is = called.has_list;
      goes_on = subst (λ (l : List Entry). IsPrefix had.known l) (sym called.has_known) called.goes_on;
      within = All-cons (λ (x : ℕ × Entry). x.0 < length has.known) (position, entry) [] (slice_get_within has.known position entry stands) (All-nil (λ (x : ℕ × Entry). x.0 < length has.known));
    }

-- ---- requests

pub ask_later : (origin : Origin) (h g : List Entry) (asked : List Bool) (xs : List (ℕ × Entry)) (marked : List Bool) → IsPrefix h g → AskInTurn origin h asked xs marked → AskInTurn origin g asked xs marked
ask_later origin h g asked [] marked p a = a
ask_later origin h g asked (x ∷ xs) marked p a = (a.0, a.1, next_later h g x.0 asked a.0 p a.2, ask_later origin h g (slice_set asked a.0 true) xs marked p a.3)

ask_append : (origin : Origin) (h : List Entry) (asked : List Bool) (xs : List (ℕ × Entry)) (mid : List Bool) (ys : List (ℕ × Entry)) (marked : List Bool)
    → AskInTurn origin h asked xs mid → AskInTurn origin h mid ys marked → AskInTurn origin h asked (xs ++ ys) marked
ask_append origin h asked [] mid ys marked a b = subst (λ (l : List Bool). AskInTurn origin h l ys marked) a b
ask_append origin h asked (x ∷ xs) mid ys marked a b = (a.0, a.1, a.2, ask_append origin h (slice_set asked a.0 true) xs mid ys marked a.3 b)

pub asks_none : (origin : Origin) (p : Received) (asked : List Bool) → Asks origin p asked [] p asked
asks_none origin p asked = record { gains = gains_none p; ask = refl }

pub asks_next : {origin : Origin} {had has : Received} {asked marked : List Bool} {position : ℕ} {entry : Entry} → AskedNext origin had asked has marked position entry → Asks origin had asked ((position, entry) ∷ []) has marked
asks_next {origin} {had} {has} {asked} {marked} {position} {entry} a = record {
  gains = gains_called a.called;
  ask = (a.agent, ap command_of a.called.command_is.1 ∙ command_back (Command.Token a.agent) a.called.command_is.0, a.next, a.marked_is);
}

pub asks_more : {origin : Origin} {a b c : Received} {asked mid marked : List Bool} (xs ys : List (ℕ × Entry)) → Asks origin a asked xs b mid → Asks origin b mid ys c marked → Asks origin a asked (xs ++ ys) c marked
asks_more {origin} {a} {b} {c} {asked} {mid} {marked} xs ys p q = record {
  gains = gains_more xs ys p.gains q.gains;
  ask = ask_append origin c.known asked xs mid ys marked (ask_later origin b.known c.known asked xs mid q.gains.goes_on p.ask) q.ask;
}

-- nobody is left to ask
pub asks_all : {origin : Origin} {board : Board} {had b has : Received} {some : Bool} {outcome : Outcome} {asked marked : List Bool} (requests : List (ℕ × Entry))
    → Asks origin had (nobody origin) requests b asked → NobodyAsked origin b asked has marked → some ≡ has_any requests → IsOutcome board requests outcome → AllAsked origin board had some has outcome
asks_all {origin} {board} {had} {b} {has} {some} {outcome} {asked} {marked} requests p none some_is is = record {
  requests = requests;
  marked = asked;
  asks = record { gains = gains_still requests p.gains (gains_known none.knows); ask = ask_later origin b.known has.known (nobody origin) requests asked none.knows.goes_on p.ask };
  all = inl none.rest;
  some_is = some_is;
  outcome_is = is;
}

-- nobody asks where no task is open
pub asks_closed : (origin : Origin) (board : Board) (p : Received) (outcome : Outcome) → board.open_tasks ≡ 0 → IsOutcome board [] outcome → AllAsked origin board p false p outcome
asks_closed origin board p outcome closed is = record {
  requests = [];
  marked = nobody origin;
  asks = asks_none origin p (nobody origin);
  all = inr (closed, refl);
  some_is = refl;
  outcome_is = is;
}

pub any_push : (xs : List (ℕ × Entry)) (x : ℕ × Entry) → has_any (xs ++ x ∷ []) ≡ true
any_push [] x = refl
any_push (y ∷ ys) x = refl

-- ---- a whole turn

left_ends : {origin : Origin} {board : Board} (a b c : Received) (requests ticks : List (ℕ × Entry)) (marked : List Bool) → board.entries ≤ length a.known → Gains a requests b → IsPrefix b.known c.known
    → All (λ (x : ℕ × Entry). length b.known ≤ x.0) ticks → AllRestAt origin b.known (length b.known) marked ⊎ ((board.open_tasks ≡ 0) × (requests ≡ []))
    → NobodyIsLeft origin c.known board requests ticks marked ⊎ ((board.open_tasks ≡ 0) × (requests ≡ []))
left_ends {origin} {board} a b c requests ticks marked shown gains on before (inr closed) = inr closed
left_ends {origin} {board} a b c requests ticks marked shown gains on before (inl rest) = inl (record {
  place = length b.known;
  behind_board = omega (arith, shown, prefix_length a.known b.known gains.goes_on);
  behind = gains.within;
  before = before;
  rest = rest_later b.known c.known (length b.known) marked on rest;
})

-- nobody asked, and all stand: the clock does not tick
pub turn_still : {origin : Origin} {board : Board} {a b : Received} {some : Bool} {outcome : Outcome} → board.entries ≤ length a.known → AllAsked origin board a some b outcome
    → (some || moves board.agents.items) ≡ false → ComesTo origin board a b outcome
turn_still {origin} {board} {a} {b} {some} {outcome} shown all still =
    let requests = all.requests in
    let tests : (has_any requests || moves board.agents.items) ≡ false = ap (λ (t : Bool). t || moves board.agents.items) (sym all.some_is) ∙ still in
    record {
      received = requests;
      gains = all.asks.gains;
      turn = record {
        requests = requests;
        ticks = [];
        received_are = sym (append-nil requests);
        marked = all.marked;
        ask = all.asks.ask;
        all_asked = left_ends a b b requests [] all.marked shown all.asks.gains (prefix_self b.known) (All-nil (λ (x : ℕ × Entry). length b.known ≤ x.0)) all.all;
        ticked = sym (ap (λ (t : Bool). cond t (Tick ∷ []) []) tests);
      };
      outcome_is = all.outcome_is;
    }

-- all asked, and the clock is to tick
pub at_tick : {origin : Origin} {board : Board} {a b : Received} {some : Bool} {outcome : Outcome} (c : Received) (ticks : List (ℕ × Entry)) → board.entries ≤ length a.known → (all : AllAsked origin board a some b outcome)
    → (some || moves board.agents.items) ≡ true → IsPrefix b.known c.known → All (λ (x : ℕ × Entry). length b.known ≤ x.0) ticks → All (λ (x : ℕ × Entry). command_of x.1.event ≡ Tick) ticks
    → IsAtTick origin c.known board all.requests ticks
at_tick {origin} {board} {a} {b} {some} {outcome} c ticks shown all due on behind only = record {
  marked = all.marked;
  ask = ask_later origin b.known c.known (nobody origin) all.requests all.marked on all.asks.ask;
  all_asked = left_ends a b c all.requests ticks all.marked shown all.asks.gains on behind all.all;
  due = ap (λ (t : Bool). t || moves board.agents.items) (sym all.some_is) ∙ due;
  only_ticks = only;
}

-- and then it ticks
pub turn_ticked : {origin : Origin} {board : Board} {a b c : Received} {some : Bool} {outcome : Outcome} (x : ℕ × Entry) → board.entries ≤ length a.known → (all : AllAsked origin board a some b outcome)
    → (some || moves board.agents.items) ≡ true → Ticks b x c → IsTurn origin c.known board (all.requests ++ x ∷ [])
turn_ticked {origin} {board} {a} {b} {c} {some} {outcome} x shown all due ticks =
    let requests = all.requests in
    let tests : (has_any requests || moves board.agents.items) ≡ true = ap (λ (t : Bool). t || moves board.agents.items) (sym all.some_is) ∙ due in
    record {
      requests = requests;
      ticks = x ∷ [];
      received_are = refl;
      marked = all.marked;
      ask = ask_later origin b.known c.known (nobody origin) requests all.marked ticks.gains.goes_on all.asks.ask;
      all_asked = left_ends a b c requests (x ∷ []) all.marked shown all.asks.gains ticks.gains.goes_on
          (All-cons (λ (y : ℕ × Entry). length b.known ≤ y.0) x [] ticks.behind (All-nil (λ (y : ℕ × Entry). length b.known ≤ y.0))) all.all;
      ticked = ap (λ (command : Command). command ∷ []) ticks.tick ∙ sym (ap (λ (t : Bool). cond t (Tick ∷ []) []) tests);
    }

pub turn_comes : {origin : Origin} {board : Board} {a b c : Received} {some : Bool} {outcome new : Outcome} (x : ℕ × Entry) → board.entries ≤ length a.known → (all : AllAsked origin board a some b outcome)
    → (some || moves board.agents.items) ≡ true → Ticks b x c → IsOutcome board (all.requests ++ x ∷ []) new → ComesTo origin board a c new
turn_comes {origin} {board} {a} {b} {c} {some} {outcome} {new} x shown all due ticks is = record {
  received = all.requests ++ x ∷ [];
  gains = gains_more all.requests (x ∷ []) all.asks.gains ticks.gains;
  turn = turn_ticked x shown all due ticks;
  outcome_is = is;
}

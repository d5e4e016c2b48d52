-- Turns of the agents' worker, one after another.
use Rattle.std.proofs.Common.{◌≡◌, ◌⊎◌, inl, inr, ◌≤◌, ℕ, ◌+◌, ◌<◌, true, false, Bool, nat_le, List, [], ◌∷◌, ◌++◌, length, refl, sym, ◌∙◌, subst, arith}
use Rattle.std.specs.List.{All}
use Rattle.std.proofs.lemmas.Bool.{and_parts}
use Rattle.std.proofs.lemmas.List.Elements.{All-cons, All-nil, All-weaker}
use mathlib.Core.List.{IsPrefix}
use Rattle.wh_event.specs.declared.entry.Entry.{Entry}
use Rattle.wh_board.specs.Pasts.{Origin}
use Rattle.wh_board.specs.Boards.{IsBoardOf}
use Rattle.wh_board.specs.declared.board.Board.{Board}
use Rattle.wh_board.proofs.Fronts.{prefix_self, prefix_trans}
use Rattle.wh_desk.specs.Lists.{Received}
use Rattle.wh_desk.specs.Calls.{KnowsMore}
use Rattle.wh_desk.proofs.Asking.{rest_later}
use Rattle.wh_crew.specs.Turns.{AreTaken, ComesTo, Gains, IsLastWhole, IsSeen, IsTurn, NobodyIsLeft, Outcome, Shows, Taken, received_by, rests_at}
use Rattle.wh_crew.proofs.Asking.{ask_later}
use Rattle.wh_crew.proofs.Resting.{Latest, busy_behind, rests, rests_same}

-- ---- what is so in a history is so in each that goes on from it

left_later : {origin : Origin} {board : Board} (h g : List Entry) (requests ticks : List (ℕ × Entry)) (marked : List Bool) → IsPrefix h g
    → NobodyIsLeft origin h board requests ticks marked ⊎ ((board.open_tasks ≡ 0) × (requests ≡ [])) → NobodyIsLeft origin g board requests ticks marked ⊎ ((board.open_tasks ≡ 0) × (requests ≡ []))
left_later h g requests ticks marked p (inr closed) = inr closed
left_later h g requests ticks marked p (inl n) = inl (record {
  place = n.place;
  behind_board = n.behind_board;
  behind = n.behind;
  before = n.before;
  rest = rest_later h g n.place marked p n.rest;
})

pub turn_later : {origin : Origin} {board : Board} {received : List (ℕ × Entry)} (h g : List Entry) → IsPrefix h g → IsTurn origin h board received → IsTurn origin g board received
turn_later {origin} {board} {received} h g p t = record {
  requests = t.requests;
  ticks = t.ticks;
  received_are = t.received_are;
  marked = t.marked;
  ask = ask_later origin h g _ t.requests t.marked p t.ask;
  all_asked = left_later h g t.requests t.ticks t.marked p t.all_asked;
  ticked = t.ticked;
}

pub whole_later : (origin : Origin) (h g : List Entry) (turns : List Taken) → IsPrefix h g → IsLastWhole origin h turns → IsLastWhole origin g turns
whole_later origin h g [] p whole = tt
whole_later origin h g (t ∷ ts) p whole = turn_later h g p whole

shows_later : {origin : Origin} {own : List (ℕ × Entry)} {board : Board} (h g : List Entry) → IsPrefix h g → Shows origin h own board → Shows origin g own board
shows_later {origin} {own} {board} h g p s = record { front = s.front; begins = prefix_trans s.front h g s.begins p; board_is = s.board_is; own_are = s.own_are }

-- a board that was seen behind a turn, at which there was nothing to do
abbrev Later : Origin → List Entry → Taken → Board → Type 0
Later origin history t board = Shows origin history (t.had ++ t.received) board × (rests_at t board ≡ true)

seen_later : {origin : Origin} {t : Taken} (h g : List Entry) → IsPrefix h g → IsSeen origin h t → IsSeen origin g t
seen_later {origin} {t} h g p s = record {
  board = shows_later h g p s.board;
  later = All-weaker (Later origin h t) (Later origin g t) (λ board l. (shows_later h g p l.0, l.1)) t.later s.later;
}

pub taken_later : (origin : Origin) (h g : List Entry) (had : List (ℕ × Entry)) (turns : List Taken) → IsPrefix h g → AreTaken origin h had turns → AreTaken origin g had turns
taken_later origin h g had [] p taken = tt
taken_later origin h g had (t ∷ ts) p taken = (taken.0, seen_later h g p taken.1, whole_later origin h g ts p taken.2, taken.3, taken_later origin h g had ts p taken.4)

-- ---- turns

-- so many looks were taken, and turns at some of them, the last of which came to this
pub record Taking (origin : Origin) (had has : Received) (looks : ℕ) (outcome : Outcome) : Type 0 where
  pub caller_is : has.caller ≡ had.caller
  pub goes_on : IsPrefix had.known has.known
  pub turns : List Taken
  pub count : length turns ≤ looks
  pub taken : AreTaken origin has.known had.list turns
  pub received : has.list ≡ received_by had.list turns
  pub whole : IsLastWhole origin has.known turns
  pub latest : Latest turns outcome

pub taking_none : (origin : Origin) (p : Received) (outcome : Outcome) → outcome.in_vain ≡ false → Taking origin p p 0 outcome
taking_none origin p outcome first = record {
  caller_is = refl;
  goes_on = prefix_self p.known;
  turns = [];
  count = omega arith;
  taken = tt;
  received = refl;
  whole = tt;
  latest = first;
}

-- more of the history is known
pub taking_knows : {origin : Origin} {a b c : Received} {looks : ℕ} {outcome : Outcome} → Taking origin a b looks outcome → KnowsMore b c → Taking origin a c looks outcome
taking_knows {origin} {a} {b} {c} t k = record {
  caller_is = k.caller_is ∙ t.caller_is;
  goes_on = prefix_trans a.known b.known c.known t.goes_on k.goes_on;
  turns = t.turns;
  count = t.count;
  taken = taken_later origin b.known c.known a.list t.turns k.goes_on t.taken;
  received = k.list_is ∙ t.received;
  whole = whole_later origin b.known c.known t.turns k.goes_on t.whole;
  latest = t.latest;
}

-- a board that is seen by one who knows of this
pub shows_now : {origin : Origin} {board : Board} (p : Received) → IsBoardOf (record { origin = origin; history = p.known }) board → All (λ x. x.0 < board.entries) p.list → Shows origin p.known p.list board
shows_now {origin} {board} p is own = record { front = p.known; begins = prefix_self p.known; board_is = is; own_are = own }

-- a turn that received this was taken at the board that was seen
pub taken_more : {origin : Origin} {a b c : Received} {looks : ℕ} {before : Outcome} {board : Board} (received : List (ℕ × Entry)) → (t : Taking origin a b looks before) → Shows origin b.known b.list board
    → rests before board ≡ false → Gains b received c → AreTaken origin c.known a.list (record { had = b.list; board = board; received = received; later = [] } ∷ t.turns)
taken_more {origin} {a} {b} {c} {looks} {before} {board} received t shows busy gains =
    let u : Taken = record { had = b.list; board = board; received = received; later = [] } in (
      t.received,
      record { board = shows_later b.known c.known gains.goes_on shows; later = All-nil (Later origin c.known u) },
      whole_later origin b.known c.known t.turns gains.goes_on t.whole,
      busy_behind t.turns before board t.latest busy,
      taken_later origin b.known c.known a.list t.turns gains.goes_on t.taken,
    )

pub taking_more : {origin : Origin} {a b c : Received} {looks : ℕ} {before outcome : Outcome} {board : Board} → Taking origin a b looks before → Shows origin b.known b.list board → rests before board ≡ false
    → ComesTo origin board b c outcome → Taking origin a c (looks + 1) outcome
taking_more {origin} {a} {b} {c} {looks} {before} {outcome} {board} t shows busy comes = record {
  caller_is = comes.gains.caller_is ∙ t.caller_is;
  goes_on = prefix_trans a.known b.known c.known t.goes_on comes.gains.goes_on;
  turns = record { had = b.list; board = board; received = comes.received; later = [] } ∷ t.turns;
  count = omega (arith, t.count);
  taken = taken_more comes.received t shows busy comes.gains;
  received = comes.gains.list_is;
  whole = comes.turn;
  latest = comes.outcome_is;
}

-- there was nothing to do at the board that was seen
pub taking_rests : {origin : Origin} {a b : Received} {looks : ℕ} {outcome : Outcome} {board : Board} (turns : List Taken) → b.caller ≡ a.caller → IsPrefix a.known b.known → length turns ≤ looks → AreTaken origin b.known a.list turns
    → b.list ≡ received_by a.list turns → IsLastWhole origin b.known turns → Latest turns outcome → Shows origin b.known b.list board → rests outcome board ≡ true → Taking origin a b (looks + 1) outcome
taking_rests {origin} {a} {b} {looks} {outcome} {board} [] caller on few taken received whole latest shows rest = absurd (let no : outcome.in_vain ≡ true = (and_parts outcome.in_vain (nat_le board.entries outcome.entries) rest).0 in cc)
taking_rests {origin} {a} {b} {looks} {outcome} {board} (t ∷ ts) caller on few taken received whole latest shows rest =
    let u : Taken = record { had = t.had; board = t.board; received = t.received; later = board ∷ t.later } in
    let own : Shows origin b.known (t.had ++ t.received) board = subst (λ (l : List (ℕ × Entry)). Shows origin b.known l board) received shows in
    record {
      caller_is = caller;
      goes_on = on;
      turns = u ∷ ts;
      count = omega (arith, few);
      taken = (
        taken.0,
        record {
          board = taken.1.board;
          later = All-cons (Later origin b.known u) board t.later (own, sym (rests_same t outcome board latest) ∙ rest) taken.1.later;
        },
        taken.2,
        taken.3,
        taken.4,
      );
      received = received;
      whole = whole;
      latest = latest;
    }

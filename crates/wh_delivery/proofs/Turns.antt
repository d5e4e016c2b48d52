-- each in its turn
use Rattle.std.proofs.Common.{◌≡◌, ℕ, ◌<◌, List, [], ◌∷◌, ◌++◌, Bool, true, false, length, refl, sym, ap, subst, ◌∙◌, inl, inr}
use Rattle.std.specs.Prelude.{Option, None, Some, slice_get}
use Rattle.std.proofs.lemmas.Bool.{false≢true}
use Rattle.std.proofs.lemmas.Option.{none-some, same_Some, slice_get_within, slice_get-get_or}
use Rattle.std.proofs.Common.{get_or}
use Rattle.wh_points.specs.Points.{Site}
use Rattle.wh_core.specs.States.{State}
use Rattle.wh_core.specs.Steps.{Step}
use Rattle.wh_event.specs.declared.event.Event.{Event}
use Rattle.wh_event.specs.declared.entry.Entry.{Entry}
use Rattle.wh_token.specs.Asking.{AllWouldRest, IsNextToAsk, MayBeAsked}
use Rattle.wh_progress.specs.Progress.{HasAsked}
use Rattle.wh_delivery.specs.Turns.{IsInTurn, IsLeft, IsRoundSoFar, RunInTurn, since_all, since_then}

-- of the same agents the same one is next
next-alike : (site : Site) (s : State) (These Those : ℕ → Type 0) → ((a : ℕ) → These a → Those a) → ((a : ℕ) → Those a → These a) → (agent : ℕ) →
    IsNextToAsk site s These agent → IsNextToAsk site s Those agent
next-alike site s These Those to from agent next = elim next [
  | inl takes ↦ inl (
    takes.0,
    record {
      one = to agent takes.1.one;
      number = takes.1.number;
      takes = takes.1.takes;
      least = λ other n far those would. takes.1.least other n far (from other those) would;
    },
  )
  | inr way ↦ inr (record {
    one = to agent way.one;
    none = λ a those due. way.none a (from a those) due;
    due = way.due;
    makes_way = way.makes_way;
    first = λ other those due makes. way.first other (from other those) due makes;
  })
]

-- who may be asked is left to ask, and the other way round
may-left : (s : State) (asked : List Bool) (added : List Entry) → length asked ≡ length s.paths → ((a : ℕ) → HasAsked added a → slice_get asked a ≡ Some true) →
    (agent : ℕ) → MayBeAsked asked agent → IsLeft s added agent
may-left s asked added seats only agent may = (
  subst (λ n. agent < n) seats (slice_get_within asked agent false may),
  λ has. false≢true (same_Some false true (sym may ∙ only agent has)),
)

left-may-by : (s : State) (asked : List Bool) (added : List Entry) → length asked ≡ length s.paths → ((a : ℕ) → slice_get asked a ≡ Some true → HasAsked added a) →
    (agent : ℕ) → IsLeft s added agent → (b : Option Bool) → slice_get asked agent ≡ b → MayBeAsked asked agent
left-may-by s asked added seats told agent left None is =
    let lt : agent < length asked = subst (λ n. agent < n) (sym seats) left.0 in
    absurd (none-some (get_or asked agent true) (sym is ∙ slice_get-get_or asked agent true lt))
left-may-by s asked added seats told agent left (Some true) is = absurd (left.1 (told agent is))
left-may-by s asked added seats told agent left (Some false) is = is

left-may : (s : State) (asked : List Bool) (added : List Entry) → length asked ≡ length s.paths → ((a : ℕ) → slice_get asked a ≡ Some true → HasAsked added a) →
    (agent : ℕ) → IsLeft s added agent → MayBeAsked asked agent
left-may s asked added seats told agent left = left-may-by s asked added seats told agent left (slice_get asked agent) refl

-- who is next of those that may be asked is next of those that are left
pub next-left : (site : Site) (s : State) (asked : List Bool) (added : List Entry) → length asked ≡ length s.paths →
    ((a : ℕ) → slice_get asked a ≡ Some true → HasAsked added a) → ((a : ℕ) → HasAsked added a → slice_get asked a ≡ Some true) → (agent : ℕ) →
    IsNextToAsk site s (MayBeAsked asked) agent → IsNextToAsk site s (IsLeft s added) agent
next-left site s asked added seats told only agent next =
    next-alike site s (MayBeAsked asked) (IsLeft s added) (may-left s asked added seats only) (left-may s asked added seats told) agent next

pub rest-left : (site : Site) (s : State) (asked : List Bool) (added : List Entry) → length asked ≡ length s.paths →
    ((a : ℕ) → slice_get asked a ≡ Some true → HasAsked added a) → AllWouldRest site s (MayBeAsked asked) → AllWouldRest site s (IsLeft s added)
rest-left site s asked added seats told rest agent left due = rest agent (left-may s asked added seats told agent left) due

-- ---- entries since the last tick

since-append : (since xs ys : List Entry) → since_all since (xs ++ ys) ≡ since_all (since_all since xs) ys
since-append since [] ys = refl
since-append since (x ∷ xs) ys = since-append (since_then since x x.event) xs ys

since-ask : (since : List Entry) (entry : Entry) (agent : ℕ) → entry.event ≡ Event.Request agent → since_then since entry entry.event ≡ since ++ entry ∷ []
since-ask since entry agent e = ap (λ v. since_then since entry v) e

since-tick : (since : List Entry) (entry : Entry) → entry.event ≡ Event.Tick → since_then since entry entry.event ≡ []
since-tick since entry e = ap (λ v. since_then since entry v) e

pub turn-join : (site : Site) (old : State) (since xs : List Entry) (mid : State) (ys : List Entry) (new : State) → RunInTurn site old since xs mid →
    RunInTurn site mid (since_all since xs) ys new → RunInTurn site old since (xs ++ ys) new
turn-join site old since [] mid ys new h k = subst (λ s. RunInTurn site s since ys new) h k
turn-join site old since (x ∷ xs) mid ys new h k =
    (h.0, (h.1.0, h.1.1, turn-join site h.1.0 (since_then since x x.event) xs mid ys new h.1.2 k))

-- ---- a round

pub round-none : (site : Site) (s : State) → IsRoundSoFar site s [] s
round-none site s = record { run = refl; since = refl }

pub round-more : (site : Site) (old mid new : State) (xs : List Entry) (entry : Entry) (agent : ℕ) → IsRoundSoFar site old xs mid →
    IsNextToAsk site mid (IsLeft mid xs) agent → entry.event ≡ Event.Request agent → Step site mid entry new → IsRoundSoFar site old (xs ++ entry ∷ []) new
round-more site old mid new xs entry agent round next e step =
    let turn : IsInTurn site mid xs entry.event = subst (λ v. IsInTurn site mid xs v) (sym e) next in
    let last : RunInTurn site mid xs (entry ∷ []) new = (turn, (new, step, refl)) in
    record {
      run = turn-join site old [] xs mid (entry ∷ []) new round.run (subst (λ l. RunInTurn site mid l (entry ∷ []) new) (sym round.since) last);
      since = since-append [] xs (entry ∷ []) ∙ ap (λ l. since_then l entry entry.event) round.since ∙ since-ask xs entry agent e;
    }

-- behind whole rounds, as many as there were
pub round-behind : (site : Site) (old mid new : State) (before asks : List Entry) → RunInTurn site old [] before mid → since_all [] before ≡ [] → IsRoundSoFar site mid asks new →
    RunInTurn site old [] (before ++ asks) new
round-behind site old mid new before asks run begins round =
    turn-join site old [] before mid asks new run (subst (λ l. RunInTurn site mid l asks new) (sym begins) round.run)

since-behind : (before asks : List Entry) → since_all [] before ≡ [] → since_all [] asks ≡ asks → since_all [] (before ++ asks) ≡ asks
since-behind before asks begins since = since-append [] before asks ∙ ap (λ l. since_all l asks) begins ∙ since

-- and then the clock ticks
pub tick-behind : (site : Site) (old mid last new : State) (before asks : List Entry) (entry : Entry) → RunInTurn site old [] before mid → since_all [] before ≡ [] →
    IsRoundSoFar site mid asks last → IsInTurn site last asks Event.Tick → entry.event ≡ Event.Tick → Step site last entry new →
    RunInTurn site old [] ((before ++ asks) ++ entry ∷ []) new × (since_all [] ((before ++ asks) ++ entry ∷ []) ≡ [])
tick-behind site old mid last new before asks entry run begins round ticks e step =
    let turn : IsInTurn site last asks entry.event = subst (λ v. IsInTurn site last asks v) (sym e) ticks in
    let one : RunInTurn site last asks (entry ∷ []) new = (turn, (new, step, refl)) in
    let since = since-behind before asks begins round.since in (
      turn-join site old [] (before ++ asks) last (entry ∷ []) new (round-behind site old mid last before asks run begins round)
          (subst (λ l. RunInTurn site last l (entry ∷ []) new) (sym since) one),
      since-append [] (before ++ asks) (entry ∷ []) ∙ since-tick (since_all [] (before ++ asks)) entry e,
    )

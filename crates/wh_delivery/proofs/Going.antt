-- a book that goes on: one stretch after another, and agents that ask
use Rattle.std.proofs.Common.{◌≡◌, ◌≢◌, ℕ, ◌<◌, List, [], ◌∷◌, ◌++◌, Bool, true, false, ◌&&◌, not, length, map, get_or, replicate, refl, sym, ap, subst, arith, ◌∙◌, ◌⊎◌, inl, inr, append_assoc, append-nil}
use Prim.Native.Nat.{zero, suc}
use Rattle.std.specs.Prelude.{All, Contains, Option, None, Some, IsTrue, ◌↔◌, count_by, slice_get}
use Rattle.std.proofs.Math.ListN.{set}
use Rattle.std.proofs.lemmas.Bool.{false≢true, cases_eq, cases_Bool}
use Rattle.std.proofs.lemmas.Option.{none-some, same_Some, slice_get_within, slice_get-get_or, get_or_from_slice_get}
use Rattle.std.proofs.lemmas.List.{length-set, length-replicate}
use Rattle.std.proofs.lemmas.List.Elements.{All-nil, All-cons, All-head, All-tail, All-append}
use Rattle.wh_points.specs.Points.{Site}
use Rattle.wh_field.proofs.Tables.{Contains-none, Contains-cases, Contains-first, Contains-later}
use Rattle.wh_path.specs.Paths.{steps_left}
use Rattle.wh_core.specs.States.{State}
use Rattle.wh_core.specs.Steps.{Answers, Step, Run, IsDue}
use Rattle.wh_core.specs.Laws.{IsReached, IsReachedOnTheirWays, AllOnTheirWays}
use Rattle.wh_core.proofs.StepKinds.{run-join}
use Rattle.wh_event.specs.declared.event.Event.{Event}
use Rattle.wh_event.specs.declared.reply.Refusal.{Refusal}
use Rattle.wh_event.specs.declared.reply.Reply.{Reply}
use Rattle.wh_event.specs.declared.entry.Entry.{Entry}
use Rattle.wh_book.specs.Drafts.{Seen, IsKept, HasWaysForAll}
use Rattle.wh_token.specs.Asking.{MayBeAsked, AllWouldRest, IsNextToAsk}
use Rattle.wh_core.proofs.Lists.{slice_get-set_other, slice_get-set_same}
use Rattle.wh_token.specs.Houses.{StaysAt}
use Rattle.wh_token.proofs.Takers.{next-none}
use Rattle.wh_progress.specs.Progress.{FindPaths, HasAsked, MayRest, StandsStill}
use Rattle.wh_progress.proofs.Having.{asked}
use Rattle.wh_progress.proofs.Counting.{bit, count-set}
use Rattle.wh_delivery.specs.Turns.{BringsNothing, no_path}
use Rattle.wh_delivery.specs.Deliveries.{IsOf, GoesOn, IsOnTime, HaveAsked, AllHaveAsked, AreInVain, IsStuck, Begins}
use Rattle.wh_delivery.proofs.Turns.{rest-left}

pub goes-none : (caller : ℕ) (book : Seen) → GoesOn caller book [] book
goes-none caller book = record {
  stays = record { site = refl; opening = refl };
  history = sym (append-nil book.history);
  run = refl;
  only = All-nil (IsOf caller);
  served = λ ways. All-nil (λ entry. entry.reply ≢ Reply.Refused Refusal.NoPath);
}

-- who had ways as it began has them as it goes on
pub ways-stay : (old new : Seen) → StaysAt old new → HasWaysForAll old.site old.opening → HasWaysForAll new.site new.opening
ways-stay old new stays ways =
    subst (λ o. HasWaysForAll new.site o) (sym stays.opening) (subst (λ s. HasWaysForAll s old.opening) (sym stays.site) ways)

pub goes-trans : (caller : ℕ) (a b c : Seen) (xs ys : List Entry) → GoesOn caller a xs b → GoesOn caller b ys c → GoesOn caller a (xs ++ ys) c
goes-trans caller a b c xs ys h k = record {
  stays = record { site = k.stays.site ∙ h.stays.site; opening = k.stays.opening ∙ h.stays.opening };
  history = k.history ∙ ap (λ l. l ++ ys) h.history ∙ append_assoc a.history xs ys;
  run = run-join a.site a.state xs b.state ys c.state h.run (subst (λ s. Run s b.state ys c.state) h.stays.site k.run);
  only = All-append (IsOf caller) xs ys h.only k.only;
  served = λ ways. All-append (λ entry. entry.reply ≢ Reply.Refused Refusal.NoPath) xs ys (h.served ways)
      (k.served (ways-stay a b h.stays ways));
}

pub one-step : (site : Site) (s new : State) (entry : Entry) → Run site s (entry ∷ []) new → Step site s entry new
one-step site s new entry run = subst (λ t. Step site s entry t) (sym run.2) run.1

-- what was asked stays asked
pub asked-left : (xs ys : List Entry) (agent : ℕ) → HasAsked xs agent → HasAsked (xs ++ ys) agent
asked-left [] ys agent has = absurd (Contains-none (Event.Request agent) has)
asked-left (x ∷ xs) ys agent has = elim (Contains-cases (Event.Request agent) x.event (map (λ (e : Entry). e.event) xs) has) [
  | inl e ↦ subst (λ v. Contains (v ∷ map (λ (e : Entry). e.event) (xs ++ ys)) (Event.Request agent)) (sym e)
      (Contains-first (Event.Request agent) (map (λ (e : Entry). e.event) (xs ++ ys)))
  | inr more ↦ Contains-later (Event.Request agent) x.event (map (λ (e : Entry). e.event) (xs ++ ys)) (asked-left xs ys agent more)
]

pub asked-last : (xs : List Entry) (entry : Entry) (agent : ℕ) → entry.event ≡ Event.Request agent → HasAsked (xs ++ entry ∷ []) agent
asked-last [] entry agent e = subst (λ v. Contains (v ∷ []) (Event.Request agent)) (sym e) (Contains-first (Event.Request agent) [])
asked-last (x ∷ xs) entry agent e = Contains-later (Event.Request agent) x.event (map (λ (e : Entry). e.event) (xs ++ entry ∷ [])) (asked-last xs entry agent e)

-- who has asked, by then or at last
asked-before : (xs : List Entry) (entry : Entry) (agent : ℕ) → HasAsked (xs ++ entry ∷ []) agent → HasAsked xs agent ⊎ (entry.event ≡ Event.Request agent)
asked-before [] entry agent has = elim (Contains-cases (Event.Request agent) entry.event [] has) [
  | inl e ↦ inr e
  | inr none ↦ absurd (Contains-none (Event.Request agent) none)
]
asked-before (x ∷ xs) entry agent has = elim (Contains-cases (Event.Request agent) x.event (map (λ (e : Entry). e.event) (xs ++ entry ∷ [])) has) [
  | inl e ↦ inl (subst (λ v. Contains (v ∷ map (λ (e : Entry). e.event) xs) (Event.Request agent)) (sym e)
      (Contains-first (Event.Request agent) (map (λ (e : Entry). e.event) xs)))
  | inr more ↦ elim (asked-before xs entry agent more) [
    | inl earlier ↦ inl (Contains-later (Event.Request agent) x.event (map (λ (e : Entry). e.event) xs) earlier)
    | inr is ↦ inr is
  ]
]

-- nobody has asked yet
none-asked : (n agent : ℕ) → slice_get (replicate n false) agent ≡ Some true → ⊥
none-asked zero agent is = none-some true is
none-asked (suc n) zero is = false≢true (same_Some false true is)
none-asked (suc n) (suc agent) is = none-asked n agent is

pub asked-none : (site : Site) (s : State) (asked : List Bool) (n : ℕ) → asked ≡ replicate n false → n ≡ length s.paths → HaveAsked site s asked false [] s
asked-none site s asked n fresh all = record {
  seats = ap length fresh ∙ length-replicate n false ∙ all;
  told = λ agent is. absurd (none-asked n agent (subst (λ l. slice_get l agent ≡ Some true) fresh is));
  only = λ agent has. absurd (Contains-none (Event.Request agent) has);
  on_time = record { closed = refl; clock = refl; tasks = refl };
  none = λ e. (refl, refl);
  one = λ e. absurd (false≢true e);
  who = λ e. absurd (false≢true e);
}

-- one agent more has asked
pub one-more : (caller : ℕ) (old mid new : Seen) (added : List Entry) (agent : ℕ) (entry : Entry) → GoesOn caller old added mid → GoesOn caller mid (entry ∷ []) new →
    entry.event ≡ Event.Request agent → Answers old.site mid.state entry.reply (Event.Request agent) new.state
one-more caller old mid new added agent entry h k e =
    let step = one-step mid.site mid.state new.state entry k.run in
    subst (λ s. Answers s mid.state entry.reply (Event.Request agent) new.state) h.stays.site
    (subst (λ v. Answers mid.site mid.state entry.reply v new.state) e step)

on_time-more : (site : Site) (old mid new : State) (reply : Reply) (agent : ℕ) → IsOnTime old mid → Answers site mid reply (Event.Request agent) new → IsOnTime old new
on_time-more site old mid new reply agent on step =
    let kept = asked site mid reply agent new step in
    record { closed = kept.closed ∙ on.closed; clock = kept.clock ∙ on.clock; tasks = kept.tasks ∙ on.tasks }

-- a request leaves as many agents
agents-stay : (site : Site) (old : State) (reply : Reply) (agent : ℕ) (new : State) → Answers site old reply (Event.Request agent) new → length new.paths ≡ length old.paths
agents-stay site old (Reply.Refused refusal) agent new step = ap (λ s. length s.paths) step.1
agents-stay site old (Reply.Took n path) agent new step = ap (λ s. length s.paths) step.1.3 ∙ length-set _ _ _
agents-stay site old Reply.Rested agent new step = ap (λ s. length s.paths) step.3
agents-stay site old (Reply.Parked point path) agent new step = ap (λ s. length s.paths) step.4 ∙ length-set _ _ _
agents-stay site old reply agent new step = absurd step

-- who is next to ask is known, and does not stand still with all
pub next-known : (site : Site) (s : State) (These : ℕ → Type 0) (agent : ℕ) → IsNextToAsk site s These agent → agent < length s.paths
next-known site s These agent next = elim next [ inl takes ↦ takes.1.takes.due.known.known | inr way ↦ way.due.known.known ]

next-moves : (site : Site) (s : State) (These : ℕ → Type 0) (agent : ℕ) → IsNextToAsk site s These agent → StandsStill site s → ⊥
next-moves site s These agent next still = elim next [
  | inl takes ↦
      let would = takes.1.takes in
      next-none site s agent takes.1.number would.task would.next (still.told agent would.due.known.known).none
  | inr way ↦
      let stays = (still.told agent way.due.known.known).stays in
      elim way.makes_way.in_the_way [ inl wanted ↦ stays.not_wanted wanted | inr off ↦ off stays.berth ]
]

pub next-may : (site : Site) (s : State) (asked : List Bool) (agent : ℕ) → IsNextToAsk site s (MayBeAsked asked) agent → MayBeAsked asked agent
next-may site s asked agent next = elim next [ inl takes ↦ takes.1.one | inr way ↦ way.one ]

-- which agent a request names
abbrev named : Event → ℕ
named (Event.Request agent) = agent
named event = 0

-- all that have asked are marked
only-more : (xs : List Entry) (entry : Entry) (asked : List Bool) (agent : ℕ) → MayBeAsked asked agent → entry.event ≡ Event.Request agent →
    ((a : ℕ) → HasAsked xs a → slice_get asked a ≡ Some true) → (a : ℕ) → HasAsked (xs ++ entry ∷ []) a → slice_get (set asked agent true) a ≡ Some true
only-more xs entry asked agent may e only a has =
    let lt = slice_get_within asked agent false may in
    let here : a ≡ agent → slice_get (set asked agent true) a ≡ Some true =
    λ same. subst (λ b. slice_get (set asked agent true) b ≡ Some true) (sym same) (slice_get-set_same asked agent true lt) in
    elim (asked-before xs entry a has) [
      | inl earlier ↦ elim (cases_eq a agent) [
        | inl same ↦ here same
        | inr ne ↦ slice_get-set_other asked agent a true ne ∙ only a earlier
      ]
      | inr is ↦ here (ap named (sym is ∙ e))
    ]

-- one agent more has asked
pub have-more : (site : Site) (old mid new : State) (asked : List Bool) (some : Bool) (xs : List Entry) (entry : Entry) (agent : ℕ) → HaveAsked site old asked some xs mid →
    IsNextToAsk site mid (MayBeAsked asked) agent → entry.event ≡ Event.Request agent → Answers site mid entry.reply (Event.Request agent) new →
    HaveAsked site old (set asked agent true) true (xs ++ entry ∷ []) new
have-more site old mid new asked some xs entry agent have next e step = record {
  seats = length-set _ _ _ ∙ have.seats ∙ sym (agents-stay site mid entry.reply agent new step);
  told = λ a is. elim (cases_eq a agent) [
    | inl same ↦ subst (λ b. HasAsked (xs ++ entry ∷ []) b) (sym same) (asked-last xs entry agent e)
    | inr ne ↦ asked-left xs (entry ∷ []) a (have.told a (sym (slice_get-set_other asked agent a true ne) ∙ is))
  ];
  only = only-more xs entry asked agent (next-may site mid asked agent next) e have.only;
  on_time = on_time-more site old mid new entry.reply agent have.on_time step;
  none = λ clash. absurd (false≢true (sym clash));
  one = λ _ stands. elim (cases_Bool some) [
    | inl before ↦ have.one before stands
    | inr first ↦ next-moves site old (MayBeAsked asked) agent (subst (λ s. IsNextToAsk site s (MayBeAsked asked) agent) (have.none first).1 next) stands
  ];
  who = λ _. (agent, asked-last xs entry agent e);
}

-- one fewer is left to ask
pub fewer-left : (asked : List Bool) (agent : ℕ) → MayBeAsked asked agent → count_by not (set asked agent true) < count_by not asked
fewer-left asked agent may =
    let lt = slice_get_within asked agent false may in
    let read : get_or asked agent true ≡ false = get_or_from_slice_get asked agent false true may in
    let counts = count-set not asked agent true true lt in
    let was : bit (not (get_or asked agent true)) ≡ 1 = ap (λ b. bit (not b)) read in
    omega (arith, counts, was)

-- all that were to be asked have asked
asked-or-rests : (site : Site) (new : State) (asked : List Bool) (added : List Entry) (agent : ℕ) → ((a : ℕ) → slice_get asked a ≡ Some true → HasAsked added a) →
    AllWouldRest site new (MayBeAsked asked) → (b : Option Bool) → slice_get asked agent ≡ b → b ≢ None → IsDue site new agent →
    HasAsked added agent ⊎ Answers site new Reply.Rested (Event.Request agent) new
asked-or-rests site new asked added agent told rest None is some due = absurd (some refl)
asked-or-rests site new asked added agent told rest (Some true) is some due = inl (told agent is)
asked-or-rests site new asked added agent told rest (Some false) is some due = inr (rest agent is due)

left-asked : (site : Site) (old new : State) (some : Bool) (added : List Entry) (agent : ℕ) → AllHaveAsked site old some added new → IsDue site new agent →
    HasAsked added agent ⊎ Answers site new Reply.Rested (Event.Request agent) new
left-asked site old new some added agent all due =
    let asked = all.0 in
    let lt : agent < length asked = rw all.1.seats due.known.known in
    asked-or-rests site new asked added agent all.1.told all.2 (slice_get asked agent) refl
    (λ none. none-some (get_or asked agent true) (sym none ∙ slice_get-get_or asked agent true lt)) due

-- somebody asked
pub begins-asked : (site : Site) (old new : State) (some : Bool) (added : List Entry) → some ≡ true → AllHaveAsked site old some added new → ¬ BringsNothing new added →
    Begins site old false added new
begins-asked site old new some added one all brings = record {
  asked = λ agent due. left-asked site old new some added agent all due;
  on_time = all.1.on_time;
  stands = λ clash. absurd (false≢true clash);
  moves = λ _. all.1.one one;
  ticks = λ _. (rest-left site new all.0 added all.1.seats all.1.told all.2, brings);
}

-- all are at rest
abbrev pub AllStand : State → Type 0
AllStand s = (agent : ℕ) → agent < length s.paths → steps_left s.paths agent ≡ 0

pub both : (a b : Bool) → (a && b) ≡ true → (a ≡ true) × (b ≡ true)
both true b e = (refl, e)
both false b e = absurd (false≢true e)

-- nobody has asked in vain yet
pub vain-none : (site : Site) (s : State) → AreInVain site s [] s
vain-none site s = record {
  all = All-nil (λ entry. entry.reply ≡ no_path);
  same = refl;
  refused = λ agent has. absurd (Contains-none (Event.Request agent) has);
}

-- one agent more has asked in vain
pub vain-more : (site : Site) (old mid new : State) (xs : List Entry) (entry : Entry) (agent : ℕ) → AreInVain site old xs mid → entry.event ≡ Event.Request agent →
    entry.reply ≡ no_path → Answers site mid entry.reply (Event.Request agent) new → AreInVain site old (xs ++ entry ∷ []) new
vain-more site old mid new xs entry agent vain e lacks step =
    let refused : Answers site mid no_path (Event.Request agent) new = subst (λ v. Answers site mid v (Event.Request agent) new) lacks step in
    let there : Answers site mid no_path (Event.Request agent) mid = subst (λ s. Answers site mid no_path (Event.Request agent) s) refused.1 refused in
    let here : Answers site old no_path (Event.Request agent) old = subst (λ s. Answers site s no_path (Event.Request agent) s) vain.same there in
    record {
      all = All-append (λ entry. entry.reply ≡ no_path) xs (entry ∷ []) vain.all
          (All-cons (λ entry. entry.reply ≡ no_path) entry [] lacks (All-nil (λ entry. entry.reply ≡ no_path)));
      same = refused.1 ∙ vain.same;
      refused = λ other has. elim (asked-before xs entry other has) [
        | inl before ↦ vain.refused other before
        | inr is ↦ subst (λ v. Answers site old no_path v old) (sym e ∙ is) here
      ];
    }

-- of requests that were all refused the earlier ones were, and so was the last
refused-before : (xs : List Entry) (entry : Entry) → All (λ entry. entry.reply ≡ no_path) (xs ++ entry ∷ []) → All (λ entry. entry.reply ≡ no_path) xs
refused-before [] entry all = All-nil (λ entry. entry.reply ≡ no_path)
refused-before (x ∷ xs) entry all =
    All-cons (λ entry. entry.reply ≡ no_path) x xs (All-head (λ entry. entry.reply ≡ no_path) x (xs ++ entry ∷ []) all)
    (refused-before xs entry (All-tail (λ entry. entry.reply ≡ no_path) x (xs ++ entry ∷ []) all))

refused-last : (xs : List Entry) (entry : Entry) → All (λ entry. entry.reply ≡ no_path) (xs ++ entry ∷ []) → entry.reply ≡ no_path
refused-last [] entry all = All-head (λ entry. entry.reply ≡ no_path) entry [] all
refused-last (x ∷ xs) entry all = refused-last xs entry (All-tail (λ entry. entry.reply ≡ no_path) x (xs ++ entry ∷ []) all)

-- once one was not refused, not all were
pub brought-more : (vain lacks : Bool) (xs : List Entry) (entry : Entry) → (vain ≡ false → ¬ All (λ entry. entry.reply ≡ no_path) xs) →
    (entry.reply ≡ no_path → lacks ≡ true) → (vain && lacks) ≡ false → ¬ All (λ entry. entry.reply ≡ no_path) (xs ++ entry ∷ [])
brought-more false lacks xs entry before is _ all = before refl (refused-before xs entry all)
brought-more true lacks xs entry before is was all = false≢true (sym was ∙ is (refused-last xs entry all))

-- all stand, and ask in vain
begins-stuck : (site : Site) (old new : State) (some : Bool) (added : List Entry) → some ≡ true → AllHaveAsked site old some added new → AreInVain site old added new →
    AllStand new → IsStuck site new
begins-stuck site old new some added one all vain stand =
    let who = all.1.who one in
    let lacks : (agent : ℕ) → HasAsked added agent → Answers site new no_path (Event.Request agent) new =
    λ agent has. subst (λ s. Answers site s no_path (Event.Request agent) s) (sym vain.same) (vain.refused agent has) in
    record {
      resting = stand;
      told = λ agent due. elim (left-asked site old new some added agent all due) [
        | inl has ↦ inr (lacks agent has)
        | inr rests ↦ inl rests
      ];
      one = (who.0, lacks who.0 who.1);
    }

-- and so on the site to which the book went on
pub stuck-there : (caller : ℕ) (old new : Seen) (some : Bool) (added : List Entry) → GoesOn caller old added new → some ≡ true →
    AllHaveAsked old.site old.state some added new.state → AreInVain old.site old.state added new.state → AllStand new.state → IsStuck new.site new.state
stuck-there caller old new some added goes one all vain stand =
    subst (λ s. IsStuck s new.state) (sym goes.stays.site) (begins-stuck old.site old.state new.state some added one all vain stand)

-- on a well-formed instance nobody asks in vain
found : (agent : ℕ) (added : List Entry) → HasAsked added agent → All (λ entry. entry.reply ≡ no_path) added → FindPaths added → ⊥
found agent [] has all finds = Contains-none (Event.Request agent) has
found agent (x ∷ xs) has all finds = All-head (λ entry. entry.reply ≢ no_path) x xs finds (All-head (λ entry. entry.reply ≡ no_path) x xs all)

pub vain-unformed : (caller : ℕ) (old new : Seen) (some : Bool) (added : List Entry) → some ≡ true → AllHaveAsked old.site old.state some added new.state →
    AreInVain old.site old.state added new.state → GoesOn caller old added new → ¬ HasWaysForAll old.site old.opening
vain-unformed caller old new some added one all vain goes ways =
    let who = all.1.who one in
    found who.0 added who.1 vain.all (goes.served ways)

rests-of : (site : Site) (s new : State) (agent : ℕ) → Answers site s Reply.Rested (Event.Request agent) new → MayRest site s agent
rests-of site s new agent step = record { none = step.1; stays = step.2 }

-- nobody asked: all stands still where all are at rest
pub begins-unasked : (site : Site) (old new : State) (some rest : Bool) (added : List Entry) → old.closed ≡ false → some ≡ false → (IsTrue rest ↔ AllStand new) →
    AllHaveAsked site old some added new → Begins site old rest added new
begins-unasked site old new some rest added opens none all_rest all =
    let same = (all.1.none none).1 in
    let nobody = (all.1.none none).0 in
    record {
      asked = λ agent due. left-asked site old new some added agent all due;
      on_time = all.1.on_time;
      stands = λ rests. (
        same,
        subst (λ s. StandsStill site s) same (record {
          resting = all_rest.0 rests;
          told = λ agent known.
              let due : IsDue site new agent = record { known = record { not_closed = all.1.on_time.closed ∙ opens; known = known }; idle = inl (all_rest.0 rests agent known) } in
              elim (left-asked site old new some added agent all due) [
                | inl has ↦ absurd (Contains-none (Event.Request agent) (subst (λ es. HasAsked es agent) nobody has))
                | inr step ↦ rests-of site new new agent step
              ];
        }),
      );
      moves = λ moving stands. false≢true (sym moving ∙ all_rest.1 (subst (λ s. AllStand s) (sym same) stands.resting));
      ticks = λ moving. (
        rest-left site new all.0 added all.1.seats all.1.told all.2,
        λ nothing. false≢true (sym moving ∙ all_rest.1 nothing.resting),
      );
    }

-- its history is a run from its opening to its state
abbrev pub IsBegun : Seen → Type 0
IsBegun book = IsKept book.site book.opening book.history book.state

-- and so are all entries
pub reached : (caller : ℕ) (book now : Seen) (added : List Entry) → IsBegun book → GoesOn caller book added now →
    IsReached book.site (book.history ++ added) now.state
reached caller book now added kept goes = record {
  opening = book.opening;
  is_beginning = kept.begins;
  run = run-join book.site book.opening book.history book.state added now.state kept.run goes.run;
}

-- from where all were on their ways, if they were
pub reached-ways : (caller : ℕ) (book now : Seen) (added : List Entry) → IsBegun book → GoesOn caller book added now → AllOnTheirWays book.site book.opening →
    IsReachedOnTheirWays book.site (book.history ++ added) now.state
reached-ways caller book now added kept goes ways = record {
  reached = record {
    opening = book.opening;
    is_beginning = kept.begins;
    run = run-join book.site book.opening book.history book.state added now.state kept.run goes.run;
  };
  on_their_ways = ways;
}

use Rattle.std.proofs.Common.{◌≡◌, ℕ, ◌+◌, ◌<◌, take, get_or, length-append, List, [], ◌∷◌, ◌++◌, length, ap, sym, subst, arith, refl, ◌∙◌, Bool, true, false, append_assoc, append-nil}
use Rattle.std.specs.Prelude.{Option, Some, None, is_some, MatchBool}
use Rattle.std.proofs.lemmas.List.{take_more}
use Rattle.wh_core.specs.States.{State, arrived, moved}
use Rattle.wh_grid.specs.Grids.{Floor}
use Rattle.wh_points.specs.Points.{Site}
use Rattle.wh_core.specs.Steps.{Step, Run, last_clock}
use Rattle.wh_book.specs.Drafts.{Seen, IsSame, ticked}
use Rattle.wh_book.proofs.Kept.{step-ticked}
use Rattle.wh_token.specs.Commands.{event_of}
use Rattle.wh_token.specs.Fleet.{TellsFor, TellsSpare}
use Rattle.wh_token.specs.Houses.{StaysAt}
use Rattle.wh_token.specs.Runs.{Moves, Ran, RunsOne, entries_of}
use Rattle.wh_event.specs.declared.event.Command.{Command}
use Rattle.wh_event.specs.declared.entry.Entry.{Entry}
use Rattle.wh_event.specs.declared.event.Event.{Event}
use Rattle.wh_event.specs.declared.event.Spare.{Spare}
use Rattle.wh_event.specs.declared.reply.Reply.{Reply}

pub ran-more : {X : Type 0} (fits : X → Floor → Bool) (count : X → ℕ) (site : Site) (caller : ℕ) (commands : List Command) (outcomes : List (Option Entry))
    (command : Command) (outcome : Option Entry) (s : State) (spares : List X) (mid : State) (left : List X) (new : State) (rest : List X) →
    Ran fits count site caller commands outcomes s spares mid left →
    Moves fits count site caller command outcome mid left new rest →
    Ran fits count site caller (commands ++ command ∷ []) (outcomes ++ outcome ∷ []) s spares new rest
ran-more {X} fits count site caller [] [] command outcome s spares mid left new rest ran moves =
    let M : State → List X → Type 0 = λ t xs. Moves fits count site caller command outcome t xs new rest in
    let N : List X → Type 0 = λ xs. M s xs in
    let P : State → Type 0 = λ t. M t left in
    (new, rest, subst N ran.1 (subst P ran.0 moves), (refl, refl))
ran-more fits count site caller (c ∷ cs) (o ∷ os) command outcome s spares mid left new rest ran moves =
    (ran.0, ran.1, ran.2, ran-more fits count site caller cs os command outcome ran.0 ran.1 mid left new rest ran.3 moves)
ran-more fits count site caller [] (o ∷ os) command outcome s spares mid left new rest ran moves = absurd ran
ran-more fits count site caller (c ∷ cs) [] command outcome s spares mid left new rest ran moves = absurd ran

pub entries_of-more : (os : List (Option Entry)) (o : Option Entry) → entries_of (os ++ o ∷ []) ≡ entries_of os ++ entries_of (o ∷ [])
entries_of-more [] o = refl
entries_of-more (None ∷ os) o = entries_of-more os o
entries_of-more (Some e ∷ os) o = ap (λ es. e ∷ es) (entries_of-more os o)

-- the entries of a list of commands are a run
pub ran-run : {X : Type 0} (fits : X → Floor → Bool) (count : X → ℕ) (site : Site) (caller : ℕ) (commands : List Command) (outcomes : List (Option Entry))
    (s : State) (spares : List X) (new : State) (rest : List X) →
    Ran fits count site caller commands outcomes s spares new rest → Run site s (entries_of outcomes) new
ran-run fits count site caller [] [] s spares new rest ran = ran.0
ran-run {X} fits count site caller (c ∷ cs) (None ∷ os) s spares new rest ran =
    let P : State → Type 0 = λ t. Run site t (entries_of os) new in
    subst P ran.2.0 (ran-run fits count site caller cs os ran.0 ran.1 new rest ran.3)
ran-run fits count site caller (c ∷ cs) (Some e ∷ os) s spares new rest ran =
    (ran.0, ran.2.1, ran-run fits count site caller cs os ran.0 ran.1 new rest ran.3)
ran-run fits count site caller [] (o ∷ os) s spares new rest ran = absurd ran
ran-run fits count site caller (c ∷ cs) [] s spares new rest ran = absurd ran

pub length-one : (o : Option Entry) → is_some o ≡ true → length (entries_of (o ∷ [])) ≡ 1
length-one None h = cc
length-one (Some e) h = refl

pub length-none : (o : Option Entry) → is_some o ≡ false → length (entries_of (o ∷ [])) ≡ 0
length-none None h = refl
length-none (Some e) h = cc

-- the step of a loop over the commands
pub ran-take : {X : Type 0} (fits : X → Floor → Bool) (count : X → ℕ) (site : Site) (caller : ℕ) (commands : List Command) (i : ℕ) (d : Command) (outcomes : List (Option Entry))
    (outcome : Option Entry) (s : State) (spares : List X) (mid : State) (left : List X) (new : State) (rest : List X) → i < length commands →
    Ran fits count site caller (take i commands) outcomes s spares mid left →
    Moves fits count site caller (get_or commands i d) outcome mid left new rest →
    Ran fits count site caller (take (i + 1) commands) (outcomes ++ outcome ∷ []) s spares new rest
ran-take fits count site caller commands i d outcomes outcome s spares mid left new rest lt ran moves =
    rw (take_more commands i d lt) (ran-more fits count site caller (take i commands) outcomes (get_or commands i d) outcome s spares mid left new rest ran moves)

pub history-more : (first mid new : List Entry) (os : List (Option Entry)) (o : Option Entry) →
    mid ≡ first ++ entries_of os → new ≡ mid ++ entries_of (o ∷ []) → new ≡ first ++ entries_of (os ++ o ∷ [])
history-more first mid new os o e d =
    d ∙ ap (λ h. h ++ entries_of (o ∷ [])) e ∙ append_assoc first (entries_of os) (entries_of (o ∷ [])) ∙ ap (λ t. first ++ t) (sym (entries_of-more os o))

pub length-added : (os : List (Option Entry)) (o : Option Entry) (n : ℕ) → length (entries_of os) ≡ n → is_some o ≡ true →
    length (entries_of (os ++ o ∷ [])) ≡ n + 1
length-added os o n e h = rw (entries_of-more os o, length-append, length-one o h, e)

pub length-kept : (os : List (Option Entry)) (o : Option Entry) (n : ℕ) → length (entries_of os) ≡ n → is_some o ≡ false →
    length (entries_of (os ++ o ∷ [])) ≡ n
length-kept os o n e h = rw (entries_of-more os o, length-append, length-none o h, e) (omega arith)

-- the same where the step was taken at a site that is the same, by a command that was read
pub ran-take-at : {X : Type 0} (fits : X → Floor → Bool) (count : X → ℕ) (site here : Site) (caller : ℕ) (commands : List Command) (i : ℕ) (command : Command) (outcomes : List (Option Entry))
    (outcome : Option Entry) (s : State) (spares : List X) (mid : State) (left : List X) (new : State) (rest : List X) → here ≡ site → i < length commands →
    command ≡ get_or commands i command → Ran fits count site caller (take i commands) outcomes s spares mid left →
    Moves fits count here caller command outcome mid left new rest →
    Ran fits count site caller (take (i + 1) commands) (outcomes ++ outcome ∷ []) s spares new rest
ran-take-at fits count site here caller commands i command outcomes outcome s spares mid left new rest same lt read ran moves =
    ran-take fits count site caller commands i command outcomes outcome s spares mid left new rest lt ran
    (subst (λ c. Moves fits count site caller c outcome mid left new rest) read
    (subst (λ (t : Site). Moves fits count t caller command outcome mid left new rest) same moves))

-- a request that is answered at once, by a reply that changes nothing, where there was memory for its entry
pub moved-at-once : {X : Type 0} (fits : X → Floor → Bool) (count : X → ℕ) (caller agent : ℕ) (reply : Reply) (old : Seen) (spares : List X) (new : Seen) (added : Bool) →
    MatchBool added (Step old.site old.state (record { caller = caller; event = Event.Request agent; reply = reply }) old.state) (new.state ≡ old.state) → new.state ≡ old.state → StaysAt old new →
    MatchBool added (new.history ≡ old.history ++ record { caller = caller; event = Event.Request agent; reply = reply } ∷ []) (new.history ≡ old.history) →
    RunsOne fits count caller (Command.Token agent) added old spares new spares
moved-at-once fits count caller agent reply old spares new true answers same stays history =
    let entry : Entry = record { caller = caller; event = Event.Request agent; reply = reply } in
    let step = subst (λ t. Step old.site old.state entry t) (sym same) answers in
    record {
      outcome = Some entry;
      added_is = refl;
      history = history;
      moves = (refl, step, (Spare.None, refl), record { last = λ wants. absurd wants; other = λ unwanted. refl; none_told = λ unwanted. tt });
      stays = stays;
    }
moved-at-once fits count caller agent reply old spares new false answers same stays history = record {
  outcome = None;
  added_is = refl;
  history = history ∙ sym (append-nil old.history);
  moves = (same, refl);
  stays = stays;
}

-- a request that is not answered at once, where there was memory for its entry
pub moved-by-choice : {X : Type 0} (fits : X → Floor → Bool) (count : X → ℕ) (caller agent : ℕ) (entry : Entry) (old : Seen) (spares : List X) (new : Seen) →
    entry.caller ≡ caller → entry.event ≡ Event.Request agent → Step old.site old.state entry new.state → StaysAt old new → new.history ≡ old.history ++ entry ∷ [] →
    RunsOne fits count caller (Command.Token agent) true old spares new spares
moved-by-choice {X} fits count caller agent entry old spares new caller_is event_is step stays history =
    let none : Option X = None in
    record {
      outcome = Some entry;
      added_is = refl;
      history = history;
      moves = (
        caller_is,
        step,
        (Spare.None, event_is),
        record {
          last = λ wants. absurd wants;
          other = λ unwanted. refl;
          none_told = λ unwanted. subst (λ (e : Event). TellsFor fits count old.site.grid none e) (sym event_is) tt;
        },
      );
      stays = stays;
    }

-- a command that added no entry
pub moved-none : {X : Type 0} (fits : X → Floor → Bool) (count : X → ℕ) (caller : ℕ) (command : Command) (old : Seen) (spares : List X) (new : Seen) →
    IsSame old new → RunsOne fits count caller command false old spares new spares
moved-none fits count caller command old spares new same = record {
  outcome = None;
  added_is = refl;
  history = same.history ∙ sym (append-nil old.history);
  moves = (same.state, refl);
  stays = record { site = same.site; opening = same.opening };
}

-- what the event of a command tells of the spare that was looked at
pub tells_of : {X : Type 0} (fits : X → Floor → Bool) (count : X → ℕ) (grid : Floor) (handed : Option X) (command : Command) (told : Spare) (event : Event) →
    TellsSpare fits count grid handed told → event ≡ event_of command told → TellsFor fits count grid handed event
tells_of fits count grid handed (Command.Submit client stops) told event tells is = subst (λ (e : Event). TellsFor fits count grid handed e) (sym is) tt
tells_of fits count grid handed (Command.Token agent) told event tells is = subst (λ (e : Event). TellsFor fits count grid handed e) (sym is) tt
tells_of fits count grid handed Command.Tick told event tells is = subst (λ (e : Event). TellsFor fits count grid handed e) (sym is) tt
tells_of fits count grid handed (Command.Replace agent) told event tells is = subst (λ (e : Event). TellsFor fits count grid handed e) (sym is) tells
tells_of fits count grid handed Command.Close told event tells is = subst (λ (e : Event). TellsFor fits count grid handed e) (sym is) tt

-- a tick at once, where there was memory for its entry
pub moved-by-tick : {X : Type 0} (fits : X → Floor → Bool) (count : X → ℕ) (caller : ℕ) (old : Seen) (spares : List X) (new : Seen) (added : Bool) →
    old.state.closed ≡ false → old.state.clock < last_clock → MatchBool added (new.state ≡ arrived (moved old.state)) (new.state ≡ old.state) → StaysAt old new →
    MatchBool added (new.history ≡ old.history ++ record { caller = caller; event = Event.Tick; reply = ticked old.state } ∷ []) (new.history ≡ old.history) →
    RunsOne fits count caller Command.Tick added old spares new spares
moved-by-tick fits count caller old spares new true not_closed early state stays history =
    let entry : Entry = record { caller = caller; event = Event.Tick; reply = ticked old.state } in
    record {
      outcome = Some entry;
      added_is = refl;
      history = history;
      moves = (refl, step-ticked old.site old.state new.state not_closed early state, (Spare.None, refl), record { last = λ wants. absurd wants; other = λ unwanted. refl; none_told = λ unwanted. tt });
      stays = stays;
    }
moved-by-tick fits count caller old spares new false not_closed early state stays history = record {
  outcome = None;
  added_is = refl;
  history = history ∙ sym (append-nil old.history);
  moves = (state, refl);
  stays = stays;
}

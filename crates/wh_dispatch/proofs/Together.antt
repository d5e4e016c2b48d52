-- lines one after another
use Rattle.std.proofs.Common.{◌≡◌, ℕ, ◌<◌, ◌∙◌, inl, inr, List, [], ◌∷◌, ◌++◌, sym, subst, ap, arith, append-nil, append_assoc, Bool}
use Rattle.wh_grid.specs.Grids.{Floor}
use Rattle.wh_points.specs.Points.{Site}
use Rattle.wh_replay.specs.declared.asker.Asker.{Asker}
use Rattle.wh_event.specs.declared.entry.Entry.{Entry}
use Rattle.wh_tasks.specs.Tasks.{IsTask}
use Rattle.wh_core.specs.States.{State}
use Rattle.wh_vehicles.specs.Plans.{Fleet, AllHappen, IsCarriedOut, entries_of}
use Rattle.std.proofs.lemmas.Bool.{cases_lt}
use Rattle.std.proofs.lemmas.Option.{same_Some}
use Rattle.std.proofs.lemmas.List.Elements.{Contains-append_left, Contains-append_right, Contains-append_cases}
use Rattle.wh_tasks.specs.declared.task.Task.{Task}
use Rattle.wh_core.proofs.Sound.{sound-reached}
use Rattle.wh_vehicles.specs.Visits.{Visit, HasMade}
use Rattle.wh_vehicles.proofs.Planning.{carried}
use Rattle.wh_dispatch.specs.Lines.{Depot, Heard, heard, fleet_of, TakesLine, InTurn}
use Rattle.wh_dispatch.specs.Laws.{HasHappened, EachScriptHappens, visits_of, TellsWhatIsMade, EachVisitIsTold}
use Rattle.wh_dispatch.proofs.Members.{none_in, pairs_nil, pairs_join}
use Rattle.wh_dispatch.proofs.Watching.{made_when, made_tells}
use Rattle.wh_dispatch.proofs.Staying.{made_stays}
use Rattle.wh_dispatch.proofs.Happening.{happens_join, entries_join}
use Rattle.wh_dispatch.proofs.Serving.{taken_on}

pub happened_none : {X : Type 0} (old new : Depot X) → new ≡ old → HasHappened old new
happened_none old new e = record {
  happenings = [];
  all = ap fleet_of e;
  history = ap (λ (x : Depot _). x.book.history) e ∙ sym (append-nil old.book.history);
  site = ap (λ (x : Depot _). x.book.site) e;
  opening = ap (λ (x : Depot _). x.book.opening) e;
}

pub happened_join : {X : Type 0} (old mid new : Depot X) → HasHappened old mid → HasHappened mid new → HasHappened old new
happened_join old mid new p q = record {
  happenings = p.happenings ++ q.happenings;
  all = happens_join old.book.site (fleet_of old) p.happenings (fleet_of mid) q.happenings (fleet_of new) p.all
      (subst (λ (site : Site). AllHappen site (fleet_of mid) q.happenings (fleet_of new)) p.site q.all);
  history = q.history ∙ ap (λ (es : List Entry). es ++ entries_of q.happenings) p.history ∙ append_assoc old.book.history (entries_of p.happenings) (entries_of q.happenings)
      ∙ ap (λ (es : List Entry). old.book.history ++ es) (sym (entries_join p.happenings q.happenings));
  site = q.site ∙ p.site;
  opening = q.opening ∙ p.opening;
}

-- what one line does has happened
line_happened : {X : Type 0} (fits : X → Floor → Bool) (count : X → ℕ) (asker : Asker) (bound : ℕ) (line : Heard) (old new : Depot X) (texts : List (List ℕ)) →
    TakesLine fits count asker bound line old new texts → HasHappened old new
line_happened fits count asker bound line old new texts takes =
    let did = taken_on fits count asker bound line old new texts takes in
    record {
      happenings = did.leads.happenings;
      all = did.leads.all;
      history = did.grows.history ∙ ap (λ (es : List Entry). old.book.history ++ es) (sym did.leads.entries_are);
      site = did.grows.site;
      opening = did.grows.opening;
    }

pub each_script_happens : {X : Type 0} (fits : X → Floor → Bool) (count : X → ℕ) (asker : Asker) → EachScriptHappens fits count asker
each_script_happens fits count asker bound [] old new texts p = happened_none old new p.0
each_script_happens fits count asker bound (line ∷ lines) old new texts p =
    happened_join old p.0 new (line_happened fits count asker bound (heard line) old p.0 p.1 p.3.takes) (each_script_happens fits count asker bound lines p.0 new p.2 p.4)

-- ---- visits

-- the run goes on to be carried out
carried_on : {X : Type 0} (old new : Depot X) → HasHappened old new → IsCarriedOut old.book.site old.book.history (fleet_of old) → IsCarriedOut new.book.site new.book.history (fleet_of new)
carried_on old new h c =
    let there : IsCarriedOut old.book.site (old.book.history ++ entries_of h.happenings) (fleet_of new) = carried old.book.site old.book.history (fleet_of old) h.happenings (fleet_of new) c h.all in
    subst (λ (site : Site). IsCarriedOut site new.book.history (fleet_of new)) (sym h.site)
    (subst (λ (es : List Entry). IsCarriedOut old.book.site es (fleet_of new)) (sym h.history) there)

-- a visit that is made later than another of the same task comes behind it
behind : (opening : ℕ) (site : Site) (entries : List Entry) (mid new : Fleet) (u v : Visit) → IsCarriedOut site entries mid → HasMade opening mid u → ¬ HasMade opening mid v → HasMade opening new v →
    ((v : Visit) → HasMade opening mid v → HasMade opening new v) → u.task ≡ v.task → u.number < v.number
behind opening site entries mid new u v c made not later stays same =
    let on = stays u made in
    let is : on.task ≡ later.task = same_Some on.task later.task (sym on.is_task ∙ subst (λ n. IsTask new.state.tasks n later.task) (sym same) later.is_task) in
    let agent : u.agent ≡ v.agent = same_Some u.agent v.agent (sym on.agent_is ∙ ap (λ (t : Task). t.agent) is ∙ later.agent_is) in
    elim (cases_lt u.number v.number) [
      | inl l ↦ l
      | inr g ↦
          let says = made_tells opening mid.state mid.drive u made.task made made.is_task in
          let timed = ((sound-reached site entries mid.state c.state).tasks u.task made.task made.is_task).timed in
          let before = timed.in_order v.number u.number g says.within in
          let within = says.within in
          let over = says.over in
          let mine : HasMade opening mid (record { agent = u.agent; task = u.task; number = v.number }) =
          made_when opening mid.state mid.drive u.agent u.task v.number made.task made.is_task made.agent_is (omega arith) (omega arith) in
          absurd (not (subst (λ n. HasMade opening mid (record { agent = v.agent; task = n; number = v.number })) same
          (subst (λ n. HasMade opening mid (record { agent = n; task = u.task; number = v.number })) agent mine)))
    ]

told_none : {X : Type 0} (old new : Depot X) → new ≡ old → TellsWhatIsMade old new []
told_none old new e = record {
  made = record { each = λ v c. absurd (none_in v c); in_turn = pairs_nil InTurn };
  all = λ v made. inl (subst (λ (x : Depot _). HasMade old.book.opening.clock (fleet_of x) v) e made);
}

told_join : {X : Type 0} (old mid new : Depot X) (us vs : List Visit) → HasHappened old mid → HasHappened mid new → IsCarriedOut old.book.site old.book.history (fleet_of old) → TellsWhatIsMade old mid us →
    TellsWhatIsMade mid new vs → TellsWhatIsMade old new (us ++ vs)
told_join old mid new us vs h k c p q =
    let opening = old.book.opening.clock in
    let opens : mid.book.opening.clock ≡ opening = ap (λ (s : State). s.clock) h.opening in
    let first : (v : Visit) → HasMade opening (fleet_of old) v → HasMade opening (fleet_of mid) v = λ v. made_stays opening old.book.site (fleet_of old) h.happenings (fleet_of mid) v h.all in
    let rest : (v : Visit) → HasMade opening (fleet_of mid) v → HasMade opening (fleet_of new) v = λ v. made_stays opening mid.book.site (fleet_of mid) k.happenings (fleet_of new) v k.all in
    let there = carried_on old mid h c in
    record {
      made = record {
        each = λ v c. elim (Contains-append_cases us vs v c) [
          | inl here ↦ (let now = p.made.each v here in record { made = rest v now.made; not_before = now.not_before })
          | inr then ↦
              let now = q.made.each v then in
              record {
                made = subst (λ n. HasMade n (fleet_of new) v) opens now.made;
                not_before = λ before. now.not_before (subst (λ n. HasMade n (fleet_of mid) v) (sym opens) (first v before));
              }
        ];
        in_turn = pairs_join InTurn us vs p.made.in_turn q.made.in_turn (λ u v cu cv.
            let early = p.made.each u cu in
            let late = q.made.each v cv in
            behind opening mid.book.site mid.book.history (fleet_of mid) (fleet_of new) u v there early.made
            (λ made. late.not_before (subst (λ n. HasMade n (fleet_of mid) v) (sym opens) made))
            (subst (λ n. HasMade n (fleet_of new) v) opens late.made) rest);
      };
      all = λ v made. elim (q.all v (subst (λ n. HasMade n (fleet_of new) v) (sym opens) made)) [
        | inl before ↦ elim (p.all v (subst (λ n. HasMade n (fleet_of mid) v) opens before)) [
          | inl long ↦ inl long
          | inr here ↦ inr (Contains-append_left us vs v here)
        ]
        | inr then ↦ inr (Contains-append_right us vs v then)
      ];
    }

pub each_visit_is_told : {X : Type 0} (fits : X → Floor → Bool) (count : X → ℕ) (asker : Asker) → EachVisitIsTold fits count asker
each_visit_is_told fits count asker bound [] old new texts p c = told_none old new p.0
each_visit_is_told fits count asker bound (line ∷ lines) old new texts p c =
    let first = line_happened fits count asker bound (heard line) old p.0 p.1 p.3.takes in
    told_join old p.0 new p.3.takes.visits (visits_of fits count asker bound lines p.0 new p.2 p.4) first (each_script_happens fits count asker bound lines p.0 new p.2 p.4) c
    (record { made = p.3.takes.made; all = p.3.all })
    (each_visit_is_told fits count asker bound lines p.0 new p.2 p.4 (carried_on old p.0 first c))

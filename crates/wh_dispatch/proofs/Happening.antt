-- what happens as a line is served, and that it is carried out
use Rattle.std.proofs.Common.{◌≡◌, ℕ, ◌+◌, ◌≤◌, ◌∙◌, List, [], ◌∷◌, ◌++◌, length, Option, Some, None, Result, Ok, Err, sym, subst, refl, ap, arith, Bool}
use Rattle.wh_grid.specs.Grids.{Floor}
use Rattle.wh_points.specs.Points.{Site}
use Rattle.wh_event.specs.declared.event.Command.{Command}
use Rattle.wh_event.specs.declared.event.Event.{Event}
use Rattle.wh_event.specs.declared.event.Spare.{Spare}
use Rattle.wh_event.specs.declared.entry.Entry.{Entry}
use Rattle.wh_event.specs.declared.reply.Reply.{Reply}
use Rattle.wh_event.specs.declared.fault.LineFault.{LineFault}
use Rattle.wh_core.specs.States.{State}
use Rattle.wh_core.specs.Steps.{Answers, Step as StepOfState}
use Rattle.wh_token.specs.Runs as runs
use Rattle.wh_token.specs.Runs.{Ran}
use Rattle.wh_drive.specs.Drives.{Drive, clock, started, arrived}
use Rattle.wh_drive.specs.Runs.{Event as EventOfVehicles, Start, Arrive, Tick, Run as RunOfDrive}
use Rattle.wh_drive.specs.Standstills.{OnlyGo}
use Rattle.wh_drive.proofs.Vehicles.{ticked-length}
use Rattle.wh_order.specs.Settling.{OnlySettle}
use Rattle.wh_vehicles.specs.Driving.{OnlyArrives, AnswersReport}
use Rattle.wh_vehicles.specs.Plans.{Fleet, Happening, Done, Goes, Comes, AllHappen, entries_of, taken, places}
use Rattle.wh_vehicles.specs.declared.report.Report.{Report}
use Rattle.wh_vehicles.specs.declared.notice.Notice.{Notice}
use Rattle.wh_vehicles.specs.declared.notice.Notice.TheVariants.{Arrived, Visited, Go, Behind, UnknownAgent, NotTold}
use Rattle.wh_replay.specs.Answers.{asked}
use Rattle.wh_dispatch.specs.Lines.{gone_on}

abbrev pub fleet : State → Drive → Fleet
fleet s d = record { state = s; drive = d }

-- ---- one after another

pub happens_join : (site : Site) (old : Fleet) (hs : List Happening) (mid : Fleet) (ks : List Happening) (new : Fleet) → AllHappen site old hs mid → AllHappen site mid ks new →
    AllHappen site old (hs ++ ks) new
happens_join site old [] mid ks new p q = subst (λ f. AllHappen site f ks new) p q
happens_join site old (h ∷ hs) mid ks new p q = (p.0, p.1, happens_join site p.0 hs mid ks new p.2 q)

pub entries_join : (hs ks : List Happening) → entries_of (hs ++ ks) ≡ entries_of hs ++ entries_of ks
entries_join [] ks = refl
entries_join (Done entry ∷ hs) ks = ap (λ es. entry ∷ es) (entries_join hs ks)
entries_join (Goes agent ∷ hs) ks = entries_join hs ks
entries_join (Comes agent step ∷ hs) ks = entries_join hs ks

-- ---- vehicles alone

-- what happens leads from one fleet to another, and adds these entries
pub record Leads (site : Site) (old : Fleet) (entries : List Entry) (new : Fleet) : Type 0 where
  pub happenings : List Happening
  pub all : AllHappen site old happenings new
  pub entries_are : entries_of happenings ≡ entries

pub go_leads : (site : Site) (s : State) (d : Drive) (events : List EventOfVehicles) (e : Drive) → OnlyGo events → RunOfDrive d events e → Leads site (fleet s d) [] (fleet s e)
go_leads site s d [] e only run = record { happenings = []; all = ap (λ (f : Drive). fleet s f) run; entries_are = refl }
go_leads site s d (Start agent ∷ events) e only run =
    let rest = go_leads site s run.0 events e only run.2 in
    record {
      happenings = Goes agent ∷ rest.happenings;
      all = (fleet s run.0, (run.1.0, ap (λ (f : Drive). fleet s f) run.1.1), rest.all);
      entries_are = rest.entries_are;
    }
go_leads site s d (Arrive agent step ∷ events) e only run =
    let rest = go_leads site s run.0 events e only run.2 in
    record {
      happenings = Comes agent step ∷ rest.happenings;
      all = (fleet s run.0, (run.1.0, ap (λ (f : Drive). fleet s f) run.1.1), rest.all);
      entries_are = rest.entries_are;
    }
go_leads site s d (Tick cells ∷ events) e only run = absurd only

pub settle_goes : (d : Drive) (events : List EventOfVehicles) → OnlySettle d events → OnlyGo events
settle_goes d [] only = tt
settle_goes d (Start agent ∷ events) only = settle_goes (started agent d) events only
settle_goes d (Arrive agent step ∷ events) only = settle_goes (arrived agent d) events only.1
settle_goes d (Tick cells ∷ events) only = absurd only

arrivals_go : (agent : ℕ) (events : List EventOfVehicles) → OnlyArrives agent events → OnlyGo events
arrivals_go agent [] only = tt
arrivals_go agent (Start other ∷ events) only = absurd only
arrivals_go agent (Arrive other step ∷ events) only = arrivals_go agent events only.1
arrivals_go agent (Tick cells ∷ events) only = absurd only

pub report_leads : (site : Site) (s : State) (d : Drive) (report : Report) (notice : Notice) (e : Drive) → AnswersReport d report notice e → Leads site (fleet s d) [] (fleet s e)
report_leads site s d report (UnknownAgent agent) e a = go_leads site s d [] e tt a.2
report_leads site s d report (NotTold agent step) e a = go_leads site s d [] e tt a.4
report_leads site s d report (Arrived agent step) e a = go_leads site s d a.4.events e (arrivals_go report.agent a.4.events a.4.only) a.4.run
report_leads site s d report (Visited agent task visit) e a = absurd a
report_leads site s d report (Go agent step cell) e a = absurd a
report_leads site s d report (Behind agent steps) e a = absurd a

-- ---- commands

pub asked_few : (kind : Result (Option Command) LineFault) → length (asked kind) ≤ 1
asked_few (Ok (Some command)) = omega arith
asked_few (Ok None) = omega arith
asked_few (Err fault) = omega arith

pub ran_leads : {X : Type 0} (fits : X → Floor → Bool) (count : X → ℕ) (caller : ℕ) (site : Site) (cs : List Command) (os : List (Option Entry)) (s : State) (spares : List X) (new : State) (rest : List X) (d : Drive) →
    length cs ≤ 1 → Ran fits count site caller cs os s spares new rest → Leads site (fleet s d) (runs.entries_of os) (fleet new (gone_on os new d))
ran_leads fits count caller site [] [] s spares new rest d few p = record { happenings = []; all = ap (λ (t : State). fleet t d) p.0; entries_are = refl }
ran_leads fits count caller site [] (o ∷ os) s spares new rest d few p = absurd p
ran_leads fits count caller site (c ∷ []) [] s spares new rest d few p = absurd p
ran_leads fits count caller site (c ∷ []) (None ∷ []) s spares new rest d few p =
    record { happenings = []; all = ap (λ (t : State). fleet t d) (p.3.0 ∙ p.2.0); entries_are = refl }
ran_leads fits count caller site (c ∷ []) (Some entry ∷ []) s spares new rest d few p =
    record {
      happenings = Done entry ∷ [];
      all = (fleet new (taken entry.reply new d), (subst (λ (t : State). StepOfState site s entry t) (sym p.3.0) p.2.1, refl), refl);
      entries_are = refl;
    }
ran_leads fits count caller site (c ∷ []) (o ∷ more ∷ os) s spares new rest d few p = absurd p.3
ran_leads fits count caller site (c ∷ other ∷ cs) os s spares new rest d few p = absurd (omega (arith, few))

-- ---- the clock

clock_taken : (site : Site) (old : State) (reply : Reply) (event : Event) (new : State) (d : Drive) (k : ℕ) → Answers site old reply event new → 1 ≤ length d.rows →
    clock d + k ≡ old.clock → (1 ≤ length (taken reply new d).rows) × (clock (taken reply new d) + k ≡ new.clock)
clock_taken site old (Reply.Refused refusal) event new d k step some e = (some, e ∙ sym (ap (λ (s : State). s.clock) step.1))
clock_taken site old (Reply.Accepted n) (Event.Submit client stops) new d k step some e = (some, e ∙ sym (ap (λ (s : State). s.clock) step.5.2))
clock_taken site old (Reply.Took n path) (Event.Request agent) new d k step some e = (some, e ∙ sym (ap (λ (s : State). s.clock) step.1.3))
clock_taken site old Reply.Rested (Event.Request agent) new d k step some e = (some, e ∙ sym (ap (λ (s : State). s.clock) step.3))
clock_taken site old (Reply.Parked point path) (Event.Request agent) new d k step some e = (some, e ∙ sym (ap (λ (s : State). s.clock) step.4))
clock_taken site old (Reply.Clock now first last) Event.Tick new d k step some e =
    let longer = ticked-length d (places new) in
    let later : new.clock ≡ old.clock + 1 = ap (λ (s : State). s.clock) step.5 in
    (omega arith, omega arith)
clock_taken site old (Reply.Replaced slots) (Event.Replace agent (Spare.Fits count)) new d k step some e = (some, e ∙ sym (ap (λ (s : State). s.clock) step.2))
clock_taken site old Reply.Closed Event.Close new d k step some e = (some, e ∙ sym (ap (λ (s : State). s.clock) step.1))
clock_taken site old reply event new d k step some e = absurd step

pub clock_kept : (site : Site) (old : Fleet) (hs : List Happening) (new : Fleet) (k : ℕ) → AllHappen site old hs new → 1 ≤ length old.drive.rows →
    clock old.drive + k ≡ old.state.clock → clock new.drive + k ≡ new.state.clock
clock_kept site old [] new k p some e = subst (λ (f : Fleet). clock f.drive + k ≡ f.state.clock) (sym p) e
clock_kept site old (Done entry ∷ hs) new k p some e =
    let mid : Fleet = p.0 in
    let t = clock_taken site old.state entry.reply entry.event mid.state old.drive k p.1.0 some e in
    clock_kept site mid hs new k p.2 (subst (λ (d : Drive). 1 ≤ length d.rows) (sym p.1.1) t.0) (subst (λ (d : Drive). clock d + k ≡ mid.state.clock) (sym p.1.1) t.1)
clock_kept site old (Goes agent ∷ hs) new k p some e =
    clock_kept site p.0 hs new k p.2 (subst (λ (f : Fleet). 1 ≤ length f.drive.rows) (sym p.1.1) some) (subst (λ (f : Fleet). clock f.drive + k ≡ f.state.clock) (sym p.1.1) e)
clock_kept site old (Comes agent step ∷ hs) new k p some e =
    clock_kept site p.0 hs new k p.2 (subst (λ (f : Fleet). 1 ≤ length f.drive.rows) (sym p.1.1) some) (subst (λ (f : Fleet). clock f.drive + k ≡ f.state.clock) (sym p.1.1) e)

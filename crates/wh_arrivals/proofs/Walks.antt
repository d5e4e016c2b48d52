-- a walk along a history, with vehicles that are brought along
use Rattle.std.proofs.Common.{◌≡◌, ◌≢◌, ℕ, ◌+◌, ◌^◌, ◌<◌, ◌≤◌, ◌∙◌, List, [], ◌∷◌, ◌++◌, Bool, true, false, map, min, take, drop, get_or, length, sym, subst, refl, ap, arith}
use Rattle.std.specs.Prelude.{slice_index}
use Rattle.std.specs.List.{AllPairs}
use Rattle.std.proofs.lemmas.List.{get_or-map, get_or_default, append_assoc, append-nil, drop_more, take_more, drop_all, take_all, take-append-drop, length-map}
use Rattle.wh_grid.specs.declared.cell.Cell.{Cell}
use Rattle.wh_path.specs.Paths.{at}
use Rattle.wh_path.proofs.AtLemmas.{origin}
use Rattle.wh_points.specs.Points.{Site}
use Rattle.wh_event.specs.declared.entry.Entry.{Entry}
use Rattle.wh_event.specs.declared.event.Event.{Event}
use Rattle.wh_event.specs.declared.event.Spare.{Spare}
use Rattle.wh_event.specs.declared.reply.Reply.{Reply}
use Rattle.wh_core.specs.States.{State}
use Rattle.wh_core.specs.Steps.{Answers, Step, Run}
use Rattle.wh_core.specs.Laws.{IsBeginning, IsReached}
use Rattle.wh_core.proofs.Sound.{sound-reached}
use Rattle.wh_core.proofs.Traffic.{none_share}
use Rattle.wh_book.specs.Drafts.{Seen}
use Rattle.wh_drive.specs.declared.vehicle.Vehicle.{Vehicle}
use Rattle.wh_drive.specs.Drives.{Drive, clock, MayTick, ticked, opened}
use Rattle.wh_drive.specs.Runs.{Event as EventOfVehicles, Start, Arrive, Tick, Run as RunOfDrive}
use Rattle.wh_drive.specs.Standstills.{OnlyGo}
use Rattle.wh_drive.proofs.Vehicles.{idle}
use Rattle.wh_order.specs.Orders.{Order, Represents, vehicle_in}
use Rattle.wh_order.specs.Bringing.{StandBy, GoesOn, IsTooEarly}
use Rattle.wh_vehicles.specs.Plans.{places, Happening, Done, Goes, Comes, taken, Fleet, Happens, AllHappen, entries_of, IsCarriedOut}
use Rattle.wh_vehicles.specs.Plans as plans
use Rattle.wh_vehicles.proofs.Planning.{size, at-place, each_step_may_be_taken, each_run_is_a_plan}
use Rattle.wh_arrivals.specs.declared.standing.StandFault.{StandFault}
use Rattle.wh_arrivals.specs.declared.standing.StandFault.TheVariants.{NoMemory, TooEarly}
use Rattle.wh_arrivals.specs.Standing.{MayHaveHappened, Stand, ComesTooEarly, TellsStandFault, paths_after, is_clock}

-- ---- what has happened

abbrev fleet-of : State → Drive → Fleet
fleet-of s d = record { state = s; drive = d }

all-join : (site : Site) (old : Fleet) (first : List Happening) (mid : Fleet) (more : List Happening) (new : Fleet) → AllHappen site old first mid → AllHappen site mid more new →
    AllHappen site old (first ++ more) new
all-join site old [] mid more new run rest = subst (λ (f : Fleet). AllHappen site f more new) run rest
all-join site old (one ∷ first) mid more new run rest = (run.0, run.1, all-join site run.0 first mid more new run.2 rest)

entries-join : (first more : List Happening) → entries_of (first ++ more) ≡ entries_of first ++ entries_of more
entries-join [] more = refl
entries-join (Done entry ∷ first) more = ap (λ (es : List Entry). entry ∷ es) (entries-join first more)
entries-join (Goes agent ∷ first) more = entries-join first more
entries-join (Comes agent step ∷ first) more = entries-join first more

-- what vehicles do alone may happen in the warehouse
record Alone (site : Site) (s : State) (d e : Drive) : Type 0 where
  happenings : List Happening
  all : AllHappen site (record { state = s; drive = d }) happenings (record { state = s; drive = e })
  none : entries_of happenings ≡ []

alone : (site : Site) (s : State) (d : Drive) (events : List EventOfVehicles) (e : Drive) → OnlyGo events → RunOfDrive d events e → Alone site s d e
alone site s d [] e only run = record { happenings = []; all = ap (fleet-of s) run; none = refl }
alone site s d (Start agent ∷ events) e only run =
    let rest = alone site s run.0 events e only run.2 in
    record {
      happenings = Goes agent ∷ rest.happenings;
      all = (fleet-of s run.0, (run.1.0, ap (fleet-of s) run.1.1), rest.all);
      none = rest.none;
    }
alone site s d (Arrive agent step ∷ events) e only run =
    let rest = alone site s run.0 events e only run.2 in
    record {
      happenings = Comes agent step ∷ rest.happenings;
      all = (fleet-of s run.0, (run.1.0, ap (fleet-of s) run.1.1), rest.all);
      none = rest.none;
    }
alone site s d (Tick cells ∷ events) e only run = absurd only

-- an entry more
happened-entry : (book : Seen) (ahead : ℕ) (before : List Entry) (old : Fleet) (entry : Entry) (new : Fleet) → MayHaveHappened book ahead before old →
    Step book.site old.state entry new.state → new.drive ≡ taken entry.reply new.state old.drive → MayHaveHappened book ahead (before ++ entry ∷ []) new
happened-entry book ahead before old entry new h step is = record {
  happenings = h.happenings ++ Done entry ∷ [];
  all = all-join book.site _ h.happenings old (Done entry ∷ []) new h.all (new, (step, is), refl);
  entries_are = entries-join h.happenings (Done entry ∷ []) ∙ ap (λ (es : List Entry). es ++ entry ∷ []) h.entries_are;
}

-- and vehicles alone
happened-alone : (book : Seen) (ahead : ℕ) (before : List Entry) (s : State) (d e : Drive) → MayHaveHappened book ahead before (record { state = s; drive = d }) → Alone book.site s d e →
    MayHaveHappened book ahead before (record { state = s; drive = e })
happened-alone book ahead before s d e h a = record {
  happenings = h.happenings ++ a.happenings;
  all = all-join book.site _ h.happenings (record { state = s; drive = d }) a.happenings (record { state = s; drive = e }) h.all a.all;
  entries_are = entries-join h.happenings a.happenings ∙ ap (λ (es : List Entry). es ++ entries_of a.happenings) h.entries_are
      ∙ ap (λ (es : List Entry). before ++ es) a.none ∙ append-nil before;
}

pub carried-out : (book : Seen) (ahead : ℕ) (entries : List Entry) (fleet : Fleet) → IsBeginning book.site book.opening → 1 ≤ ahead → MayHaveHappened book ahead entries fleet →
    IsCarriedOut book.site entries fleet
carried-out book ahead entries fleet begins some h =
    let first : Fleet = record { state = book.opening; drive = opened book.site.layout.nofollow ahead (places book.opening) } in
    let opens : plans.IsOpening book.site first = record { ahead = ahead; some = some; state = begins; drive = refl } in
    subst (λ (es : List Entry). IsCarriedOut book.site es fleet) h.entries_are (each_run_is_a_plan book.site first h.happenings fleet opens h.all)

-- ---- one step

-- the clock stays, and so does the plan
record IsStill (old new : State) (reply : Reply) (event : Event) : Type 0 where
  paths : paths_after reply event old.paths ≡ new.paths
  clock : new.clock ≡ old.clock
  plan : (d : Drive) → d ≡ taken reply new d

still : (site : Site) (old : State) (reply : Reply) (event : Event) (new : State) → Answers site old reply event new → is_clock reply ≡ false → IsStill old new reply event
still site old (Reply.Refused refusal) event new step quiet =
    record { paths = ap (λ (s : State). s.paths) (sym step.1); clock = ap (λ (s : State). s.clock) step.1; plan = λ d. refl }
still site old (Reply.Accepted n) (Event.Submit client stops) new step quiet =
    record { paths = ap (λ (s : State). s.paths) (sym step.5.2); clock = ap (λ (s : State). s.clock) step.5.2; plan = λ d. refl }
still site old (Reply.Took n path) (Event.Request agent) new step quiet =
    record { paths = ap (λ (s : State). s.paths) (sym step.1.3); clock = ap (λ (s : State). s.clock) step.1.3; plan = λ d. refl }
still site old Reply.Rested (Event.Request agent) new step quiet =
    record { paths = ap (λ (s : State). s.paths) (sym step.3); clock = ap (λ (s : State). s.clock) step.3; plan = λ d. refl }
still site old (Reply.Parked point path) (Event.Request agent) new step quiet =
    record { paths = ap (λ (s : State). s.paths) (sym step.4); clock = ap (λ (s : State). s.clock) step.4; plan = λ d. refl }
still site old (Reply.Replaced slots) (Event.Replace agent (Spare.Fits count)) new step quiet =
    record { paths = ap (λ (s : State). s.paths) (sym step.2); clock = ap (λ (s : State). s.clock) step.2; plan = λ d. refl }
still site old Reply.Closed Event.Close new step quiet =
    record { paths = ap (λ (s : State). s.paths) (sym step.1); clock = ap (λ (s : State). s.clock) step.1; plan = λ d. refl }
still site old (Reply.Clock now first last) event new step quiet = absurd cc
still site old reply event new step quiet = absurd step

-- the clock goes on, and so does the plan
record IsOn (old new : State) (reply : Reply) (event : Event) : Type 0 where
  paths : paths_after reply event old.paths ≡ new.paths
  clock : new.clock ≡ old.clock + 1
  plan : (d : Drive) → ticked (places new) d ≡ taken reply new d

on : (site : Site) (old : State) (reply : Reply) (event : Event) (new : State) → Answers site old reply event new → is_clock reply ≡ true → IsOn old new reply event
on site old (Reply.Clock now first last) Event.Tick new step ticks =
    record { paths = ap (λ (s : State). s.paths) (sym step.5); clock = ap (λ (s : State). s.clock) step.5; plan = λ d. refl }
on site old (Reply.Refused refusal) event new step ticks = absurd cc
on site old (Reply.Accepted n) event new step ticks = absurd cc
on site old (Reply.Took n path) event new step ticks = absurd cc
on site old Reply.Rested event new step ticks = absurd cc
on site old (Reply.Parked point path) event new step ticks = absurd cc
on site old (Reply.Replaced slots) event new step ticks = absurd cc
on site old Reply.Closed event new step ticks = absurd cc
on site old reply event new step ticks = absurd step

-- ---- the walk

-- so far along the history: the agents' paths are the state's, and the order is of a drive that has come as far
pub record Walked (book : Seen) (ahead : ℕ) (steps : List ℕ) (before after : List Entry) (paths : List (List Cell)) (o : Order) : Type 0 where
  pub state : State
  pub drive : Drive
  pub rest : Run book.site state after book.state
  pub paths_are : paths ≡ state.paths
  pub happened : MayHaveHappened book ahead before (record { state = state; drive = drive })
  pub represents : Represents o drive
  pub time : clock drive + book.opening.clock ≡ state.clock
  pub stand : StandBy o.clock steps o.vehicles

-- no two agents begin at one cell
pub differ-beginning : (book : Seen) → IsBeginning book.site book.opening → AllPairs (λ a b. a ≢ b) (places book.opening)
differ-beginning book begins i j a below within e =
    let s = book.opening in
    let reached : IsReached book.site [] s = record { opening = s; is_beginning = begins; run = refl } in
    let cells = size s in
    let l : j < length s.paths = omega arith in
    let l' : i < length s.paths = omega arith in
    none_share book.site [] s i j reached (record { first = l'; second = l; differ = λ same. omega arith })
    (sym (at-place s i l') ∙ get_or_default (places s) i origin a (omega arith) ∙ e ∙ get_or_default (places s) j a origin within ∙ at-place s j l)

pub walked-start : (book : Seen) (ahead : ℕ) (steps : List ℕ) (row : List Cell) (paths : List (List Cell)) (o : Order) → IsBeginning book.site book.opening →
    Run book.site book.opening book.history book.state → length steps ≡ length book.state.paths → row ≡ places book.opening → paths ≡ book.opening.paths →
    ((nofollow : Bool) → Represents o (opened nofollow ahead row)) → Walked book ahead steps [] book.history paths o
walked-start book ahead steps row paths o begins run all row_is paths_are represents =
    let d = opened book.site.layout.nofollow ahead row in
    let r = represents book.site.layout.nofollow in
    let time = r.time in
    let now : o.clock ≡ 0 = time in
    let vehicles : o.vehicles ≡ map (λ _. idle) row = r.vehicles in
    let size-now : length o.vehicles ≡ length row = ap (λ (vs : List Vehicle). length vs) vehicles ∙ length-map row (λ _. idle) in
    let size-first : length (places book.opening) ≡ length book.opening.paths = size book.opening in
    let size-same : length row ≡ length (places book.opening) = ap (λ (cs : List Cell). length cs) row_is in
    let seats = begins.sound.seats.paths in
    let reached : IsReached book.site book.history book.state = record { opening = book.opening; is_beginning = begins; run = run } in
    let seats-now = (sound-reached book.site book.history book.state reached).seats.paths in
    record {
      state = book.opening;
      drive = d;
      rest = run;
      paths_are = paths_are;
      happened = record {
        happenings = [];
        all = ap (λ (cs : List Cell). fleet-of book.opening (opened book.site.layout.nofollow ahead cs)) row_is;
        entries_are = refl;
      };
      represents = r;
      time = omega arith;
      stand = record {
        all = omega arith;
        each = λ agent h.
            let within : agent < length row = omega arith in
            let none : min (slice_index steps agent) o.clock ≡ 0 = omega arith in
            ap (λ (vs : List Vehicle). vehicle_in vs agent) vehicles ∙ get_or-map (λ (_ : Cell). idle) row agent origin idle within
            ∙ ap (λ n. record { reached = n; told = n }) (sym none);
      };
    }

pub walked-still : (book : Seen) (ahead : ℕ) (steps : List ℕ) (before : List Entry) (entry : Entry) (after : List Entry) (paths new : List (List Cell)) (o : Order) →
    Walked book ahead steps before (entry ∷ after) paths o → new ≡ paths_after entry.reply entry.event paths → is_clock entry.reply ≡ false →
    Walked book ahead steps (before ++ entry ∷ []) after new o
walked-still book ahead steps before entry after paths new o w is quiet =
    let next = w.rest.0 in
    let s = still book.site w.state entry.reply entry.event next w.rest.1 quiet in
    record {
      state = next;
      drive = w.drive;
      rest = w.rest.2;
      paths_are = is ∙ ap (paths_after entry.reply entry.event) w.paths_are ∙ s.paths;
      happened = happened-entry book ahead before (record { state = w.state; drive = w.drive }) entry (record { state = next; drive = w.drive }) w.happened w.rest.1 (s.plan w.drive);
      represents = w.represents;
      time = w.time ∙ sym s.clock;
      stand = w.stand;
    }

-- a tick is due, and the vehicles' plan may go on to its row
pub record Due (book : Seen) (ahead : ℕ) (before : List Entry) (entry : Entry) (after : List Entry) (row : List Cell) (new : List (List Cell)) (o : Order) (drive : Drive) : Type 0 where
  pub state : State
  pub rest : Run book.site state after book.state
  pub paths_are : new ≡ state.paths
  pub happened : MayHaveHappened book ahead (before ++ entry ∷ []) (record { state = state; drive = ticked row drive })
  pub time : clock drive + 1 + book.opening.clock ≡ state.clock
  pub may : MayTick drive row
  pub rule : drive.nofollow ≡ book.site.layout.nofollow
  pub fits : o.clock + 1 < 2 ^ 64
  pub all : length row ≡ length o.vehicles

pub due : (book : Seen) (ahead : ℕ) (steps : List ℕ) (before : List Entry) (entry : Entry) (after : List Entry) (paths new : List (List Cell)) (row : List Cell) (o : Order) →
    IsBeginning book.site book.opening → 1 ≤ ahead → (w : Walked book ahead steps before (entry ∷ after) paths o) → new ≡ paths_after entry.reply entry.event paths →
    is_clock entry.reply ≡ true → row ≡ map (λ (path : List Cell). at path 0) new → Due book ahead before entry after row new o w.drive
due book ahead steps before entry after paths new row o begins some w new_is ticks row_is =
    let next = w.rest.0 in
    let s = on book.site w.state entry.reply entry.event next w.rest.1 ticks in
    let carried = carried-out book ahead before (record { state = w.state; drive = w.drive }) begins some w.happened in
    let new_are : new ≡ next.paths = new_is ∙ ap (paths_after entry.reply entry.event) w.paths_are ∙ s.paths in
    let there : row ≡ places next = row_is ∙ ap (map (λ (path : List Cell). at path 0)) new_are in
    let may = each_step_may_be_taken book.site before w.state entry next w.drive carried.state w.rest.1 carried.come in
    let most : w.state.clock ≤ 1000000000 = (sound-reached book.site before w.state carried.state).clock_fits in
    let time = w.time in
    let now = w.represents.time in
    let here : MayTick w.drive row = subst (λ (cs : List Cell). MayTick w.drive cs) (sym there) may in
    let on_time = s.clock in
    record {
      state = next;
      rest = w.rest.2;
      paths_are = new_are;
      happened = happened-entry book ahead before (record { state = w.state; drive = w.drive }) entry (record { state = next; drive = ticked row w.drive }) w.happened w.rest.1
          (ap (λ (cs : List Cell). ticked cs w.drive) there ∙ s.plan w.drive);
      time = omega arith;
      may = here;
      rule = carried.come.rule;
      fits = omega arith;
      all = here.all ∙ sym (ap (λ (vs : List Vehicle). length vs) w.represents.vehicles);
    }

pub walked-tick : (book : Seen) (ahead : ℕ) (steps : List ℕ) (before : List Entry) (entry : Entry) (after : List Entry) (paths new : List (List Cell)) (row : List Cell) (o then : Order) →
    (w : Walked book ahead steps before (entry ∷ after) paths o) → Due book ahead before entry after row new o w.drive → GoesOn (ticked row w.drive) then →
    then.clock ≡ o.clock + 1 → StandBy then.clock steps then.vehicles → Walked book ahead steps (before ++ entry ∷ []) after new then
walked-tick book ahead steps before entry after paths new row o then w d goes clock-on stand =
    let now = w.represents.time in
    let later = goes.represents.time in
    let time = d.time in
    record {
      state = d.state;
      drive = goes.end;
      rest = d.rest;
      paths_are = d.paths_are;
      happened = happened-alone book ahead (before ++ entry ∷ []) d.state (ticked row w.drive) goes.end d.happened
          (alone book.site d.state (ticked row w.drive) goes.events goes.end goes.only goes.run);
      represents = goes.represents;
      time = omega arith;
      stand = stand;
    }

pub walked-all : (book : Seen) (ahead : ℕ) (steps : List ℕ) (paths : List (List Cell)) (o : Order) → IsBeginning book.site book.opening →
    1 ≤ ahead → Walked book ahead steps book.history [] paths o → Stand book ahead steps o
walked-all book ahead steps paths o begins some w =
    let same : book.state ≡ w.state = w.rest in
    let happened : MayHaveHappened book ahead book.history (record { state = book.state; drive = w.drive }) =
    subst (λ (s : State). MayHaveHappened book ahead book.history (record { state = s; drive = w.drive })) (sym same) w.happened in
    record {
      drive = w.drive;
      represents = w.represents;
      happened = happened;
      carried = carried-out book ahead book.history (record { state = book.state; drive = w.drive }) begins some happened;
      time = w.time ∙ ap (λ (s : State). s.clock) (sym same);
      stand = subst (λ n. StandBy n steps w.drive.vehicles) w.represents.time (subst (λ (vs : List Vehicle). StandBy o.clock steps vs) w.represents.vehicles w.stand);
    }

pub comes-too-early : (book : Seen) (ahead : ℕ) (steps : List ℕ) (before : List Entry) (entry : Entry) (after : List Entry) (row : List Cell) (new : List (List Cell)) (o : Order) (drive : Drive) (agent : ℕ) →
    book.history ≡ before ++ entry ∷ after → Due book ahead before entry after row new o drive → IsTooEarly (ticked row drive) steps agent → ComesTooEarly book ahead steps agent
comes-too-early book ahead steps before entry after row new o drive agent parts d early = record {
  before = before ++ entry ∷ [];
  after = after;
  parts = parts ∙ sym (append_assoc before (entry ∷ []) after);
  fleet = record { state = d.state; drive = ticked row drive };
  happened = d.happened;
  early = early;
}

pub tells-fault : (book : Seen) (ahead : ℕ) (steps : List ℕ) (e : StandFault) →
    ((agent : ℕ) → e ≡ TooEarly agent → book.site.layout.nofollow ≡ true → ComesTooEarly book ahead steps agent) → TellsStandFault book ahead steps e
tells-fault book ahead steps NoMemory h = tt
tells-fault book ahead steps (TooEarly agent) h = λ rule. h agent refl rule

-- ---- by places of the history

pub walked-at : (book : Seen) (ahead : ℕ) (steps : List ℕ) (history : List Entry) (k : ℕ) (entry : Entry) (paths : List (List Cell)) (o : Order) → k < length history →
    entry ≡ get_or history k entry → Walked book ahead steps (take k history) (drop k history) paths o → Walked book ahead steps (take k history) (entry ∷ drop (k + 1) history) paths o
walked-at book ahead steps history k entry paths o lt is w =
    subst (λ (es : List Entry). Walked book ahead steps (take k history) es paths o) (drop_more history k entry lt ∙ ap (λ (e : Entry). e ∷ drop (k + 1) history) (sym is)) w

pub walked-on : (book : Seen) (ahead : ℕ) (steps : List ℕ) (history : List Entry) (k : ℕ) (entry : Entry) (paths : List (List Cell)) (o : Order) → k < length history →
    entry ≡ get_or history k entry → Walked book ahead steps (take k history ++ entry ∷ []) (drop (k + 1) history) paths o →
    Walked book ahead steps (take (k + 1) history) (drop (k + 1) history) paths o
walked-on book ahead steps history k entry paths o lt is w =
    subst (λ (es : List Entry). Walked book ahead steps es (drop (k + 1) history) paths o)
    (ap (λ (e : Entry). take k history ++ e ∷ []) is ∙ sym (take_more history k entry lt)) w

pub parts-at : (history : List Entry) (k : ℕ) (entry : Entry) → k < length history → entry ≡ get_or history k entry → history ≡ take k history ++ entry ∷ drop (k + 1) history
parts-at history k entry lt is =
    sym (take-append-drop k history) ∙ ap (λ (es : List Entry). take k history ++ es) (drop_more history k entry lt ∙ ap (λ (e : Entry). e ∷ drop (k + 1) history) (sym is))

pub walked-end : (book : Seen) (ahead : ℕ) (steps : List ℕ) (history : List Entry) (k : ℕ) (paths : List (List Cell)) (o : Order) → history ≡ book.history → length history ≤ k →
    Walked book ahead steps (take k history) (drop k history) paths o → Walked book ahead steps book.history [] paths o
walked-end book ahead steps history k paths o same le w =
    subst (λ (es : List Entry). Walked book ahead steps es [] paths o) (take_all k history le ∙ same)
    (subst (λ (es : List Entry). Walked book ahead steps (take k history) es paths o) (drop_all k history le) w)

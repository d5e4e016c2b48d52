-- each run of the warehouse is a plan
use Rattle.std.proofs.Common.{◌≡◌, ◌≢◌, ℕ, ◌+◌, ◌-◌, ◌<◌, ◌∙◌, List, [], ◌∷◌, ◌++◌, length, sym, subst, refl, ap, arith}
use Rattle.std.specs.List.{AllPairs}
use Rattle.std.proofs.lemmas.List.{length-map, length-set, length_push, get_or-map, get_or_default, get_or_push, same_lists, append-nil, append_assoc}
use Rattle.wh_grid.specs.declared.cell.Cell.{Cell}
use Rattle.wh_grid.specs.Grids.{IsMove}
use Rattle.wh_path.specs.Paths.{at, cell_at, place_of}
use Rattle.wh_path.proofs.AtLemmas.{origin}
use Rattle.wh_points.specs.Points.{Site}
use Rattle.wh_event.specs.declared.entry.Entry.{Entry}
use Rattle.wh_event.specs.declared.event.Event.{Event}
use Rattle.wh_event.specs.declared.event.Spare.{Spare}
use Rattle.wh_event.specs.declared.reply.Reply.{Reply}
use Rattle.wh_core.specs.States.{State}
use Rattle.wh_core.specs.Steps.{Answers, Step as StepOfState}
use Rattle.wh_core.specs.Laws.{IsReached as IsReachedState}
use Rattle.wh_core.proofs.StepKinds.{run-join}
use Rattle.wh_core.proofs.Sound.{sound-reached}
use Rattle.wh_core.proofs.Traffic.{none_share, none_follow, each_step_moves, only_ticks_move}
use Rattle.wh_drive.specs.Drives.{Drive, clock, planned, started, arrived, ticked, opened}
use Rattle.wh_drive.specs.Runs.{Start, Arrive, Tick, Run as RunOfDrive, Step as StepOfDrive, Event as EventOfVehicles, IsReached as IsReachedDrive}
use Rattle.wh_drive.proofs.Vehicles.{idle}
use Rattle.wh_vehicles.specs.Plans.{places, HasComeTo, EachStepMayBeTaken, Happening, Done, Goes, Comes, taken, Fleet, AllHappen, IsOpening, entries_of, IsCarriedOut, EachRunIsAPlan, row_of, rows_of, RowsAreTheTicks}

pub size : (s : State) → length (places s) ≡ length s.paths
size s = length-map s.paths (λ path. at path 0)

-- the cell at an agent's place is where the agent is
pub at-place : (s : State) (i : ℕ) → i < length s.paths → cell_at (places s) i ≡ place_of s.paths i
at-place s i h = get_or-map (λ path. at path 0) s.paths i [] origin h

-- the run that has led to the state, and one step more
next-reached : (site : Site) (entries : List Entry) (old : State) (entry : Entry) (new : State) → IsReachedState site entries old → StepOfState site old entry new →
    IsReachedState site (entries ++ entry ∷ []) new
next-reached site entries old entry new r step = record {
  opening = r.opening;
  is_beginning = r.is_beginning;
  run = run-join site r.opening entries old (entry ∷ []) new r.run (new, step, refl);
}

pub each_step_may_be_taken : EachStepMayBeTaken
each_step_may_be_taken site entries old entry new d r step come =
    let next = next-reached site entries old entry new r step in
    let before = (sound-reached site entries old r).seats.paths in
    let after = (sound-reached site (entries ++ entry ∷ []) new next).seats.paths in
    let same : length new.paths ≡ length old.paths = after ∙ sym before in
    let all = come.all in
    let cells = size new in
    let was = size old in
    let now : (i : ℕ) → i < length old.paths → planned d i (clock d) ≡ place_of old.paths i = λ i h.
    ap (λ (row : List Cell). cell_at row i) come.now ∙ at-place old i h in
    let then : (i : ℕ) → i < length new.paths → cell_at (places new) i ≡ place_of new.paths i = at-place new in
    record {
      all = omega arith;
      differ = λ i j a below within e.
          let l : j < length new.paths = omega arith in
          let l' : i < length new.paths = omega arith in
          none_share site (entries ++ entry ∷ []) new i j next (record { first = l'; second = l; differ = λ s. omega arith })
          (sym (then i l') ∙ get_or_default (places new) i origin a (omega arith) ∙ e ∙ get_or_default (places new) j a origin within ∙ then j l);
      moves = λ i h.
          let l : i < length old.paths = omega arith in
          let l' : i < length new.paths = omega arith in
          subst (λ c. IsMove c (cell_at (places new) i)) (sym (now i l))
          (subst (IsMove (place_of old.paths i)) (sym (then i l')) (each_step_moves site entries old entry new i r step l).0);
      no_follow = λ rule i j hi hj ne e.
          let li : i < length old.paths = omega arith in
          let lj : j < length old.paths = omega arith in
          let li' : i < length new.paths = omega arith in
          none_follow site entries old entry new i j (sym come.rule ∙ rule) r step (record { first = li; second = lj; differ = ne })
          (sym (then i li') ∙ e ∙ now j lj);
    }

-- the same state at the same places
same-places : (old new : State) → length new.paths ≡ length old.paths → ((i : ℕ) → i < length old.paths → place_of new.paths i ≡ place_of old.paths i) →
    places new ≡ places old
same-places old new count same =
    let cells = size new in
    let was = size old in
    same_lists (places new) (places old) (omega arith) (λ k d h.
    let l : k < length new.paths = omega arith in
    let l' : k < length old.paths = omega arith in
    get_or_default (places new) k d origin (omega arith) ∙ at-place new k l ∙ same k l' ∙ sym (at-place old k l') ∙ get_or_default (places old) k origin d (omega arith))

-- where the reply tells no clock, all agents stay where they are
abbrev pub IsNoClock : Reply → Type 0
IsNoClock (Reply.Clock now first last) = ⊥
IsNoClock reply = Unit {0}

still : (site : Site) (old : State) (reply : Reply) (event : Event) (new : State) → Answers site old reply event new → IsNoClock reply →
    (i : ℕ) → i < length old.paths → place_of new.paths i ≡ place_of old.paths i
still site old (Reply.Refused refusal) event new step quiet i h = ap (λ (s : State). place_of s.paths i) step.1
still site old (Reply.Accepted n) (Event.Submit client stops) new step quiet i h =
    only_ticks_move site old (record { caller = 0; event = Event.Submit client stops; reply = Reply.Accepted n }) new i step (λ e. cc) h
still site old (Reply.Took n path) (Event.Request agent) new step quiet i h =
    only_ticks_move site old (record { caller = 0; event = Event.Request agent; reply = Reply.Took n path }) new i step (λ e. cc) h
still site old Reply.Rested (Event.Request agent) new step quiet i h = ap (λ (s : State). place_of s.paths i) step.3
still site old (Reply.Parked point path) (Event.Request agent) new step quiet i h =
    only_ticks_move site old (record { caller = 0; event = Event.Request agent; reply = Reply.Parked point path }) new i step (λ e. cc) h
still site old (Reply.Replaced slots) (Event.Replace agent (Spare.Fits count)) new step quiet i h = ap (λ (s : State). place_of s.paths i) step.2
still site old Reply.Closed Event.Close new step quiet i h = ap (λ (s : State). place_of s.paths i) step.1
still site old (Reply.Clock now first last) Event.Tick new step quiet i h = absurd quiet
still site old reply event new step quiet i h = absurd step

run-then : (old : Drive) (events : List EventOfVehicles) (mid : Drive) (event : EventOfVehicles) (new : Drive) → RunOfDrive old events mid → StepOfDrive mid event new →
    RunOfDrive old (events ++ event ∷ []) new
run-then old [] mid event new run step = (new, subst (λ d. StepOfDrive d event new) run step, refl)
run-then old (first ∷ events) mid event new run step = (run.0, run.1, run-then run.0 events mid event new run.2 step)

driven : (events : List EventOfVehicles) (old : Drive) (event : EventOfVehicles) (new : Drive) → IsReachedDrive events old → StepOfDrive old event new →
    IsReachedDrive (events ++ event ∷ []) new
driven events old event new r step = record { opening = r.opening; is_opening = r.is_opening; run = run-then r.opening events old event new r.run step }

-- an entry that is no tick that was made leaves the plan
carried-still : (site : Site) (before : List Entry) (old : Fleet) (entry : Entry) (new : Fleet) → IsCarriedOut site before old → StepOfState site old.state entry new.state →
    IsNoClock entry.reply → new.drive ≡ old.drive → IsCarriedOut site (before ++ entry ∷ []) new
carried-still site before old entry new r step quiet same =
    let next = next-reached site before old.state entry new.state r.state step in
    let count : length new.state.paths ≡ length old.state.paths =
    (sound-reached site (before ++ entry ∷ []) new.state next).seats.paths ∙ sym (sound-reached site before old.state r.state).seats.paths in
    let here = same-places old.state new.state count (still site old.state entry.reply entry.event new.state step quiet) in
    record {
      state = next;
      events = r.events;
      drive = subst (λ d. IsReachedDrive r.events d) (sym same) r.drive;
      come = subst (λ d. HasComeTo site d new.state) (sym same) (record {
        rule = r.come.rule;
        all = r.come.all ∙ sym count;
        now = r.come.now ∙ sym here;
      });
    }

carried-tick : (site : Site) (before : List Entry) (old : Fleet) (entry : Entry) (new : Fleet) → IsCarriedOut site before old → StepOfState site old.state entry new.state →
    new.drive ≡ ticked (places new.state) old.drive → IsCarriedOut site (before ++ entry ∷ []) new
carried-tick site before old entry new r step same =
    let next = next-reached site before old.state entry new.state r.state step in
    let cells = places new.state in
    let d = old.drive in
    let count : length new.state.paths ≡ length old.state.paths =
    (sound-reached site (before ++ entry ∷ []) new.state next).seats.paths ∙ sym (sound-reached site before old.state r.state).seats.paths in
    let may = each_step_may_be_taken site before old.state entry new.state d r.state step r.come in
    let longer : length (d.rows ++ cells ∷ []) ≡ length d.rows + 1 = length_push d.rows cells in
    let last : length d.rows ≡ length (d.rows ++ cells ∷ []) - 1 = omega arith in
    let come : HasComeTo site (ticked cells d) new.state = record {
      rule = r.come.rule;
      all = r.come.all ∙ sym count;
      now = get_or_push d.rows cells [] (length (d.rows ++ cells ∷ []) - 1) last;
    } in
    record {
      state = next;
      events = r.events ++ Tick cells ∷ [];
      drive = driven r.events d (Tick cells) new.drive r.drive (may, same);
      come = subst (λ e. HasComeTo site e new.state) (sym same) come;
    }

carried-entry : (site : Site) (before : List Entry) (old : Fleet) (caller : ℕ) (event : Event) (reply : Reply) (new : Fleet) → IsCarriedOut site before old →
    Answers site old.state reply event new.state → new.drive ≡ taken reply new.state old.drive →
    IsCarriedOut site (before ++ record { caller = caller; event = event; reply = reply } ∷ []) new
carried-entry site before old caller event (Reply.Clock now first last) new r step same =
    carried-tick site before old (record { caller = caller; event = event; reply = Reply.Clock now first last }) new r step same
carried-entry site before old caller event (Reply.Refused refusal) new r step same =
    carried-still site before old (record { caller = caller; event = event; reply = Reply.Refused refusal }) new r step tt same
carried-entry site before old caller event (Reply.Accepted n) new r step same =
    carried-still site before old (record { caller = caller; event = event; reply = Reply.Accepted n }) new r step tt same
carried-entry site before old caller event (Reply.Took n path) new r step same =
    carried-still site before old (record { caller = caller; event = event; reply = Reply.Took n path }) new r step tt same
carried-entry site before old caller event Reply.Rested new r step same =
    carried-still site before old (record { caller = caller; event = event; reply = Reply.Rested }) new r step tt same
carried-entry site before old caller event (Reply.Parked point path) new r step same =
    carried-still site before old (record { caller = caller; event = event; reply = Reply.Parked point path }) new r step tt same
carried-entry site before old caller event (Reply.Replaced slots) new r step same =
    carried-still site before old (record { caller = caller; event = event; reply = Reply.Replaced slots }) new r step tt same
carried-entry site before old caller event Reply.Closed new r step same =
    carried-still site before old (record { caller = caller; event = event; reply = Reply.Closed }) new r step tt same

-- what a vehicle does leaves the warehouse, and the plan
carried-event : (site : Site) (before : List Entry) (old : Fleet) (event : EventOfVehicles) (next : Drive) (new : Fleet) → IsCarriedOut site before old →
    StepOfDrive old.drive event next → new ≡ record old { drive = next } → HasComeTo site next old.state → IsCarriedOut site before new
carried-event site before old event next new r step same come =
    subst (λ f. IsCarriedOut site before f) (sym same) (record {
      state = r.state;
      events = r.events ++ event ∷ [];
      drive = driven r.events old.drive event next r.drive step;
      come = come;
    })

pub carried : (site : Site) (before : List Entry) (old : Fleet) (happenings : List Happening) (new : Fleet) → IsCarriedOut site before old →
    AllHappen site old happenings new → IsCarriedOut site (before ++ entries_of happenings) new
carried site before old [] new r run =
    subst (λ f. IsCarriedOut site (before ++ []) f) (sym run) (subst (λ es. IsCarriedOut site es old) (sym (append-nil before)) r)
carried site before old (Done entry ∷ happenings) new r run =
    let next = carried-entry site before old entry.caller entry.event entry.reply run.0 r run.1.0 run.1.1 in
    subst (λ es. IsCarriedOut site es new) (append_assoc before (entry ∷ []) (entries_of happenings))
    (carried site (before ++ entry ∷ []) run.0 happenings new next run.2)
carried site before old (Goes agent ∷ happenings) new r run =
    let d = old.drive in
    let come : HasComeTo site (started agent d) old.state = record { rule = r.come.rule; all = length-set d.vehicles agent _ ∙ r.come.all; now = r.come.now } in
    carried site before run.0 happenings new (carried-event site before old (Start agent) (started agent d) run.0 r (run.1.0, refl) run.1.1 come) run.2
carried site before old (Comes agent step ∷ happenings) new r run =
    let d = old.drive in
    let come : HasComeTo site (arrived agent d) old.state = record { rule = r.come.rule; all = length-set d.vehicles agent _ ∙ r.come.all; now = r.come.now } in
    carried site before run.0 happenings new (carried-event site before old (Arrive agent step) (arrived agent d) run.0 r (run.1.0, refl) run.1.1 come) run.2

-- at the opening
pub carried-opening : (site : Site) (fleet : Fleet) → IsOpening site fleet → IsCarriedOut site [] fleet
carried-opening site fleet o =
    let s = fleet.state in
    let reached : IsReachedState site [] s = record { opening = s; is_beginning = o.state; run = refl } in
    let starts = places s in
    let cells = size s in
    let d = opened site.layout.nofollow o.ahead starts in
    let differ : AllPairs (λ a b. a ≢ b) starts = λ i j a below within e.
    let l : j < length s.paths = omega arith in
    let l' : i < length s.paths = omega arith in
    none_share site [] s i j reached (record { first = l'; second = l; differ = λ same. omega arith })
    (sym (at-place s i l') ∙ get_or_default starts i origin a (omega arith) ∙ e ∙ get_or_default starts j a origin within ∙ at-place s j l) in
    let come : HasComeTo site d s = record { rule = refl; all = length-map starts (λ _. idle) ∙ cells; now = refl } in
    record {
      state = reached;
      events = [];
      drive = record {
        opening = fleet.drive;
        is_opening = record { nofollow = site.layout.nofollow; ahead = o.ahead; starts = starts; some = o.some; differ = differ; is_opened = o.drive };
        run = refl;
      };
      come = subst (λ e. HasComeTo site e s) (sym o.drive) come;
    }

pub each_run_is_a_plan : EachRunIsAPlan
each_run_is_a_plan site opening happenings fleet o run = carried site [] opening happenings fleet (carried-opening site opening o) run

-- the rows grow by those of what happens
rows-taken : (reply : Reply) (s : State) (d : Drive) → (taken reply s d).rows ≡ d.rows ++ row_of reply s
rows-taken (Reply.Clock now first last) s d = refl
rows-taken (Reply.Refused refusal) s d = sym (append-nil d.rows)
rows-taken (Reply.Accepted n) s d = sym (append-nil d.rows)
rows-taken (Reply.Took n path) s d = sym (append-nil d.rows)
rows-taken Reply.Rested s d = sym (append-nil d.rows)
rows-taken (Reply.Parked point path) s d = sym (append-nil d.rows)
rows-taken (Reply.Replaced slots) s d = sym (append-nil d.rows)
rows-taken Reply.Closed s d = sym (append-nil d.rows)

pub rows_are_the_ticks : RowsAreTheTicks
rows_are_the_ticks site old [] new all = ap (λ (f : Fleet). f.drive.rows) all ∙ sym (append-nil old.drive.rows)
rows_are_the_ticks site old (Done entry ∷ happenings) new all =
    let mid = all.0 in
    let rest = rows_of site mid happenings new all.2 in
    let first : mid.drive.rows ≡ old.drive.rows ++ row_of entry.reply mid.state = ap (λ (d : Drive). d.rows) all.1.1 ∙ rows-taken entry.reply mid.state old.drive in
    rows_are_the_ticks site mid happenings new all.2 ∙ ap (λ (rows : List (List Cell)). rows ++ rest) first ∙ append_assoc old.drive.rows (row_of entry.reply mid.state) rest
rows_are_the_ticks site old (Goes agent ∷ happenings) new all =
    rows_are_the_ticks site all.0 happenings new all.2 ∙ ap (λ (f : Fleet). f.drive.rows ++ rows_of site all.0 happenings new all.2) all.1.1
rows_are_the_ticks site old (Comes agent step ∷ happenings) new all =
    rows_are_the_ticks site all.0 happenings new all.2 ∙ ap (λ (f : Fleet). f.drive.rows ++ rows_of site all.0 happenings new all.2) all.1.1

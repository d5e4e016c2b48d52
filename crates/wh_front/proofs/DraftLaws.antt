-- Drafts: which lines were read, that some front goes on from there, and that each front is read to its end.
use Rattle.std.proofs.Common.{◌≡◌, ℕ, ◌<◌, ◌≤◌, ◌+◌, Bool, true, false, cond, List, [], ◌∷◌, ◌++◌, map, length, refl, sym, ap, ◌∙◌, subst, arith, append_assoc, length-append}
use Rattle.std.proofs.Math.Dec.{ltb as nat_lt}
use Rattle.std.proofs.lemmas.Bool.{ltb-true, ltb-false}
use Rattle.std.proofs.lemmas.List.{map-append}
use Rattle.std.specs.List.{AllByRecursion}
use Rattle.wh_log.specs.Ranges.{IsClock}
use Rattle.wh_log.proofs.Fronts.{all_append}
use Rattle.wh_front.specs.declared.front.Front.{Front}
use Rattle.wh_front.specs.declared.front.Seat.{Seat}
use Rattle.wh_front.specs.declared.front.Submission.{Submission}
use Rattle.wh_front.specs.declared.line.Line.{Line}
use Rattle.wh_front.specs.declared.line.Line.TheVariants as lines
use Rattle.wh_front.specs.declared.stage.Stage.{Stage}
use Rattle.wh_front.specs.declared.stage.Stage.TheVariants as stages
use Rattle.wh_front.specs.Ranges.{BeforeFits, RulesFit, CountsFit, SeatFits, SubmissionFits, IsAgents, IsTasks, LineFits, are_told}
use Rattle.wh_front.specs.Fronts.{rules_lines, head_lines, seat_lines, task_lines, front_lines, Fits}
use Rattle.wh_front.specs.Drafts.{Draft, nothing, expects, put}

-- the lines that tell as much as was read up to a stage
abbrev pub seats_read : Draft → List Line
seats_read d = head_lines d.front ++ lines.Agents d.agents ∷ map lines.Agent d.front.seats

abbrev pub tasks_read : Draft → List Line
tasks_read d = seats_read d ++ lines.Tasks d.tasks ∷ map lines.Task d.front.tasks

abbrev pub lines_read : Stage → Draft → List Line
lines_read stages.Title d = []
lines_read stages.Before d = lines.Title ∷ []
lines_read stages.Rules d = lines.Title ∷ lines.Before d.front.before ∷ []
lines_read stages.State d = lines.Title ∷ lines.Before d.front.before ∷ lines.Rules d.front.rules ∷ []
lines_read stages.Entries d = lines.Title ∷ lines.Before d.front.before ∷ (rules_lines d.front.rules ++ lines.State d.front.clock d.front.closed d.front.kind ∷ [])
lines_read stages.Agents d = head_lines d.front
lines_read stages.Seats d = seats_read d
lines_read stages.Tasks d = seats_read d
lines_read stages.Submissions d = tasks_read d
lines_read stages.Begin d = tasks_read d
lines_read stages.Done d = tasks_read d ++ lines.Begin ∷ []

-- neither agents nor tasks were read
pub record IsFresh (d : Draft) : Type 0 where
  pub seats : d.front.seats ≡ []
  pub tasks : d.front.tasks ≡ []
  pub none : d.tasks ≡ 0

-- what holds at a stage
abbrev pub StandsAt : Stage → Draft → Type 0
StandsAt stages.Title d = (are_told d.front.rules.homes d.front.rules.age ≡ false) × IsFresh d
StandsAt stages.Before d = (are_told d.front.rules.homes d.front.rules.age ≡ false) × IsFresh d
StandsAt stages.Rules d = (are_told d.front.rules.homes d.front.rules.age ≡ false) × IsFresh d
StandsAt stages.State d = (are_told d.front.rules.homes d.front.rules.age ≡ true) × IsFresh d
StandsAt stages.Entries d = IsFresh d
StandsAt stages.Agents d = IsFresh d
StandsAt stages.Seats d = (length d.front.seats < d.agents) × (d.front.tasks ≡ []) × (d.tasks ≡ 0)
StandsAt stages.Tasks d = (length d.front.seats ≡ d.agents) × (d.front.tasks ≡ []) × (d.tasks ≡ 0)
StandsAt stages.Submissions d = (length d.front.seats ≡ d.agents) × (length d.front.tasks < d.tasks)
StandsAt stages.Begin d = (length d.front.seats ≡ d.agents) × (length d.front.tasks ≡ d.tasks)
StandsAt stages.Done d = (length d.front.seats ≡ d.agents) × (length d.front.tasks ≡ d.tasks)

pub record PartsFit (d : Draft) : Type 0 where
  pub before : BeforeFits d.front.before
  pub rules : RulesFit d.front.rules
  pub clock : IsClock d.front.clock
  pub counts : CountsFit d.front.counts
  pub agents : IsAgents d.agents
  pub seats : AllByRecursion SeatFits d.front.seats
  pub few : IsTasks d.tasks
  pub tasks : AllByRecursion SubmissionFits d.front.tasks

-- a draft that was read from these lines
pub record IsDraft (d : Draft) (taken : List Line) : Type 0 where
  pub is : taken ≡ lines_read d.stage d
  pub stands : StandsAt d.stage d
  pub fit : PartsFit d

pub nothing_is : IsDraft nothing []
nothing_is = record {
  is = refl;
  stands = (refl, record { seats = refl; tasks = refl; none = refl });
  fit = record {
    before = tt;
    rules = tt;
    clock = omega arith;
    counts = (tt, tt);
    agents = (omega arith, omega arith);
    seats = tt;
    few = omega arith;
    tasks = tt;
  };
}

-- one more line
behind : (taken read : List Line) (line : Line) → taken ≡ read → taken ++ line ∷ [] ≡ read ++ line ∷ []
behind taken read line e = ap (λ (ls : List Line). ls ++ line ∷ []) e

one_seat : (head : List Line) (n : ℕ) (seats : List Seat) (seat : Seat)
    → (head ++ lines.Agents n ∷ map lines.Agent seats) ++ lines.Agent seat ∷ [] ≡ head ++ lines.Agents n ∷ map lines.Agent (seats ++ seat ∷ [])
one_seat head n seats seat =
    append_assoc head (lines.Agents n ∷ map lines.Agent seats) (lines.Agent seat ∷ [])
    ∙ ap (λ (ls : List Line). head ++ lines.Agents n ∷ ls) (sym (map-append (λ (s : Seat). lines.Agent s) seats (seat ∷ [])))

one_task : (head : List Line) (n : ℕ) (tasks : List Submission) (task : Submission)
    → (head ++ lines.Tasks n ∷ map lines.Task tasks) ++ lines.Task task ∷ [] ≡ head ++ lines.Tasks n ∷ map lines.Task (tasks ++ task ∷ [])
one_task head n tasks task =
    append_assoc head (lines.Tasks n ∷ map lines.Task tasks) (lines.Task task ∷ [])
    ∙ ap (λ (ls : List Line). head ++ lines.Tasks n ∷ ls) (sym (map-append (λ (s : Submission). lines.Task s) tasks (task ∷ [])))

abbrev pub draft : Front → ℕ → ℕ → Stage → Draft
draft f n m stage = record { front = f; agents = n; tasks = m; stage = stage }

fit_with : (f : Front) (n m : ℕ) (old new : Stage) → PartsFit (draft f n m old) → PartsFit (draft f n m new)
fit_with f n m old new h = record { before = h.before; rules = h.rules; clock = h.clock; counts = h.counts; agents = h.agents; seats = h.seats; few = h.few; tasks = h.tasks }

after_seat : (f : Front) (n m : ℕ) (seat : Seat) (taken : List Line) → IsDraft (draft f n m stages.Seats) taken → SeatFits seat
    → (v : Bool) → nat_lt (length (f.seats ++ seat ∷ [])) n ≡ v → IsDraft (draft (record f { seats = f.seats ++ seat ∷ [] }) n m (cond v stages.Seats stages.Tasks)) (taken ++ lines.Agent seat ∷ [])
after_seat f n m seat taken d h v is = go v is
  where
    longer : length (f.seats ++ seat ∷ []) ≡ length f.seats + 1
    longer = simp length-append (omega arith)

    parts : (stage : Stage) → PartsFit (draft (record f { seats = f.seats ++ seat ∷ [] }) n m stage)
    parts stage = record {
      before = d.fit.before;
      rules = d.fit.rules;
      clock = d.fit.clock;
      counts = d.fit.counts;
      agents = d.fit.agents;
      seats = all_append SeatFits f.seats (seat ∷ []) d.fit.seats (h, tt);
      few = d.fit.few;
      tasks = d.fit.tasks;
    }

    lines_are : taken ++ lines.Agent seat ∷ [] ≡ head_lines f ++ lines.Agents n ∷ map lines.Agent (f.seats ++ seat ∷ [])
    lines_are = behind taken _ (lines.Agent seat) d.is ∙ one_seat (head_lines f) n f.seats seat

    go : (v : Bool) → nat_lt (length (f.seats ++ seat ∷ [])) n ≡ v → IsDraft (draft (record f { seats = f.seats ++ seat ∷ [] }) n m (cond v stages.Seats stages.Tasks)) (taken ++ lines.Agent seat ∷ [])
    go true is = record { is = lines_are; stands = (ltb-true _ _ is, d.stands.1, d.stands.2); fit = parts stages.Seats }
    go false is = let most : n ≤ length (f.seats ++ seat ∷ []) = ltb-false _ _ is in record { is = lines_are; stands = (omega (arith, d.stands.0, longer, most), d.stands.1, d.stands.2); fit = parts stages.Tasks }

after_task : (f : Front) (n m : ℕ) (task : Submission) (taken : List Line) → IsDraft (draft f n m stages.Submissions) taken → SubmissionFits task
    → (v : Bool) → nat_lt (length (f.tasks ++ task ∷ [])) m ≡ v → IsDraft (draft (record f { tasks = f.tasks ++ task ∷ [] }) n m (cond v stages.Submissions stages.Begin)) (taken ++ lines.Task task ∷ [])
after_task f n m task taken d h v is = go v is
  where
    longer : length (f.tasks ++ task ∷ []) ≡ length f.tasks + 1
    longer = simp length-append (omega arith)

    parts : (stage : Stage) → PartsFit (draft (record f { tasks = f.tasks ++ task ∷ [] }) n m stage)
    parts stage = record {
      before = d.fit.before;
      rules = d.fit.rules;
      clock = d.fit.clock;
      counts = d.fit.counts;
      agents = d.fit.agents;
      seats = d.fit.seats;
      few = d.fit.few;
      tasks = all_append SubmissionFits f.tasks (task ∷ []) d.fit.tasks (h, tt);
    }

    lines_are : taken ++ lines.Task task ∷ [] ≡ (head_lines f ++ lines.Agents n ∷ map lines.Agent f.seats) ++ lines.Tasks m ∷ map lines.Task (f.tasks ++ task ∷ [])
    lines_are = behind taken _ (lines.Task task) d.is ∙ one_task (head_lines f ++ lines.Agents n ∷ map lines.Agent f.seats) m f.tasks task

    go : (v : Bool) → nat_lt (length (f.tasks ++ task ∷ [])) m ≡ v → IsDraft (draft (record f { tasks = f.tasks ++ task ∷ [] }) n m (cond v stages.Submissions stages.Begin)) (taken ++ lines.Task task ∷ [])
    go true is = record { is = lines_are; stands = (d.stands.0, ltb-true _ _ is); fit = parts stages.Submissions }
    go false is = let most : m ≤ length (f.tasks ++ task ∷ []) = ltb-false _ _ is in record { is = lines_are; stands = (d.stands.0, omega (arith, d.stands.1, longer, most)); fit = parts stages.Begin }

after_tasks : (f : Front) (n m count : ℕ) (taken : List Line) → IsDraft (draft f n m stages.Tasks) taken → IsTasks count
    → (v : Bool) → nat_lt 0 count ≡ v → IsDraft (draft f n count (cond v stages.Submissions stages.Begin)) (taken ++ lines.Tasks count ∷ [])
after_tasks f n m count taken d h v is = go v is
  where
    parts : (stage : Stage) → PartsFit (draft f n count stage)
    parts stage = record { before = d.fit.before; rules = d.fit.rules; clock = d.fit.clock; counts = d.fit.counts; agents = d.fit.agents; seats = d.fit.seats; few = h; tasks = d.fit.tasks }

    none : length f.tasks ≡ 0
    none = ap (λ (ts : List Submission). length ts) d.stands.1

    lines_are : taken ++ lines.Tasks count ∷ [] ≡ (head_lines f ++ lines.Agents n ∷ map lines.Agent f.seats) ++ lines.Tasks count ∷ map lines.Task f.tasks
    lines_are = behind taken _ (lines.Tasks count) d.is ∙ ap (λ (ts : List Submission). (head_lines f ++ lines.Agents n ∷ map lines.Agent f.seats) ++ lines.Tasks count ∷ map lines.Task ts) (sym d.stands.1)

    go : (v : Bool) → nat_lt 0 count ≡ v → IsDraft (draft f n count (cond v stages.Submissions stages.Begin)) (taken ++ lines.Tasks count ∷ [])
    go true is = let some : 0 < count = ltb-true _ _ is in record { is = lines_are; stands = (d.stands.0, omega (arith, none, some)); fit = parts stages.Submissions }
    go false is = let most : count ≤ 0 = ltb-false _ _ is in record { is = lines_are; stands = (d.stands.0, omega (arith, none, most)); fit = parts stages.Begin }

after_state : (f : Front) (n m clock : ℕ) (closed : Bool) (kind : _) (taken : List Line) → IsFresh (draft f n m stages.Rules) → PartsFit (draft f n m stages.Rules) → IsClock clock
    → taken ≡ lines.Title ∷ lines.Before f.before ∷ rules_lines f.rules → IsDraft (draft (record f { clock = clock; closed = closed; kind = kind }) n m stages.Entries) (taken ++ lines.State clock closed kind ∷ [])
after_state f n m clock closed kind taken fresh h c is = record {
  is = behind taken _ (lines.State clock closed kind) is;
  stands = record { seats = fresh.seats; tasks = fresh.tasks; none = fresh.none };
  fit = record { before = h.before; rules = h.rules; clock = c; counts = h.counts; agents = h.agents; seats = h.seats; few = h.few; tasks = h.tasks };
}

stays : (f : Front) (n m : ℕ) (stage : Stage) (line : Line) (taken : List Line) → IsDraft (draft f n m stage) taken → LineFits line → expects stage line ≡ true → IsDraft (put (draft f n m stage) line) (taken ++ line ∷ [])
stays f n m stages.Title lines.Title taken d h may = record { is = behind taken _ lines.Title d.is; stands = (d.stands.0, record { seats = d.stands.1.seats; tasks = d.stands.1.tasks; none = d.stands.1.none }); fit = fit_with f n m _ _ d.fit }
stays f n m stages.Before (lines.Before before) taken d h may = record {
  is = behind taken _ (lines.Before before) d.is;
  stands = (d.stands.0, record { seats = d.stands.1.seats; tasks = d.stands.1.tasks; none = d.stands.1.none });
  fit = record { before = h; rules = d.fit.rules; clock = d.fit.clock; counts = d.fit.counts; agents = d.fit.agents; seats = d.fit.seats; few = d.fit.few; tasks = d.fit.tasks };
}
stays f n m stages.Rules (lines.Rules rules) taken d h may = record {
  is = behind taken _ (lines.Rules rules) d.is;
  stands = (h.1, record { seats = d.stands.1.seats; tasks = d.stands.1.tasks; none = d.stands.1.none });
  fit = record { before = d.fit.before; rules = h.0; clock = d.fit.clock; counts = d.fit.counts; agents = d.fit.agents; seats = d.fit.seats; few = d.fit.few; tasks = d.fit.tasks };
}
stays f n m stages.Rules (lines.State clock closed kind) taken d h may =
    after_state f n m clock closed kind taken d.stands.1 d.fit h
    (d.is ∙ ap (λ (v : Bool). lines.Title ∷ lines.Before f.before ∷ cond v (lines.Rules f.rules ∷ []) []) (sym d.stands.0))
stays f n m stages.State (lines.State clock closed kind) taken d h may =
    after_state f n m clock closed kind taken (record { seats = d.stands.1.seats; tasks = d.stands.1.tasks; none = d.stands.1.none }) (fit_with f n m _ _ d.fit) h
    (d.is ∙ ap (λ (v : Bool). lines.Title ∷ lines.Before f.before ∷ cond v (lines.Rules f.rules ∷ []) []) (sym d.stands.0))
stays f n m stages.Entries (lines.Entries counts) taken d h may = record {
  is = behind taken _ (lines.Entries counts) d.is ∙ ap (λ (ls : List Line). lines.Title ∷ lines.Before f.before ∷ ls) (append_assoc (rules_lines f.rules) (lines.State f.clock f.closed f.kind ∷ []) (lines.Entries counts ∷ []));
  stands = record { seats = d.stands.seats; tasks = d.stands.tasks; none = d.stands.none };
  fit = record { before = d.fit.before; rules = d.fit.rules; clock = d.fit.clock; counts = h; agents = d.fit.agents; seats = d.fit.seats; few = d.fit.few; tasks = d.fit.tasks };
}
stays f n m stages.Agents (lines.Agents count) taken d h may =
    let none : length f.seats ≡ 0 = ap (λ (ss : List Seat). length ss) d.stands.seats in
    record {
      is = behind taken _ (lines.Agents count) d.is ∙ ap (λ (ss : List Seat). head_lines f ++ lines.Agents count ∷ map lines.Agent ss) (sym d.stands.seats);
      stands = (omega (arith, none, h.0), d.stands.tasks, d.stands.none);
      fit = record { before = d.fit.before; rules = d.fit.rules; clock = d.fit.clock; counts = d.fit.counts; agents = h; seats = d.fit.seats; few = d.fit.few; tasks = d.fit.tasks };
    }
stays f n m stages.Seats (lines.Agent seat) taken d h may = after_seat f n m seat taken d h _ refl
stays f n m stages.Tasks (lines.Tasks count) taken d h may = after_tasks f n m count taken d h _ refl
stays f n m stages.Submissions (lines.Task task) taken d h may = after_task f n m task taken d h _ refl
stays f n m stages.Begin lines.Begin taken d h may = record { is = behind taken _ lines.Begin d.is; stands = d.stands; fit = fit_with f n m _ _ d.fit }
stays f n m stage line taken d h may = absurd cc

pub draft_stays : (d : Draft) (line : Line) (taken : List Line) → IsDraft d taken → LineFits line → expects d.stage line ≡ true → IsDraft (put d line) (taken ++ line ∷ [])
draft_stays d line taken h fits may = stays d.front d.agents d.tasks d.stage line taken h fits may

-- ---- the end
-- the lines of a front, from the end on
abbrev pub rest_of : Front → List Line
rest_of f = seat_lines f.seats ++ (task_lines f.tasks ++ lines.Begin ∷ [])

pub nested : (f : Front) → front_lines f ≡ head_lines f ++ rest_of f
nested f = append_assoc (head_lines f ++ seat_lines f.seats) (task_lines f.tasks) (lines.Begin ∷ []) ∙ append_assoc (head_lines f) (seat_lines f.seats) (task_lines f.tasks ++ lines.Begin ∷ [])

pub done_is : (d : Draft) (taken : List Line) → IsDraft d taken → d.stage ≡ stages.Done → (taken ≡ front_lines d.front) × Fits d.front
done_is d taken h done = go d.front d.agents d.tasks d.stage taken h done
  where
    go : (f : Front) (n m : ℕ) (stage : Stage) (taken : List Line) → IsDraft (draft f n m stage) taken → stage ≡ stages.Done → (taken ≡ front_lines f) × Fits f
    go f n m stage taken h done =
        let d : IsDraft (draft f n m stages.Done) taken = subst (λ (s : Stage). IsDraft (draft f n m s) taken) done h in
        let same : taken ≡ ((head_lines f ++ lines.Agents (length f.seats) ∷ map lines.Agent f.seats) ++ lines.Tasks (length f.tasks) ∷ map lines.Task f.tasks) ++ lines.Begin ∷ [] = rw (d.stands.0, d.stands.1) d.is in (
          same,
          record {
            before = d.fit.before;
            rules = d.fit.rules;
            clock = d.fit.clock;
            counts = d.fit.counts;
            agents = subst IsAgents (sym d.stands.0) d.fit.agents;
            seats = d.fit.seats;
            few = subst IsTasks (sym d.stands.1) d.fit.few;
            tasks = d.fit.tasks;
          },
        )

-- the front of a state as vehicles have left it
use Rattle.std.proofs.Common.{◌≡◌, ◌++◌, ◌∷◌, ◌∙◌, ◌<◌, ℕ, List, [], map, take, length, sym, ap, subst, arith}
use Rattle.std.specs.Prelude.{None}
use Rattle.std.proofs.lemmas.List.{append-nil, get_or-map, length-map, take_all}
use Rattle.std.proofs.lemmas.Simd.{map-map}
use Rattle.wh_grid.specs.declared.cell.Cell.{Cell}
use Rattle.wh_grid.specs.Grids.{Floor, IsPassable}
use Rattle.wh_path.specs.Paths.{at, cell_at, path_of, place_of}
use Rattle.wh_path.proofs.AtLemmas.{at-one}
use Rattle.wh_points.specs.Points.{Layout, Site}
use Rattle.wh_tasks.specs.declared.task.Task.{Task}
use Rattle.wh_core.specs.States.{State}
use Rattle.wh_core.specs.Steps.{Run}
use Rattle.wh_core.specs.Laws.{IsBeginning}
use Rattle.wh_core.specs.Stopping.{Stand}
use Rattle.wh_core.proofs.Sound.{sound-reached}
use Rattle.wh_event.specs.declared.entry.Entry.{Entry}
use Rattle.wh_front.specs.declared.front.Front.{Front}
use Rattle.wh_front.specs.declared.front.Seat.{Seat}
use Rattle.wh_front.specs.declared.front.Submission.{Submission}
use Rattle.wh_front.specs.Fronts.{Fits, front_text}
use Rattle.wh_front.specs.declared.rules.Rules.{Rules}
use Rattle.wh_front.proofs.Readings.{one_front}
use Rattle.wh_restore.specs.SoundFronts.{IsSoundFront, site_of, state_told}
use Rattle.wh_restore.specs.FirstFlawed.{IsFirstFlawed}
use Rattle.wh_restore.specs.declared.reason.Reason.{Reason}
use Rattle.wh_resume.specs.Behind.{rules_of}
use Rattle.wh_snapshot.specs.Snapshots.{counts_told, submitters, told_parts}
use Rattle.wh_handover.specs.Handing.{IsHandover, before_after}
use Rattle.wh_handover.specs.Standing.{HoldsSound, IsStoppedFront}
use Rattle.wh_handover.specs.Stopped.{StopsFront, stopped_submission, stopped_task}

-- each agent has its path
as_agents : (site : Site) (opening : State) (entries : List Entry) (state : State) → IsBeginning site opening → Run site opening entries state → length state.paths ≡ length site.layout.agents
as_agents site opening entries state begins run = (sound-reached site entries state (record { opening = opening; is_beginning = begins; run = run })).seats.paths

-- a front of the state after some entries has as many agents as that after all
pub seats_told : (site : Site) (text : List ℕ) (front : Front) (opening : State) (entries : List Entry) (state : State) → IsHandover site text None front → IsBeginning site opening → Run site opening entries state →
    length front.seats ≡ length state.paths
seats_told site text front opening entries state h begins run =
    let there = as_agents site h.told.opening (take h.count h.told.entries) h.state h.tells.begins h.run in
    sym (length-map front.seats (λ (seat : Seat). seat.path)) ∙ ap length h.is.paths ∙ there ∙ sym (as_agents site opening entries state begins run)

module _ (site : Site) (text : List ℕ) (places : List Cell) (steps : List ℕ) (first : ℕ) (whole front : Front) (h : IsHandover site text None whole) (stops : StopsFront first places steps whole front) where
  -- all entries count
  all : take h.count h.told.entries ≡ h.told.entries
  all = take_all h.count h.told.entries (let many = h.count_is in omega (arith, many))

  tasks_are : first ≡ h.told.opening.clock → (told_parts front).tasks ≡ map (stopped_task h.told.opening.clock steps) h.state.tasks
  tasks_are began =
      ap (λ (ts : List Submission). map (λ (s : Submission). s.task) ts) stops.tasks
      ∙ map-map (λ (s : Submission). s.task) (stopped_submission first steps) whole.tasks
      ∙ sym (map-map (stopped_task first steps) (λ (s : Submission). s.task) whole.tasks)
      ∙ ap (λ (ts : List Task). map (stopped_task first steps) ts) h.is.tasks
      ∙ ap (λ n. map (stopped_task n steps) h.state.tasks) began

  callers_are : map (λ (s : Submission). s.caller) front.tasks ≡ h.told.callers ++ submitters h.told.entries
  callers_are =
      ap (λ (ts : List Submission). map (λ (s : Submission). s.caller) ts) stops.tasks
      ∙ map-map (λ (s : Submission). s.caller) (stopped_submission first steps) whole.tasks
      ∙ h.is.callers
      ∙ ap (λ (es : List Entry). h.told.callers ++ submitters es) all

  pub stopped_is : first ≡ h.told.opening.clock → Fits front → IsStoppedFront site text places steps front
  stopped_is began fits = record {
    told = h.told;
    tells = h.tells;
    state = h.state;
    run = subst (λ (es : List Entry). Run site h.told.opening es h.state) all h.run;
    clock = stops.clock ∙ h.is.clock;
    closed = stops.closed ∙ h.is.closed;
    paths = stops.paths;
    slots = stops.slots ∙ h.is.slots;
    tasks = tasks_are began;
    callers = callers_are;
    counts = stops.counts ∙ h.is.counts ∙ ap (λ (es : List Entry). counts_told h.told.counts es) all;
    before_is = stops.before ∙ h.before_is ∙ ap (λ n. before_after n h.told) h.count_is;
    rules_are = stops.rules ∙ h.rules_are;
    kind_is = stops.kind;
    fits = fits;
  }

-- a front of a sound state that its text holds is this
pub sound_is : (site : Site) (front : Front) (told : List ℕ) → Fits front → told ≡ front_text front → HoldsSound site told → IsBeginning site (state_told front)
sound_is site front told fits is holds =
    let one = one_front holds.0 front holds.1 [] holds.2.fits fits (sym holds.3 ∙ is ∙ sym (append-nil (front_text front))) in
    subst (λ (f : Front). IsBeginning site (state_told f)) one.0 holds.2.beginning

-- a front over the same grid, points and rules
pub holds_sound : (site : Site) (grid : Floor) (layout : Layout) (rules : Rules) (text : List ℕ) (front : Front) (rest : List ℕ) → grid ≡ site.grid → layout ≡ site.layout → rules ≡ rules_of site →
    IsSoundFront (site_of grid layout rules) rules front → text ≡ front_text front ++ rest → HoldsSound site text
holds_sound site grid layout rules text front rest over by are sound is =
    let here = subst (λ (g : Floor). IsSoundFront (site_of g layout rules) rules front) over sound in
    let there = subst (λ (l : Layout). IsSoundFront (site_of site.grid l rules) rules front) by here in
    (front, rest, subst (λ (r : Rules). IsSoundFront (site_of site.grid site.layout r) r front) are there, is)

pub is_unsound : (site : Site) (grid : Floor) (layout : Layout) (rules : Rules) (text : List ℕ) (line : ℕ) (reason : Reason) → grid ≡ site.grid → layout ≡ site.layout → rules ≡ rules_of site →
    IsFirstFlawed (site_of grid layout rules) rules text line reason → IsFirstFlawed site (rules_of site) text line reason
is_unsound site grid layout rules text line reason over by are flawed =
    let here = subst (λ (g : Floor). IsFirstFlawed (site_of g layout rules) rules text line reason) over flawed in
    let there = subst (λ (l : Layout). IsFirstFlawed (site_of site.grid l rules) rules text line reason) by here in
    subst (λ (r : Rules). IsFirstFlawed (site_of site.grid site.layout r) r text line reason) are there

-- in a sound state of agents at rest each is at a passable cell, and no two at one
pub stand_is : (site : Site) (state : State) (places : List Cell) → state.paths ≡ map (λ cell. cell ∷ []) places → IsBeginning site state → Stand site places
stand_is site state places paths begins =
    let one : Cell → List Cell = λ cell. cell ∷ [] in
    let size : length state.paths ≡ length places = ap (λ (ps : List (List Cell)). length ps) paths ∙ length-map places one in
    let path : (i : ℕ) → i < length places → path_of state.paths i ≡ cell_at places i ∷ [] = λ i h.
    ap (λ (ps : List (List Cell)). path_of ps i) paths ∙ get_or-map one places i (record { x = 0; y = 0 }) [] h in
    let here : (i : ℕ) → i < length places → place_of state.paths i ≡ cell_at places i = λ i h.
    ap (λ (p : List Cell). at p 0) (path i h) ∙ at-one (cell_at places i) 0 in
    record {
      all = sym size ∙ begins.sound.seats.paths;
      passable = λ i h. subst (λ (cell : Cell). IsPassable site.grid cell) (here i h) ((begins.sound.walks i (omega arith)).passable 0);
      apart = λ i j hi hj differ same. (begins.sound.free.pair i j (omega arith) (omega arith) differ).apart 0 (here i hi ∙ same ∙ sym (here j hj));
    }

-- parts are taken one by one exactly if they make a sound state
use Rattle.std.proofs.Common.{◌≡◌, ◌≢◌, ℕ, ◌+◌, ◌<◌, ◌≤◌, ◌∙◌, List, [], ◌∷◌, ◌++◌, Some, length, take, get_or, sym, subst, refl, ap, arith}
use Prim.Native.Nat.{zero, suc}
use Rattle.std.specs.Prelude.{slice_get}
use Rattle.std.proofs.lemmas.List.{take_more, take_all, get_or-take, length-take-le}
use Rattle.std.proofs.lemmas.Option.{slice_get_within, get_or_from_slice_get}
use Rattle.wh_path.specs.Paths.{path_of, IsFree}
use Rattle.wh_points.specs.Points.{Site}
use Rattle.wh_tasks.specs.declared.task.Task.{Task}
use Rattle.wh_tasks.specs.Tasks.{IsTask}
use Rattle.wh_core.specs.Steps.{most_tasks}
use Rattle.wh_core.specs.Laws.{IsSound}
use Rattle.wh_stand.specs.Parts.{Parts, state_of, with_agent, with_task}
use Rattle.wh_stand.specs.TaskFlaws.{IsFitTask}
use Rattle.wh_stand.specs.Flawless.{AreFlawless, IsFitAgent}
use Rattle.wh_stand.specs.Whole.{first_agents, first_tasks, AreTaken, TakenIsSound}
use Rattle.wh_stand.proofs.Adding.{flawless-begun, flawless-agent, flawless-task}
use Rattle.wh_stand.proofs.Soundness.{flawless-sound, sound-flawless, held-own, own-held}

some-at : {X : Type 0} (xs : List X) (n : ℕ) → n < length xs → (x : X) × (slice_get xs n ≡ Some x)
some-at [] n h = absurd (omega arith)
some-at (x ∷ xs) zero h = (x, refl)
some-at (x ∷ xs) (suc n) h = some-at xs n (omega arith)

-- what stands among the first so many stands there, at a lower number
taken-at : {X : Type 0} (xs : List X) (n m : ℕ) (x : X) → slice_get (take n xs) m ≡ Some x → (m < n) × (slice_get xs m ≡ Some x)
taken-at xs zero m x is = absurd (let h = slice_get_within [] m x is in omega arith)
taken-at [] (suc n) m x is = absurd (let h = slice_get_within [] m x is in omega arith)
taken-at (y ∷ xs) (suc n) zero x is = (omega arith, is)
taken-at (y ∷ xs) (suc n) (suc m) x is = (let rest = taken-at xs n m x is in (let l = rest.0 in omega arith, rest.1))

take-next : {X : Type 0} (xs : List X) (n : ℕ) (d : X) → n < length xs → take (suc n) xs ≡ take n xs ++ get_or xs n d ∷ []
take-next xs n d h = ap (λ k. take k xs) (let z : suc n ≡ n + 1 = omega arith in z) ∙ take_more xs n d h

agents-taken : (site : Site) (parts : Parts) → AreTaken site parts → (n : ℕ) → n ≤ length parts.paths → AreFlawless site (first_agents n parts)
agents-taken site parts t zero h = flawless-begun site parts.clock parts.closed t.clock_fits
agents-taken site parts t (suc n) h =
    let before = agents-taken site parts t n (omega arith) in
    let seats = t.slots in
    let within : n < length parts.paths = omega arith in
    let seated : n < length parts.slots = omega arith in
    let slots = get_or parts.slots n 0 in
    let paths_next = take-next parts.paths n [] within in
    let slots_next = take-next parts.slots n 0 seated in
    let grown : with_agent slots (path_of parts.paths n) (first_agents n parts) ≡ first_agents (suc n) parts =
    λ i. record { clock = parts.clock; closed = parts.closed; paths = sym paths_next i; slots = sym slots_next i; tasks = [] } in
    subst (λ p. AreFlawless site p) grown (flawless-agent site (first_agents n parts) slots (path_of parts.paths n) before (t.agents n within).fit)

tasks-taken : (site : Site) (parts : Parts) → AreTaken site parts → (n : ℕ) → n ≤ length parts.tasks → AreFlawless site (first_tasks n parts)
tasks-taken site parts t zero h =
    let paths = take_all (length parts.paths) parts.paths (omega arith) in
    let slots = take_all (length parts.paths) parts.slots (let e = t.slots in omega arith) in
    let whole : first_agents (length parts.paths) parts ≡ first_tasks 0 parts =
    λ i. record { clock = parts.clock; closed = parts.closed; paths = paths i; slots = slots i; tasks = [] } in
    subst (λ p. AreFlawless site p) whole (agents-taken site parts t (length parts.paths) (omega arith))
tasks-taken site parts t (suc n) h =
    let before = tasks-taken site parts t n (omega arith) in
    let within : n < length parts.tasks = omega arith in
    let there = some-at parts.tasks n within in
    let task = there.0 in
    let size : length (take n parts.tasks) ≡ n = length-take-le n parts.tasks (omega arith) in
    let room : length (take n parts.tasks) < most_tasks = (let few = t.few in omega arith) in
    let next = take-next parts.tasks n task within ∙ ap (λ u. take n parts.tasks ++ u ∷ []) (get_or_from_slice_get parts.tasks n task task there.1) in
    let grown : with_task task (first_tasks n parts) ≡ first_tasks (suc n) parts = λ i. record parts { tasks = sym next i } in
    subst (λ p. AreFlawless site p) grown (flawless-task site (first_tasks n parts) task before (t.forms n task there.1) room (t.tasks n task there.1))

taken-sound : (site : Site) (parts : Parts) → AreTaken site parts → IsSound site (state_of parts)
taken-sound site parts t =
    let tasks = take_all (length parts.tasks) parts.tasks (omega arith) in
    let whole : first_tasks (length parts.tasks) parts ≡ parts = λ i. record parts { tasks = tasks i } in
    flawless-sound site parts t.all (subst (λ p. AreFlawless site p) whole (tasks-taken site parts t (length parts.tasks) (omega arith)))

-- each agent is taken behind those before it
agent-taken : (site : Site) (parts : Parts) (n : ℕ) → AreFlawless site parts → length parts.paths ≡ length site.layout.agents → n < length parts.paths →
    IsFitAgent site (first_agents n parts) (path_of parts.paths n)
agent-taken site parts n f all h =
    let size : length (take n parts.paths) ≡ n = length-take-le n parts.paths (omega arith) in
    record {
      room = omega arith;
      fit = record {
        walk = f.walks n h;
        free = λ agent l.
            let before : agent < n = omega arith in
            let ne : n ≢ agent = λ e. (let z : agent < agent = omega arith in omega arith) in
            subst (λ q. IsFree site.layout.nofollow (path_of parts.paths n) q) (sym (get_or-take n parts.paths agent [] before)) (f.free.pair n agent h (omega arith) ne);
      };
    }

-- and each task behind those before it
task-taken : (site : Site) (parts : Parts) (n : ℕ) (task : Task) → AreFlawless site parts → IsTask parts.tasks n task → IsFitTask site.layout (first_tasks n parts) task
task-taken site parts n task f is =
    let sound = f.tasks n task is in
    let whole = state_of parts in
    record {
      stations = sound.stops.stations;
      timed = sound.timed;
      known = sound.known;
      alone = λ agent m other held own.
          let before = taken-at parts.tasks n m other own.there in
          let one = held-own whole agent n task is held in
          let two = held-own whole agent m other before.1 (own-held (state_of (first_tasks n parts)) agent m other own) in
          let same : n ≡ m = f.one agent n m task other one two in
          let less = before.0 in
          omega arith;
      away = λ agent held. f.away agent n task (held-own whole agent n task is held);
    }

sound-taken : (site : Site) (parts : Parts) → IsSound site (state_of parts) → AreTaken site parts
sound-taken site parts sound =
    let f : AreFlawless site parts = sound-flawless site (state_of parts) sound in
    record {
      clock_fits = sound.clock_fits;
      few = sound.few;
      slots = f.slots;
      all = sound.seats.paths;
      agents = λ n h. agent-taken site parts n f sound.seats.paths h;
      forms = λ n task is.
          let t = f.tasks n task is in
          record { two = t.stops.count; eight = t.stops.few; few = t.few; fresh = t.fresh };
      tasks = λ n task is. task-taken site parts n task f is;
    }

pub taken_is_sound : TakenIsSound
taken_is_sound site parts = (taken-sound site parts, sound-taken site parts)

-- where agents may stay, and when they make way
use Rattle.std.proofs.Common.{◌≡◌, ℕ, ◌⊎◌, inl, inr, Bool, true, false, refl}
use Rattle.std.specs.Prelude.{◌↔◌, IsTrue, MatchBool}
use Rattle.std.proofs.lemmas.Bool.{false≢true}
use Rattle.wh_path.specs.Paths.{end_of}
use Rattle.wh_points.specs.Points.{Site}
use Rattle.wh_tasks.specs.declared.task.Load.{Load}
use Rattle.wh_tasks.specs.declared.task.Task.{Task}
use Rattle.wh_tasks.specs.Choice.{NoneEligible}
use Rattle.wh_core.specs.States.{State, load_of}
use Rattle.wh_core.specs.Steps.{IsBerth, IsDeliveryCell, IsDue, IsNext, IsRestCell, IsShutIn, IsStray, IsWanted, MakesWay, NoneIsNext, other_ends}
use Rattle.wh_core.specs.Laws.{AllOnTheirWays}
use Rattle.wh_core.proofs.Sound.{none-halted, ways-unloaded}
use Rattle.wh_judge.specs.Judged.{IsReachable, MayStay}
use Rattle.wh_judge.proofs.Choices.{none-next}
use Rattle.wh_judge.proofs.Reachable.{is-kept}

-- where all are on their ways, who may take nothing and ends where no open task is delivered rests
pub rests-at-once : (site : Site) (s : State) (agent : ℕ) → IsReachable site s → AllOnTheirWays site s → IsDue site s agent → NoneEligible s.tasks (other_ends s agent) →
    ¬ IsDeliveryCell s (end_of s.paths agent) → NoneIsNext s agent × IsRestCell site s agent (end_of s.paths agent)
rests-at-once site s agent reached home due none off =
    let kept = is-kept site s reached in (
      (ways-unloaded site s agent kept home due, none),
      record {
        berth = (home agent due.known.known).berth;
        not_wanted = λ wanted. elim wanted.1 [
          | inl at_it ↦ off at_it
          | inr awaited ↦ none-halted site s awaited.0 awaited.1 kept home awaited.2
        ];
      },
    )

-- why an agent may not stay at rest
abbrev pub IsInTheWay : Site → State → ℕ → Type 0
IsInTheWay site s agent = IsWanted site s (end_of s.paths agent) ⊎ (¬ IsBerth site agent (end_of s.paths agent))

pub not-rest : (site : Site) (s : State) (agent : ℕ) → IsInTheWay site s agent → ¬ IsRestCell site s agent (end_of s.paths agent)
not-rest site s agent why rest = elim why [ inl wanted ↦ rest.not_wanted wanted | inr off ↦ off rest.berth ]

-- who is in the way rests not, whatever it is asked to do
pub no-rest-iff : (site : Site) (s : State) (agent : ℕ) → IsInTheWay site s agent → IsTrue false ↔ (NoneIsNext s agent × IsRestCell site s agent (end_of s.paths agent))
no-rest-iff site s agent why = (λ e. absurd (false≢true e), λ both. absurd (not-rest site s agent why both.1))

-- who is in the way makes it where it has nothing to do or is shut in
pub idle-way-iff : (site : Site) (s : State) (agent : ℕ) → IsInTheWay site s agent → NoneIsNext s agent → IsTrue true ↔ MakesWay site s agent
idle-way-iff site s agent why none = (λ e. record { no_work = inl none; in_the_way = why }, λ makes. refl)

pub shut-way-iff : (site : Site) (s : State) (agent n : ℕ) (task : Task) (b : Bool) → IsInTheWay site s agent → IsNext site s agent n task →
    (IsTrue b ↔ IsShutIn site s agent) → IsTrue b ↔ MakesWay site s agent
shut-way-iff site s agent n task b why next iff = (
  λ t. record { no_work = inr (iff.0 t); in_the_way = why },
  λ makes. elim makes.no_work [ inl none ↦ absurd (none-next site s agent n task none next) | inr shut ↦ iff.1 shut ],
)

-- a stray is no agent without a task at a berth
pub not-stray : (site : Site) (s : State) (agent : ℕ) → (load_of s agent ≡ Load.None) × IsBerth site agent (end_of s.paths agent) → ¬ IsStray site s agent
not-stray site s agent at_rest stray = elim stray [ inl loaded ↦ loaded at_rest.0 | inr off ↦ off at_rest.1 ]

pub stay-iff : (site : Site) (s : State) (agent : ℕ) (b : Bool) → IsStray site s agent → MatchBool b (IsRestCell site s agent (end_of s.paths agent)) (IsInTheWay site s agent) →
    IsTrue b ↔ MayStay site s agent
stay-iff site s agent true stray rest = (λ e. inr rest, λ may. refl)
stay-iff site s agent false stray why = (
  λ e. absurd (false≢true e),
  λ may. elim may [ inl at_rest ↦ absurd (not-stray site s agent at_rest stray) | inr rest ↦ absurd (not-rest site s agent why rest) ],
)

pub no-stray-iff : (site : Site) (s : State) (agent : ℕ) → (load_of s agent ≡ Load.None) × IsBerth site agent (end_of s.paths agent) → IsTrue false ↔ IsShutIn site s agent
no-stray-iff site s agent at_rest = (λ e. absurd (false≢true e), λ shut. absurd (not-stray site s agent at_rest shut.stray))

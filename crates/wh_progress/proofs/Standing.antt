-- where all stands still, and an open task is left, two agents are at two of its stops
use Rattle.std.proofs.Common.{◌≡◌, ◌≢◌, ℕ, ◌+◌, ◌*◌, ◌-◌, ◌<◌, ◌≤◌, List, [], ◌∷◌, Bool, true, false, Some, None, length, get_or, map, sym, subst, arith, ◌∙◌, ◌⊎◌, inl, inr}
use Prim.Native.Nat.{zero, suc}
use Rattle.std.specs.Prelude.{All, Contains}
use Rattle.std.proofs.lemmas.Bool.{cases_lt}
use Rattle.std.proofs.lemmas.Nat.{mul-le}
use Rattle.std.proofs.lemmas.List.Elements.{All-nil, All-cons}
use Rattle.std.proofs.lemmas.Option.{slice_get-get_or}
use Rattle.wh_grid.specs.declared.cell.Cell.{Cell}
use Rattle.wh_grid.proofs.Pigeons.{cell_cases}
use Rattle.wh_path.specs.Paths.{end, cell_at, path_of, place_of, steps_left, others, ends, horizon}
use Rattle.wh_path.proofs.AtLemmas.{at-resting}
use Rattle.wh_points.specs.Points.{Site}
use Rattle.wh_field.proofs.Tables.{Contains-none, Contains-cases, Contains-first, Contains-later}
use Rattle.wh_tasks.specs.declared.task.Task.{Task}
use Rattle.wh_tasks.specs.declared.task.Phase.{Phase}
use Rattle.wh_tasks.specs.Tasks.{IsTask, IsOpen, visited, phase, delivery}
use Rattle.wh_tasks.proofs.Loads.{is_open, is_assigned, is_carried, is_done, comes_to}
use Rattle.wh_tasks.proofs.Visiting.{option_cases}
use Rattle.wh_core.specs.States.{State}
use Rattle.wh_core.specs.Steps.{other_ends}
use Rattle.wh_core.specs.Laws.{IsReachedOnTheirWays, AllOnTheirWays}
use Rattle.wh_core.proofs.Work.{IsKept, rest-idle, rest-unloaded}
use Rattle.wh_core.proofs.Sound.{kept-reached, sound-reached, driven-way, ways-reached, none-halted}
use Rattle.wh_core.proofs.GoingHome.{each_open_eligible}
use Rattle.wh_progress.specs.Laws.{NoneCanStand}
use Rattle.wh_core.proofs.Traffic.{none_share}
use Rattle.wh_event.specs.declared.entry.Entry.{Entry}
use Rattle.wh_progress.specs.Progress.{open_tasks, HaveAtMost, AreOfTwoPlaces, left_to_do, span, weight, in_way, MayRest, StandsStill, IsHeld, AllDone}
use Rattle.wh_progress.proofs.Horizons.{steps-few}
use Rattle.wh_progress.proofs.Awaited.{open-counted}
use Rattle.wh_progress.proofs.Sizes.{some-left}

-- a cell is among some or not
among : (cells : List Cell) (c : Cell) → Contains cells c ⊎ (Contains cells c → ⊥)
among [] c = inr (Contains-none c)
among (d ∷ cells) c = elim (cell_cases d c) [
  | inl e ↦ inl (subst (λ b. Contains (d ∷ cells) b) e (Contains-first d cells))
  | inr ne ↦ elim (among cells c) [
    | inl has ↦ inl (Contains-later c d cells has)
    | inr none ↦ inr (λ has. elim (Contains-cases c d cells has) [ inl e ↦ ne e | inr h ↦ none h ])
  ]
]

-- all of the stops are clear of the ends, or one is an end
pub barred : (barring stops : List Cell) → All (λ stop. ¬ Contains barring stop) stops ⊎ ((c : Cell) × Contains stops c × Contains barring c)
barred barring [] = inl (All-nil (λ stop. ¬ Contains barring stop))
barred barring (stop ∷ stops) = elim (among barring stop) [
  | inl has ↦ inr (stop, Contains-first stop stops, has)
  | inr none ↦ elim (barred barring stops) [
    | inl all ↦ inl (All-cons (λ s. ¬ Contains barring s) stop stops none all)
    | inr one ↦ inr (one.0, Contains-later one.0 stop stops one.1, one.2)
  ]
]

-- an agent but one whose path ends at the cell
pub record EndsAt (paths : List (List Cell)) (but : ℕ) (c : Cell) : Type 0 where
  pub agent : ℕ
  pub known : agent < length paths
  pub other : agent ≢ but
  pub there : end (path_of paths agent) ≡ c

one-more : (p : List Cell) (paths : List (List Cell)) (but : ℕ) (c : Cell) → EndsAt paths but c → EndsAt (p ∷ paths) (suc but) c
one-more p paths but c e = record {
  agent = suc e.agent;
  known = (let h = e.known in omega arith);
  other = λ same. e.other (let s : e.agent ≡ but = omega arith in s);
  there = e.there;
}

any-end : (paths : List (List Cell)) (c : Cell) → Contains (map end paths) c → (i : ℕ) × (i < length paths) × (end (path_of paths i) ≡ c)
any-end [] c has = absurd (Contains-none c has)
any-end (p ∷ paths) c has = elim (Contains-cases c (end p) (map end paths) has) [
  | inl e ↦ (0, omega arith, e)
  | inr more ↦ (let f = any-end paths c more in (suc f.0, (let h = f.1 in omega arith), f.2))
]

pub ends-there : (paths : List (List Cell)) (but : ℕ) (c : Cell) → Contains (ends (others paths but)) c → EndsAt paths but c
ends-there [] zero c has = absurd (Contains-none c has)
ends-there [] (suc but) c has = absurd (Contains-none c has)
ends-there (p ∷ paths) zero c has =
    let f = any-end paths c has in
    record { agent = suc f.0; known = (let h = f.1 in omega arith); other = λ e. omega arith; there = f.2 }
ends-there (p ∷ paths) (suc but) c has = elim (Contains-cases c (end p) (ends (others paths but)) has) [
  | inl e ↦ record { agent = 0; known = omega arith; other = λ e. omega arith; there = e }
  | inr more ↦ one-more p paths but c (ends-there paths but c more)
]

-- where all stands still, for each agent another is at a stop of an open task, and not at its last
record Bars (s : State) (task : Task) (but : ℕ) : Type 0 where
  pub agent : ℕ
  pub known : agent < length s.paths
  pub other : agent ≢ but
  pub there : Contains task.stops (place_of s.paths agent)
  pub not_last : place_of s.paths agent ≢ delivery task

bars : (site : Site) (s : State) (n : ℕ) (task : Task) (but : ℕ) → site.homes ≡ false → StandsStill site s → IsTask s.tasks n task → IsOpen task → but < length s.paths → Bars s task but
bars site s n task but off still there opens known = elim (barred (other_ends s but) task.stops) [
  | inl clear ↦ absurd ((still.told but known).none.1 n task (record { there = there; is_open = opens; clear = clear }))
  | inr one ↦
      let e = ends-there s.paths but one.0 one.2 in
      let here : place_of s.paths e.agent ≡ one.0 = at-resting (path_of s.paths e.agent) 0 (still.resting e.agent e.known) ∙ e.there in
      record {
        agent = e.agent;
        known = e.known;
        other = e.other;
        there = subst (λ c. Contains task.stops c) (sym here) one.1;
        not_last = λ last. (still.told e.agent e.known).stays.not_wanted
            (off, inl (n, task, there, opens, sym last ∙ at-resting (path_of s.paths e.agent) 0 (still.resting e.agent e.known)));
      }
]

-- and so two agents are
pub held : (site : Site) (s : State) (n : ℕ) (task : Task) → site.homes ≡ false → 0 < length s.paths → StandsStill site s → IsTask s.tasks n task → IsOpen task → IsHeld s task
held site s n task off some still there opens =
    let first = bars site s n task 0 off still there opens some in
    let second = bars site s n task first.agent off still there opens first.known in
    record {
      one = first.agent;
      other = second.agent;
      two = record { first = first.known; second = second.known; differ = λ e. second.other (sym e) };
      one_there = first.there;
      other_there = second.there;
      one_not_last = first.not_last;
      other_not_last = second.not_last;
    }

-- a task that an agent at rest has is done
done-at-rest : (site : Site) (s : State) (n agent : ℕ) (task : Task) → IsKept site s → AllOnTheirWays site s → steps_left s.paths agent ≡ 0 → IsTask s.tasks n task → task.agent ≡ Some agent →
    phase task ≡ Phase.Done
done-at-rest site s n agent task sound home rests there has =
    let over : length task.stops ≤ visited task = elim (cases_lt (visited task) (length task.stops)) [
      | inl more ↦ absurd (rest-idle site s agent n task sound.settled (driven-way site s agent (home agent (sound.working.known n task agent there has))) rests there (record { agent_is = has; more = more }))
      | inr over ↦ over
    ] in
    let two = (sound.orderly.stops n task there).count in
    elim (comes_to n task) [
      | is_open o p l ↦ absurd (let clash : None ≡ Some agent = sym o ∙ has in cc)
      | is_assigned a o z p l ↦ absurd (omega arith)
      | is_carried a o z u p l ↦ absurd (omega arith)
      | is_done a o z u p l ↦ p
    ]

pub only_held : (site : Site) (entries : List Entry) (s : State) (n : ℕ) (task : Task) → site.homes ≡ false → 0 < length site.layout.agents → IsReachedOnTheirWays site entries s →
    StandsStill site s → IsTask s.tasks n task → (phase task ≡ Phase.Done) ⊎ (IsOpen task × IsHeld s task)
only_held site entries s n task off some r still there =
    let sound = kept-reached site entries s r.reached in
    let home = ways-reached site entries s r in
    let seats = (sound-reached site entries s r.reached).seats.paths in
    elim (option_cases task.agent) [
      | inl opens ↦ inr (opens, held site s n task off (omega arith) still there opens)
      | inr has ↦ inl (done-at-rest site s n has.0 task sound home (still.resting has.0 (sound.working.known n task has.0 there has.1)) there has.1)
    ]

only-one : (p c : Cell) → Contains (p ∷ []) c → p ≡ c
only-one p c has = elim (Contains-cases c p [] has) [ inl e ↦ e | inr none ↦ absurd (Contains-none c none) ]

first-one : (p d c : Cell) → Contains (p ∷ d ∷ []) c → c ≢ d → p ≡ c
first-one p d c has apart = elim (Contains-cases c p (d ∷ []) has) [
  | inl e ↦ e
  | inr more ↦ absurd (apart (sym (only-one d c more)))
]

-- of two stops, what is not the last is the first
two-places : (stops : List Cell) → length stops ≤ 2 → (c e : Cell) → Contains stops c → Contains stops e → c ≢ cell_at stops (length stops - 1) →
    e ≢ cell_at stops (length stops - 1) → c ≡ e
two-places [] few c e c_there e_there c_apart e_apart = absurd (Contains-none c c_there)
two-places (p ∷ []) few c e c_there e_there c_apart e_apart = absurd (c_apart (sym (only-one p c c_there)))
two-places (p ∷ d ∷ []) few c e c_there e_there c_apart e_apart = sym (first-one p d c c_there c_apart) ∙ first-one p d e e_there e_apart
two-places (p ∷ d ∷ q ∷ stops) few c e c_there e_there c_apart e_apart = absurd (omega arith)

pub two_stops_are_two_places : (s : State) → HaveAtMost 2 s → AreOfTwoPlaces s
two_stops_are_two_places s few k d h c e c_there e_there c_apart e_apart =
    let stops = (get_or s.tasks k d).stops in
    two-places stops (few k d h) c e c_there e_there c_apart e_apart

pub still_is_done : (site : Site) (entries : List Entry) (s : State) → 0 < length site.layout.agents → IsReachedOnTheirWays site entries s → NoneCanStand site s →
    StandsStill site s → AllDone s
still_is_done site entries s some r (inr two) still k d h =
    let task = get_or s.tasks k d in
    let there = slice_get-get_or s.tasks k d h in
    elim (only_held site entries s k task two.0 some r still there) [
      | inl done ↦ done
      | inr open_and_held ↦
          let by = open_and_held.1 in
          absurd (none_share site entries s by.one by.other r.reached by.two (two.1 k d h _ _ by.one_there by.other_there by.one_not_last by.other_not_last))
    ]
still_is_done site entries s some r (inl has) still k d h =
    let task = get_or s.tasks k d in
    let there = slice_get-get_or s.tasks k d h in
    let sound = kept-reached site entries s r.reached in
    let seats = (sound-reached site entries s r.reached).seats.paths in
    let known : 0 < length s.paths = omega arith in
    elim (option_cases task.agent) [
      | inl opens ↦ absurd ((still.told 0 known).none.1 k task (each_open_eligible site entries s 0 k task has r known there opens))
      | inr given ↦ done-at-rest site s k given.0 task sound (ways-reached site entries s r) (still.resting given.0 (sound.working.known k task given.0 there given.1)) there given.1
    ]

-- with no open task an agent at rest may rest
pub idle_rests : (site : Site) (s : State) (agent : ℕ) → IsKept site s → AllOnTheirWays site s → agent < length s.paths → steps_left s.paths agent ≡ 0 →
    open_tasks s ≡ 0 → MayRest site s agent
idle_rests site s agent sound home known rests idle =
    let none : (n : ℕ) (task : Task) → IsTask s.tasks n task → IsOpen task → ⊥ = λ n task there opens. (let h = open-counted s.tasks n task there opens in omega arith) in
    record {
      none = (
        rest-unloaded site s agent sound.working sound.settled (driven-way site s agent (home agent known)) known rests,
        λ n task e. none n task e.there e.is_open,
      );
      stays = record {
        berth = (home agent known).berth;
        not_wanted = λ wanted. elim wanted.1 [
          | inl at_it ↦ none at_it.0 at_it.1 at_it.2 at_it.3
          | inr awaited ↦ none-halted site s awaited.0 awaited.1 sound home awaited.2
        ];
      };
    }

none-left : (homes : Bool) (w : ℕ) (s : State) → 1 ≤ w → w * weight homes s + horizon s.paths ≡ 0 → (open_tasks s ≡ 0) × (horizon s.paths ≡ 0)
none-left false w s some none = some-left w (in_way s) (open_tasks s) (horizon s.paths) some none
none-left true w s some none =
    let m = mul-le 1 (open_tasks s) w (open_tasks s) some (omega arith) in
    (omega arith, omega arith)

-- with nothing left to do all stands still
pub zero_still : (site : Site) (stops : ℕ) (entries : List Entry) (s : State) → IsReachedOnTheirWays site entries s → left_to_do site stops s ≡ 0 → StandsStill site s
zero_still site stops entries s r none =
    let left = none-left site.homes (span site stops) s (omega arith) none in
    let rests : (agent : ℕ) → agent < length s.paths → steps_left s.paths agent ≡ 0 = λ agent known. (let h = steps-few s.paths agent known in let z = left.1 in omega arith) in
    record {
      resting = rests;
      told = λ agent known. idle_rests site s agent (kept-reached site entries s r.reached) (ways-reached site entries s r) known (rests agent known) left.0;
    }

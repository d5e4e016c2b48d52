-- the worked rows
use Rattle.std.proofs.Common.{◌≡◌, ◌≢◌, ℕ, ◌-◌, ◌<◌, List, [], ◌∷◌, true, false, inl, inr, Some, None, length, get_or, drop, refl, sym, ap, subst, arith, ◌∙◌}
use Prim.Native.Nat.{zero, suc}
use Rattle.std.specs.Prelude.{All, Contains, slice_get}
use Rattle.std.proofs.lemmas.List.Elements.{All-nil, All-cons}
use Rattle.std.proofs.lemmas.Option.{same_Some}
use Rattle.wh_grid.specs.declared.cell.Cell.{Cell}
use Rattle.wh_path.specs.Paths.{at, path_of, steps_left, IsFree}
use Rattle.wh_path.proofs.Chains.{free-beside}
use Rattle.wh_tasks.specs.declared.task.Task.{Task}
use Rattle.wh_tasks.specs.declared.task.Phase.{Phase}
use Rattle.wh_tasks.specs.Tasks.{IsTask, phase, stops_left}
use Rattle.wh_planner.specs.Duties.{Delivers, IsLawful}
use Rattle.wh_core.specs.States.{State, arrived, adopted, assigned, moved}
use Rattle.wh_core.specs.Steps.{IsDue, IsRestCell}
use Rattle.wh_points.specs.declared.points.Kind.{Kind}
use Rattle.wh_points.specs.Points.{IsPointCell}
use Rattle.wh_core.proofs.Drops.{delivers-advanced, delivers-drop}
use Rattle.wh_core.specs.Rows.{cell, site_a, client_x, name_a}
use Rattle.wh_core.proofs.WorkedRows.{state_ab, task_ab, stops_ab, due_ab, next_ab, path_a, path_a-is, path_a-beside, when_a, when_a-order, stops_a-there, x-apart}
use Rattle.wh_core.proofs.Idle.{idle-rests}
use Rattle.wh_progress.specs.Progress.{HasAsked, IsRound, MayRest}
use Rattle.wh_progress.specs.Rows.{first_round, next_round, state_of_three, DeliveredInSix, ThreeStopsStand}

zero-one : (◌≡◌ {A = ℕ} 0 1) → ⊥
zero-one e = (let z : 0 ≡ 1 = e in omega arith)

-- one task that an agent has is not open
taken : (t : Task) (a n : ℕ) (task : Task) → t.agent ≡ Some a → slice_get (t ∷ []) n ≡ Some task → task.agent ≡ None → ⊥
taken t a zero task has is opens =
    let clash : Some a ≡ None = sym has ∙ ap (λ (u : Task). u.agent) (same_Some t task is) ∙ opens in
    cc
taken t a (suc n) task has is opens = (let clash : None ≡ Some task = is in cc)

asked-both : (agent : ℕ) → agent < 2 → HasAsked first_round agent
asked-both zero h = (0, omega arith, refl)
asked-both (suc zero) h = (1, omega arith, refl)
asked-both (suc (suc agent)) h = absurd (omega arith)

asked-second : (now picked dropped left agent : ℕ) → (agent ≡ 0 → left ≡ 0) → 0 < left → agent < 2 → HasAsked (next_round now picked dropped) agent
asked-second now picked dropped left zero rests moves h = absurd (let z = rests refl in omega arith)
asked-second now picked dropped left (suc zero) rests moves h = (0, omega arith, refl)
asked-second now picked dropped left (suc (suc agent)) rests moves h = absurd (omega arith)

resting-first : (s : State) (agent : ℕ) → IsDue (site_a 0 1) s agent → agent ≡ 0 → steps_left s.paths 0 ≡ 0
resting-first s agent due e = subst (λ a. steps_left s.paths a ≡ 0) e (idle-rests (site_a 0 1) s agent refl due.idle)

y-apart : cell 1 0 ≢ cell 1 1
y-apart e = (let f : (◌≡◌ {A = ℕ} 0 1) = ap (λ (c : Cell). c.y) e in zero-one f)

abbrev had_ab : List ℕ → Task
had_ab visits = record { client = client_x; stops = stops_ab; submitted = 0; agent = Some 0; visits = visits }

only-had : (visits : List ℕ) (n : ℕ) (task : Task) → slice_get (had_ab visits ∷ []) n ≡ Some task → had_ab visits ≡ task
only-had visits zero task is = same_Some (had_ab visits) task is
only-had visits (suc n) task is = absurd (let clash : None ≡ Some task = is in cc)

-- agent 0 goes through the stops that are left, so agent 1 may stay at its parking
stays-one : (s : State) (visits : List ℕ) → s.tasks ≡ had_ab visits ∷ [] → Delivers (drop (length visits) stops_ab) (path_of s.paths 0) → IsRestCell (site_a 0 1) s 1 (cell 4 1)
stays-one s visits tasks d =
    let only : (n : ℕ) (task : Task) → IsTask s.tasks n task → slice_get (had_ab visits ∷ []) n ≡ Some task = λ n task is. sym (ap (λ ts. slice_get ts n) tasks) ∙ is in
    record {
      berth = record { point = (80 ∷ 49 ∷ [], (Kind.Parking, (1, omega arith, refl))); own = λ on. absurd (let clash : false ≡ true = on in cc) };
      not_wanted = λ wanted. elim wanted.1 [
        | inl at_it ↦ taken (had_ab visits) 0 at_it.0 at_it.1 refl (only at_it.0 at_it.1 at_it.2) at_it.3
        | inr awaited ↦
            let h = awaited.2 in
            let same = only-had visits awaited.0 awaited.1 (only awaited.0 awaited.1 h.own.there) in
            let agent : 0 ≡ h.agent = same_Some 0 h.agent (ap (λ (t : Task). t.agent) same ∙ h.own.agent_is) in
            h.halts (subst (λ a. Delivers (stops_left awaited.1) (path_of s.paths a)) agent (subst (λ t. Delivers (stops_left t) (path_of s.paths 0)) same d))
      ];
    }

pub delivered_in_six : DeliveredInSix
unfolding at
delivered_in_six =
    let site = site_a 0 1 in
    let s1 : State = state_ab in
    let had : List ℕ → Task = λ visits. record { client = client_x; stops = stops_ab; submitted = 0; agent = Some 0; visits = visits } in
    let t0 : State = arrived (adopted 0 path_a (assigned 0 0 task_ab s1)) in
    let t1 : State = arrived (moved t0) in
    let t2 : State = arrived (moved t1) in
    let t3 : State = arrived (moved t2) in
    let t4 : State = arrived (moved t3) in
    let t5 : State = arrived (moved t4) in
    let t6 : State = arrived (moved t5) in
    let there : 1 < 2 = omega arith in
    let F : List Cell → Type 0 = λ other. IsFree false path_a other in
    let lawful : IsLawful site.grid site.layout.nofollow s1.paths 0 2 (Delivers stops_ab) path_a = record {
      walk = path_a-is;
      starts_here = refl;
      free = All-cons F (cell 4 1 ∷ []) [] (free-beside false path_a (cell 4 1) path_a-beside) (All-nil F);
      bounded = omega arith;
      serves = record {
        visits = record { when = when_a; in_order = when_a-order; there = stops_a-there };
        ends_there = refl;
      };
    } in
    let due0 : IsDue site t0 1 = record { known = record { not_closed = refl; known = there }; idle = inl refl } in
    let due1 : IsDue site t1 1 = record { known = record { not_closed = refl; known = there }; idle = inl refl } in
    let due2 : IsDue site t2 1 = record { known = record { not_closed = refl; known = there }; idle = inl refl } in
    let due3 : IsDue site t3 1 = record { known = record { not_closed = refl; known = there }; idle = inl refl } in
    let due4 : IsDue site t4 1 = record { known = record { not_closed = refl; known = there }; idle = inl refl } in
    let due5 : IsDue site t5 1 = record { known = record { not_closed = refl; known = there }; idle = inl refl } in
    let none : (visits : List ℕ) (n : ℕ) (task : Task) → slice_get (had visits ∷ []) n ≡ Some task → task.agent ≡ None → ⊥ =
    λ visits n task is opens. taken (had visits) 0 n task refl is opens in
    let no_visit : List ℕ = [] in
    let one : List ℕ = 2 ∷ [] in
    let last : List Cell = cell 3 0 ∷ [] in
    let serves0 : Delivers stops_ab (path_of t0.paths 0) = lawful.serves in
    let serves1 : Delivers stops_ab (path_of t1.paths 0) =
    delivers-advanced stops_ab (path_of t0.paths 0) (omega arith) (x-apart (cell 1 0) (cell 0 1) (omega arith)) serves0 in
    let both : Delivers stops_ab (path_of t2.paths 0) =
    delivers-advanced stops_ab (path_of t1.paths 0) (omega arith) y-apart serves1 in
    let serves2 : Delivers last (path_of t2.paths 0) = delivers-drop stops_ab (path_of t2.paths 0) 1 (omega arith) both in
    let serves3 : Delivers last (path_of t3.paths 0) =
    delivers-advanced last (path_of t2.paths 0) (omega arith) (x-apart (cell 3 0) (cell 1 0) (omega arith)) serves2 in
    let serves4 : Delivers last (path_of t4.paths 0) =
    delivers-advanced last (path_of t3.paths 0) (omega arith) (x-apart (cell 3 0) (cell 1 1) (omega arith)) serves3 in
    let serves5 : Delivers last (path_of t5.paths 0) =
    delivers-advanced last (path_of t4.paths 0) (omega arith) (x-apart (cell 3 0) (cell 2 1) (omega arith)) serves4 in
    let round1 : IsRound site s1 first_round t1 = record {
      run = (
        t0,
        (due_ab, (task_ab, next_ab, lawful, refl)),
        (
          t0,
          (due0, (refl, λ n t e. none no_visit n t e.there e.is_open), stays-one t0 no_visit refl serves0, refl),
          (t1, (refl, omega arith, refl, refl, refl, refl), refl),
        ),
      );
      asked = λ some agent due. asked-both agent due.known.known;
      goes_on = omega arith;
      not_closed = refl;
    } in
    let round2 : IsRound site t1 (next_round 2 1 0) t2 = record {
      run = (t1, (due1, (refl, λ n t e. none no_visit n t e.there e.is_open), stays-one t1 no_visit refl serves1, refl), (t2, (refl, omega arith, refl, refl, refl, refl), refl));
      asked = λ some agent due. asked-second 2 1 0 5 agent (resting-first t1 agent due) (omega arith) due.known.known;
      goes_on = omega arith;
      not_closed = refl;
    } in
    let round3 : IsRound site t2 (next_round 3 0 0) t3 = record {
      run = (t2, (due2, (refl, λ n t e. none one n t e.there e.is_open), stays-one t2 one refl serves2, refl), (t3, (refl, omega arith, refl, refl, refl, refl), refl));
      asked = λ some agent due. asked-second 3 0 0 4 agent (resting-first t2 agent due) (omega arith) due.known.known;
      goes_on = omega arith;
      not_closed = refl;
    } in
    let round4 : IsRound site t3 (next_round 4 0 0) t4 = record {
      run = (t3, (due3, (refl, λ n t e. none one n t e.there e.is_open), stays-one t3 one refl serves3, refl), (t4, (refl, omega arith, refl, refl, refl, refl), refl));
      asked = λ some agent due. asked-second 4 0 0 3 agent (resting-first t3 agent due) (omega arith) due.known.known;
      goes_on = omega arith;
      not_closed = refl;
    } in
    let round5 : IsRound site t4 (next_round 5 0 0) t5 = record {
      run = (t4, (due4, (refl, λ n t e. none one n t e.there e.is_open), stays-one t4 one refl serves4, refl), (t5, (refl, omega arith, refl, refl, refl, refl), refl));
      asked = λ some agent due. asked-second 5 0 0 2 agent (resting-first t4 agent due) (omega arith) due.known.known;
      goes_on = omega arith;
      not_closed = refl;
    } in
    let round6 : IsRound site t5 (next_round 6 0 1) t6 = record {
      run = (t5, (due5, (refl, λ n t e. none one n t e.there e.is_open), stays-one t5 one refl serves5, refl), (t6, (refl, omega arith, refl, refl, refl, refl), refl));
      asked = λ some agent due. asked-second 6 0 1 1 agent (resting-first t5 agent due) (omega arith) due.known.known;
      goes_on = omega arith;
      not_closed = refl;
    } in
    let Done : Task → Type 0 = λ t. phase t ≡ Phase.Done in (
      s1,
      t6,
      (s1, (refl, refl, omega arith, omega arith, omega arith, (stops_ab, ((2, omega arith, refl), ((3, omega arith, refl), tt)), refl)), refl),
      refl,
      (t1, round1, (t2, round2, (t3, round3, (t4, round4, (t5, round5, (t6, round6, refl)))))),
      refl,
      All-cons Done (had (2 ∷ 6 ∷ [])) [] refl (All-nil Done),
    )

-- of three stops the first two are ends of others
abbrev three_stops : List Cell
three_stops = cell 1 0 ∷ cell 1 2 ∷ cell 3 2 ∷ []

abbrev three : Task
three = record { client = client_x; stops = three_stops; submitted = 0; agent = None; visits = [] }

only-three : (n : ℕ) (task : Task) → slice_get (three ∷ []) n ≡ Some task → three ≡ task
only-three zero task is = same_Some three task is
only-three (suc n) task is = absurd (let clash : None ≡ Some task = is in cc)

-- an agent at a station of the map may stay there, if the order of three is not to be delivered there
stays-three : (agent : ℕ) (c : Cell) → IsPointCell (site_a 2 4).layout c → cell 3 2 ≢ c → IsRestCell (site_a 2 4) state_of_three agent c
stays-three agent c point ne = record {
  berth = record { point = point; own = λ on. absurd (let clash : false ≡ true = on in cc) };
  not_wanted = λ wanted. elim wanted.1 [
    | inl d ↦ (let same = only-three d.0 d.1 d.2 in ne (ap (λ (t : Task). get_or t.stops (length t.stops - 1) (cell 0 0)) same ∙ d.4))
    | inr awaited ↦
        let h = awaited.2 in
        let same = only-three awaited.0 awaited.1 h.own.there in
        let clash : None ≡ Some h.agent = ap (λ (t : Task). t.agent) same ∙ h.own.agent_is in
        cc
  ];
}

still-three : (agent : ℕ) → agent < 2 → MayRest (site_a 2 4) state_of_three agent
unfolding at
still-three zero h = record {
  none = (refl, λ n task e. (let same = only-three n task e.there in subst (λ (t : Task). All (λ stop. ¬ Contains (cell 1 2 ∷ []) stop) t.stops) (sym same) e.clear 1 (cell 0 0) (omega arith) (0, omega arith, refl)));
  stays = stays-three 0 (cell 1 0) (name_a, (Kind.Station, (2, omega arith, refl))) (x-apart (cell 3 2) (cell 1 0) (omega arith));
}
still-three (suc zero) h = record {
  none = (refl, λ n task e. (let same = only-three n task e.there in subst (λ (t : Task). All (λ stop. ¬ Contains (cell 1 0 ∷ []) stop) t.stops) (sym same) e.clear 0 (cell 0 0) (omega arith) (0, omega arith, refl)));
  stays = stays-three 1 (cell 1 2) (67 ∷ [], (Kind.Station, (4, omega arith, refl))) (x-apart (cell 3 2) (cell 1 2) (omega arith));
}
still-three (suc (suc agent)) h = absurd (omega arith)

rest-three : (agent : ℕ) → agent < 2 → steps_left state_of_three.paths agent ≡ 0
rest-three zero h = refl
rest-three (suc zero) h = refl
rest-three (suc (suc agent)) h = absurd (omega arith)

pub three_stops_stand : ThreeStopsStand
unfolding at
three_stops_stand = (
  (state_of_three, (refl, refl, omega arith, omega arith, omega arith, (three_stops, ((2, omega arith, refl), ((4, omega arith, refl), ((5, omega arith, refl), tt))), refl)), refl),
  record { resting = rest-three; told = still-three },
  λ done. (let clash : Phase.Open ≡ Phase.Done = done 0 three (omega arith) in cc),
)

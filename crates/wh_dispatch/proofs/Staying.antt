-- what is made stays made, whatever happens
use Rattle.std.proofs.Common.{◌≡◌, ℕ, ◌+◌, ◌≤◌, ◌∙◌, inl, inr, List, [], ◌∷◌, length, get_or, refl, ap, arith, length-append}
use Rattle.std.proofs.Math.ListN.{get_or-append}
use Rattle.std.proofs.lemmas.Bool.{cases_eq}
use Rattle.wh_points.specs.Points.{Site}
use Rattle.wh_event.specs.declared.reply.Reply.{Reply}
use Rattle.wh_core.specs.States.{State}
use Rattle.wh_core.proofs.Later.{AllLater, later-run, all_later-same, all_later-trans}
use Rattle.wh_drive.specs.Drives.{Drive, reached}
use Rattle.wh_drive.specs.Runs.{Arrive, Step}
use Rattle.wh_drive.proofs.Going.{reached-start, reached-own, reached-other}
use Rattle.wh_vehicles.specs.Plans.{Fleet, Happening, Done, Goes, Comes, AllHappen, taken}
use Rattle.wh_vehicles.specs.Visits.{Visit, HasMade}
use Rattle.wh_dispatch.proofs.Watching.{made_when, made_tells}

taken_reached : (reply : Reply) (s : State) (d : Drive) (agent : ℕ) → reached (taken reply s d) agent ≡ reached d agent
taken_reached (Reply.Refused refusal) s d agent = refl
taken_reached (Reply.Accepted n) s d agent = refl
taken_reached (Reply.Took n path) s d agent = refl
taken_reached Reply.Rested s d agent = refl
taken_reached (Reply.Parked point path) s d agent = refl
taken_reached (Reply.Clock now first last) s d agent = refl
taken_reached (Reply.Replaced slots) s d agent = refl
taken_reached Reply.Closed s d agent = refl

-- no vehicle goes back
pub reached_on : (site : Site) (old : Fleet) (happenings : List Happening) (new : Fleet) (agent : ℕ) → AllHappen site old happenings new → reached old.drive agent ≤ reached new.drive agent
reached_on site old [] new agent all = (let same : reached new.drive agent ≡ reached old.drive agent = ap (λ (f : Fleet). reached f.drive agent) all in omega arith)
reached_on site old (Done entry ∷ happenings) new agent all =
    let rest = reached_on site all.0 happenings new agent all.2 in
    let same : reached all.0.drive agent ≡ reached old.drive agent = ap (λ (d : Drive). reached d agent) all.1.1 ∙ taken_reached entry.reply all.0.state old.drive agent in
    omega arith
reached_on site old (Goes other ∷ happenings) new agent all =
    let rest = reached_on site all.0 happenings new agent all.2 in
    let same : reached all.0.drive agent ≡ reached old.drive agent =
    reached-start old.drive all.0.drive other agent (all.1.0, ap (λ (f : Fleet). f.drive) all.1.1) in
    omega arith
reached_on site old (Comes other step ∷ happenings) new agent all =
    let rest = reached_on site all.0 happenings new agent all.2 in
    let by : Step old.drive (Arrive other step) all.0.drive = (all.1.0, ap (λ (f : Fleet). f.drive) all.1.1) in
    elim (cases_eq agent other) [
      | inl e ↦
          let own : reached all.0.drive other ≡ reached old.drive other + 1 = reached-own old.drive all.0.drive other step by in
          let mine : reached all.0.drive agent ≡ reached all.0.drive other = ap (λ k. reached all.0.drive k) e in
          let mine' : reached old.drive agent ≡ reached old.drive other = ap (λ k. reached old.drive k) e in
          omega arith
      | inr ne ↦ (let same = reached-other old.drive all.0.drive other step agent ne by in omega arith)
    ]

-- tasks only go on
pub tasks_on : (site : Site) (old : Fleet) (happenings : List Happening) (new : Fleet) → AllHappen site old happenings new → AllLater old.state.tasks new.state.tasks
tasks_on site old [] new all = all_later-same old.state.tasks new.state.tasks (ap (λ (f : Fleet). f.state.tasks) all)
tasks_on site old (Done entry ∷ happenings) new all =
    all_later-trans old.state.tasks all.0.state.tasks new.state.tasks (later-run site old.state (entry ∷ []) all.0.state (all.0.state, all.1.0, refl))
    (tasks_on site all.0 happenings new all.2)
tasks_on site old (Goes other ∷ happenings) new all =
    all_later-trans old.state.tasks all.0.state.tasks new.state.tasks (all_later-same old.state.tasks all.0.state.tasks (ap (λ (f : Fleet). f.state.tasks) all.1.1))
    (tasks_on site all.0 happenings new all.2)
tasks_on site old (Comes other step ∷ happenings) new all =
    all_later-trans old.state.tasks all.0.state.tasks new.state.tasks (all_later-same old.state.tasks all.0.state.tasks (ap (λ (f : Fleet). f.state.tasks) all.1.1))
    (tasks_on site all.0 happenings new all.2)

pub made_stays : (opening : ℕ) (site : Site) (old : Fleet) (happenings : List Happening) (new : Fleet) (v : Visit) → AllHappen site old happenings new → HasMade opening old v → HasMade opening new v
made_stays opening site old happenings new v all m =
    let on = tasks_on site old happenings new all v.task m.task m.is_task in
    let says = made_tells opening old.state old.drive v m.task m m.is_task in
    let more = on.2.visits in
    let size : length on.0.visits ≡ length m.task.visits + length more.0 = ap (λ (l : List ℕ). length l) more.1 ∙ length-append m.task.visits more.0 in
    let within = says.within in
    let same : get_or on.0.visits v.number 0 ≡ get_or m.task.visits v.number 0 = ap (λ (l : List ℕ). get_or l v.number 0) more.1 ∙ get_or-append m.task.visits more.0 0 v.number within in
    let over = says.over in
    let further = reached_on site old happenings new v.agent all in
    made_when opening new.state new.drive v.agent v.task v.number on.0 on.1 (on.2.agent v.agent m.agent_is) (omega arith) (omega arith)

-- the entries of a run determine its last state
use Rattle.std.proofs.Common.{◌≡◌, ℕ, ◌∙◌, inl, inr, List, [], ◌∷◌, sym, subst, refl, ap}
use Rattle.std.specs.List.{AllZip}
use Rattle.std.proofs.lemmas.Bool.{cases_eq}
use Rattle.std.proofs.lemmas.List.{get_or_default}
use Rattle.std.proofs.lemmas.Option.{same_Some}
use Rattle.wh_grid.specs.declared.cell.Cell.{Cell}
use Rattle.wh_points.specs.declared.points.Kind.{Kind}
use Rattle.wh_points.specs.declared.points.Point.{Point}
use Rattle.wh_points.specs.Points.{Site, IsLayout, IsStation, point_at}
use Rattle.wh_tasks.specs.declared.task.Task.{Task}
use Rattle.wh_tasks.specs.declared.task.Load.{Load}
use Rattle.wh_tasks.specs.Tasks.{IsTask}
use Rattle.wh_core.specs.States.{State, load_of, arrived, submitted, adopted, assigned}
use Rattle.wh_core.specs.Steps.{Answers, Run, IsNextBy}
use Rattle.wh_core.specs.Laws.{IsBeginning}
use Rattle.wh_event.specs.declared.event.Spare.{Spare}
use Rattle.wh_event.specs.declared.event.Event.{Event}
use Rattle.wh_event.specs.declared.reply.Reply.{Reply}
use Rattle.wh_event.specs.declared.entry.Entry.{Entry}

-- a name is that of one point
station-one : (site : Site) (name : List ℕ) (c d : Cell) → IsLayout site.grid site.layout → IsStation site.layout name c → IsStation site.layout name d → c ≡ d
station-one site name c d layout at_c at_d =
    let points = site.layout.points in
    let x : Point = record { name = name; cell = c; kind = Kind.Station } in
    let y : Point = record { name = name; cell = d; kind = Kind.Station } in
    let first : point_at points at_c.0 ≡ x = get_or_default points at_c.0 _ x at_c.1 ∙ at_c.2 in
    let second : point_at points at_d.0 ≡ y = get_or_default points at_d.0 _ y at_d.1 ∙ at_d.2 in
    elim (cases_eq at_c.0 at_d.0) [
      | inl e ↦ ap (λ (p : Point). p.cell) (sym first ∙ ap (λ k. point_at points k) e ∙ second)
      | inr ne ↦ absurd (layout.names at_c.0 at_d.0 at_c.1 at_d.1 ne (ap (λ (p : Point). p.name) first ∙ sym (ap (λ (p : Point). p.name) second)))
    ]

stations-one : (site : Site) → IsLayout site.grid site.layout → (names : List (List ℕ)) (cs ds : List Cell) →
    AllZip (IsStation site.layout) names cs → AllZip (IsStation site.layout) names ds → cs ≡ ds
stations-one site layout [] [] [] a b = refl
stations-one site layout [] [] (d ∷ ds) a b = absurd b
stations-one site layout [] (c ∷ cs) ds a b = absurd a
stations-one site layout (n ∷ ns) [] ds a b = absurd a
stations-one site layout (n ∷ ns) (c ∷ cs) [] a b = absurd b
stations-one site layout (n ∷ ns) (c ∷ cs) (d ∷ ds) a b =
    ap (λ x. x ∷ cs) (station-one site n c d layout a.0 b.0) ∙ ap (λ xs. d ∷ xs) (stations-one site layout ns cs ds a.1 b.1)

-- a task that is next stands among the tasks
pub next-there : (site : Site) (s : State) (agent n : ℕ) (task : Task) (load : Load) → IsNextBy load site s agent n task → IsTask s.tasks n task
next-there site s agent n task Load.None next = next.eligible.there
next-there site s agent n task (Load.Fetching m) next = next.1.there
next-there site s agent n task (Load.Carrying m seen) next = next.1.there

answers-one : (site : Site) (old : State) (reply : Reply) (event : Event) (a b : State) → IsLayout site.grid site.layout →
    Answers site old reply event a → Answers site old reply event b → a ≡ b
answers-one site old (Reply.Refused refusal) event a b layout x y = x.1 ∙ sym y.1
answers-one site old (Reply.Accepted n) (Event.Submit client stops) a b layout x y =
    x.5.2 ∙ ap (λ cells. submitted client cells old) (stations-one site layout stops x.5.0 y.5.0 x.5.1 y.5.1) ∙ sym y.5.2
answers-one site old (Reply.Took n path) (Event.Request agent) a b layout x y =
    let same : x.1.0 ≡ y.1.0 = same_Some x.1.0 y.1.0
    (sym (next-there site old agent n x.1.0 (load_of old agent) x.1.1) ∙ next-there site old agent n y.1.0 (load_of old agent) y.1.1) in
    x.1.3 ∙ ap (λ task. arrived (adopted agent path (assigned agent n task old))) same ∙ sym y.1.3
answers-one site old Reply.Rested (Event.Request agent) a b layout x y = x.3 ∙ sym y.3
answers-one site old (Reply.Parked point path) (Event.Request agent) a b layout x y = x.4 ∙ sym y.4
answers-one site old (Reply.Clock now first last) Event.Tick a b layout x y = x.5 ∙ sym y.5
answers-one site old (Reply.Replaced slots) (Event.Replace agent (Spare.Fits count)) a b layout x y = x.2 ∙ sym y.2
answers-one site old Reply.Closed Event.Close a b layout x y = x.1 ∙ sym y.1
answers-one site old reply event a b layout x y = absurd x

pub run-one : (site : Site) (old : State) (entries : List Entry) (a b : State) → IsLayout site.grid site.layout → Run site old entries a → Run site old entries b → a ≡ b
run-one site old [] a b layout x y = x ∙ sym y
run-one site old (entry ∷ entries) a b layout x y =
    let same : y.0 ≡ x.0 = answers-one site old entry.reply entry.event y.0 x.0 layout y.1 x.1 in
    run-one site x.0 entries a b layout x.2 (subst (λ s. Run site s entries b) same y.2)

pub history_tells : (site : Site) (opening : State) (entries : List Entry) (one other : State) → IsBeginning site opening → Run site opening entries one →
    Run site opening entries other → one ≡ other
history_tells site opening entries one other o x y = run-one site opening entries one other o.layout x y

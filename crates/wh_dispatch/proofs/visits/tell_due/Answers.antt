use Rattle.std.proofs.Common.{◌≡◌, ℕ, ◌+◌, ◌-◌, ◌∙◌, List, [], ◌∷◌, ◌++◌, take, get_or, sym, subst, refl, ap}
use Rattle.std.specs.Prelude.{flat_map}
use Rattle.std.specs.Io.KnownBytes.{Appends}
use Rattle.std.proofs.lemmas.List.{map-append}
use Rattle.wh_lines.specs.Output.{WritesFront}
use Rattle.wh_lines.proofs.Written.{on_err_of}
use Rattle.wh_replay.specs.Answers.{text_of}
use Rattle.wh_tasks.specs.declared.task.Task.{Task}
use Rattle.wh_drive.specs.declared.vehicle.Vehicle.{Vehicle}
use Rattle.wh_dispatch.specs.declared.visits.Pending.{Pending}
use Rattle.wh_dispatch.specs.Lines.{visit_line, visit_lines}
use Rattle.wh_dispatch.specs.Visiting.{visits_from, due_of, due_visits}
use Rattle.wh_dispatch.proofs.Texts.{pieces_front, pieces_more}
use Rattle.wh_dispatch.proofs.visits.tell_due.Goals as goal

abbrev lines_due : ℕ → List Task → List Vehicle → Pending → List (List ℕ)
lines_due opening tasks vehicles p = visit_lines (due_of opening tasks vehicles p)

-- the lines of all tasks, task by task
in_pieces : (opening : ℕ) (tasks : List Task) (vehicles : List Vehicle) (ps : List Pending) → visit_lines (due_visits opening tasks vehicles ps) ≡ flat_map (lines_due opening tasks vehicles) ps
in_pieces opening tasks vehicles [] = refl
in_pieces opening tasks vehicles (p ∷ ps) =
    map-append visit_line (due_of opening tasks vehicles p) (due_visits opening tasks vehicles ps) ∙ ap (λ (ls : List (List ℕ)). lines_due opening tasks vehicles p ++ ls) (in_pieces opening tasks vehicles ps)

abbrev none : Pending
none = record { agent = 0; task = 0; stops = 0; told = 0 }

pub returns-in_err-tell_from-clause-err : goal.returns-in_err-tell_from-clause-err
returns-in_err-tell_from-clause-err g c =
    let a = g.W.Write.contents c.args.writer.now in
    let before = g.W.Write.contents c.loop-one.writer in
    let after = g.W.Write.contents c.tell_from.new.writer in
    let opening = c.args.warehouse.now.book.opening.clock in
    let tasks = c.args.warehouse.now.book.state.tasks in
    let vehicles = c.args.order.now.vehicles in
    let p : Pending = get_or c.args.pending.now c.loop-one.one-index none in
    on_err_of _ (subst (λ (ls : List (List ℕ)). WritesFront a after (text_of ls)) (sym (in_pieces opening tasks vehicles c.args.pending.now))
    (pieces_front (lines_due opening tasks vehicles) a before after c.args.pending.now c.loop-one.one-index none c.loop-one-test.true
    (subst (λ (ls : List (List ℕ)). Appends a before (text_of ls)) (in_pieces opening tasks vehicles (take c.loop-one.one-index c.args.pending.now)) c.loop-one.invariant)
    (subst (λ n. WritesFront before after (text_of (visit_lines (visits_from p.agent p.task p.told (n - p.told))))) c.made_of-made.ensures.value c.in_err-tell_from.ensures.err)))

pub loop-one-preserved : goal.loop-one-preserved
loop-one-preserved g c =
    let a = g.W.Write.contents c.args.writer.now in
    let before = g.W.Write.contents c.loop-one.writer in
    let after = g.W.Write.contents c.tell_from.new.writer in
    let opening = c.args.warehouse.now.book.opening.clock in
    let tasks = c.args.warehouse.now.book.state.tasks in
    let vehicles = c.args.order.now.vehicles in
    let p : Pending = get_or c.args.pending.now c.loop-one.one-index none in
    subst (λ (ls : List (List ℕ)). Appends a after (text_of ls)) (sym (in_pieces opening tasks vehicles (take (c.loop-one.one-index + 1) c.args.pending.now)))
    (pieces_more (lines_due opening tasks vehicles) a before after c.args.pending.now c.loop-one.one-index none c.loop-one-test.true
    (subst (λ (ls : List (List ℕ)). Appends a before (text_of ls)) (in_pieces opening tasks vehicles (take c.loop-one.one-index c.args.pending.now)) c.loop-one.invariant)
    (subst (λ n. Appends before after (text_of (visit_lines (visits_from p.agent p.task p.told (n - p.told))))) c.made_of-made.ensures.value c.in_ok-tell_from.ensures.ok))

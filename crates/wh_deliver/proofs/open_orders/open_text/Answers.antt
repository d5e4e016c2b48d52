use Rattle.std.proofs.Common.{◌≡◌, ◌<◌, ◌∙◌, ◌++◌, ℕ, List, Option, length, append-nil, ap, sym, subst}
use Rattle.std.specs.Global.{Vec}
use Rattle.std.proofs.lemmas.Option.{get_or_from_slice_get, slice_get_within}
use Rattle.wh_tasks.specs.declared.task.Task.{Task}
use Rattle.wh_tasks.specs.Tasks.{IsTask}
use Rattle.wh_book.specs.Drafts.{Seen}
use Rattle.wh_deliver.specs.OpenOrders.{line_of, open_text}
use Rattle.wh_deliver.proofs.Barring.{lines_more}
use Rattle.wh_deliver.proofs.open_orders.open_text.Goals.{in-Some+in_ok-push_bar-in-Some, in-None}
use Rattle.wh_deliver.proofs.open_orders.open_text.Goals as goal

pub loop-n-preserved : goal.loop-n-preserved
loop-n-preserved g c =
    let state = c.args.warehouse.now.book.state in
    let out = c.loop-n.out.items in
    let task = c.task.result.now in
    let tasks : c.tasks-tasks.result.now.tasks ≡ state.tasks = c.tasks-tasks.ensures ∙ ap (λ (b : Seen). b.state.tasks) c.book.ensures in
    let there : IsTask state.tasks c.loop-n.n task = subst (λ (ts : List Task). IsTask ts c.loop-n.n task) tasks c.task.ensures.task in
    let below : c.loop-n.n < length state.tasks = slice_get_within state.tasks c.loop-n.n task there in
    lines_more state.paths state.tasks c.loop-n.n task out _ (open_text state) below (sym (get_or_from_slice_get state.tasks c.loop-n.n task task there)) c.loop-n.invariant
    (elim c.match-pair.branch [
      | in-Some+in_ok-push_bar-in-Some w ↦
          ap (λ (v : Vec ℕ). v.items) w.out-is ∙ w.in_ok-push_bar-in-Some.ensures
          ∙ ap (λ (two : Option (ℕ × ℕ)). out ++ line_of c.loop-n.n two) (sym w.in-Some.is ∙ c.pair.ensures)
      | in-None w ↦
          ap (λ (v : Vec ℕ). v.items) w.out-is ∙ sym (append-nil out)
          ∙ ap (λ (two : Option (ℕ × ℕ)). out ++ line_of c.loop-n.n two) (sym w.in-None.is ∙ c.pair.ensures)
    ])

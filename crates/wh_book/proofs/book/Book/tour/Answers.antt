use Rattle.std.proofs.Common.{◌<◌, length, sym, subst}
use Rattle.std.proofs.lemmas.Option.{slice_get_within}
use Rattle.wh_tasks.specs.declared.task.Task.{Task}
use Rattle.wh_tasks.specs.Tasks.{IsTask}
use Rattle.wh_core.specs.Steps.{IsNext}
use Rattle.wh_book.specs.Drafts.{Seen}
use Rattle.wh_book.proofs.Askers.{next-to_do, same-to_do}
use Rattle.wh_book.proofs.Kept.{kept-begins, kept-start}
use Rattle.wh_book.proofs.book.Book.tour.Goals as goal

pub home-home-requires : goal.home-home-requires
home-home-requires c = kept-start _ _ _ _ c.args.agent c.self.invariant.kept (subst (λ (b : Seen). c.args.agent < length b.state.paths) (sym c.self.view_is) c.requires.known)

pub task-requires : goal.task-requires
task-requires c =
    let next = subst (λ (b : Seen). (task : Task) × IsNext b.site b.state c.args.agent c.args.task task) (sym c.self.view_is) c.requires.next in
    let sound = (kept-begins _ _ _ _ c.self.invariant.kept).sound in
    rw c.tasks.ensures.tasks (slice_get_within c.self.inside.floor.state.tasks c.args.task next.0
    (next-to_do c.self.inside.setting c.self.inside.floor.state c.args.agent c.args.task next.0 sound next.1).there)

pub tour_left-requires-clause-left : goal.tour_left-requires-clause-left
tour_left-requires-clause-left c =
    let next = subst (λ (b : Seen). (task : Task) × IsNext b.site b.state c.args.agent c.args.task task) (sym c.self.view_is) c.requires.next in
    let there : IsTask c.self.inside.floor.state.tasks c.args.task c.task.result.now = rw c.tasks.ensures.tasks at c.task.ensures.task in
    (same-to_do c.self.inside.setting c.self.inside.floor.state c.args.agent c.args.task next.0 c.task.result.now (kept-begins _ _ _ _ c.self.invariant.kept).sound next.1 there).left

pub tour_left-requires-clause-two : goal.tour_left-requires-clause-two
tour_left-requires-clause-two c =
    let next = subst (λ (b : Seen). (task : Task) × IsNext b.site b.state c.args.agent c.args.task task) (sym c.self.view_is) c.requires.next in
    let there : IsTask c.self.inside.floor.state.tasks c.args.task c.task.result.now = rw c.tasks.ensures.tasks at c.task.ensures.task in
    (same-to_do c.self.inside.setting c.self.inside.floor.state c.args.agent c.args.task next.0 c.task.result.now (kept-begins _ _ _ _ c.self.invariant.kept).sound next.1 there).two

pub tour_left-requires-clause-eight : goal.tour_left-requires-clause-eight
tour_left-requires-clause-eight c =
    let next = subst (λ (b : Seen). (task : Task) × IsNext b.site b.state c.args.agent c.args.task task) (sym c.self.view_is) c.requires.next in
    let there : IsTask c.self.inside.floor.state.tasks c.args.task c.task.result.now = rw c.tasks.ensures.tasks at c.task.ensures.task in
    (same-to_do c.self.inside.setting c.self.inside.floor.state c.args.agent c.args.task next.0 c.task.result.now (kept-begins _ _ _ _ c.self.invariant.kept).sound next.1 there).eight

pub returns-clause-same : goal.returns-clause-same
returns-clause-same c =
    let there : IsTask c.self.inside.floor.state.tasks c.args.task c.task.result.now = rw c.tasks.ensures.tasks at c.task.ensures.task in
    rw (← c.self.view_is) (
      c.task.result.now,
      there,
      (rw (c.homes.ensures, c.home-home.ensures) at c.tour_left.ensures.few),
      (rw (c.homes.ensures, c.home-home.ensures) at c.tour_left.ensures.same),
    )

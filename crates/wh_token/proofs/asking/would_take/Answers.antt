use Rattle.std.proofs.Common.{◌∙◌, refl, subst}
use Rattle.std.proofs.lemmas.Option.{slice_get_within}
use Rattle.wh_tasks.specs.Tasks.{IsTask}
use Rattle.wh_token.proofs.Duties.{next-there}
use Rattle.wh_token.proofs.Takers.{would-take}
use Rattle.wh_token.proofs.asking.would_take.Goals as goal

pub task-requires : goal.task-requires
task-requires c =
    let book = c.args.book.now in
    let next = c.in-Some.ensures.next in
    rw c.tasks.ensures (slice_get_within book.state.tasks c.in-Some.task next.0 (next-there book.site book.state c.args.agent c.in-Some.task next.0 next.1))

pub returns-clause-takes : goal.returns-clause-takes
returns-clause-takes c =
    let book = c.args.book.now in
    let n = c.in-Some.task in
    let job = c.task.result.now in
    let next = c.in-Some.ensures.next in
    let near = c.next.new.near in
    let there : IsTask book.state.tasks n job = subst (λ tasks. IsTask tasks n job) c.tasks.ensures c.task.ensures.task in (
      refl,
      (
        n,
        would-take book.site book.state c.args.agent n next.0 job c.dist-steps.result near.grid near.cell c.pickup.result
            (c.is_due.ensures.0 c.if-not-is_due.false) next.1 there
            (c.next.ensures.grid ∙ c.requires.over) c.next.ensures.source c.pickup.ensures c.dist-steps.ensures.exact,
      ),
    )

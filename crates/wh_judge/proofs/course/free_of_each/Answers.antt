use Rattle.std.proofs.Common.{refl, subst, sym, ◌∙◌, List}
use Rattle.std.proofs.lemmas.Bool.{false≢true}
use Rattle.wh_grid.specs.declared.cell.Cell.{Cell}
use Rattle.wh_path.specs.Paths.{IsFree}
use Rattle.wh_judge.proofs.Courses.{path-read, others-more, others-all, others-at}
use Rattle.wh_judge.proofs.course.free_of_each.Goals as goal
use Rattle.wh_judge.proofs.course.free_of_each.Goals.{else-i-agent-via-then-i-agent+else-not-are_free, else-i-agent-via-else-i-agent}

pub returns-then-not-are_free : goal.returns-then-not-are_free
returns-then-not-are_free c =
    let F : List Cell → Type 0 = λ other. IsFree c.args.nofollow c.args.path.now other in (
      λ e. absurd (false≢true e),
      λ all. absurd (false≢true (sym c.if-not-are_free.true ∙ c.are_free.ensures.1
          (subst F (sym (path-read c.args.paths.now c.loop-i.i c.index-paths-i.result c.loop-i-test.true c.index-paths-i.is))
          (others-at F c.args.paths.now c.args.agent c.loop-i.i all c.loop-i-test.true c.if-i-agent.true)))),
    )

pub loop-i-preserved : goal.loop-i-preserved
loop-i-preserved c =
    let F : List Cell → Type 0 = λ other. IsFree c.args.nofollow c.args.path.now other in
    elim c.else-i-agent.branch [
      | else-i-agent-via-then-i-agent+else-not-are_free w ↦
          others-more F c.args.paths.now c.args.agent c.loop-i.i c.loop-i.invariant (λ ne.
          subst F (path-read c.args.paths.now c.loop-i.i w.index-paths-i.result c.loop-i-test.true w.index-paths-i.is) (w.are_free.ensures.0 w.if-not-are_free.false))
      | else-i-agent-via-else-i-agent w ↦
          others-more F c.args.paths.now c.args.agent c.loop-i.i c.loop-i.invariant (λ ne. absurd (ne w.if-i-agent.false))
    ]

pub returns : goal.returns
returns c =
    let F : List Cell → Type 0 = λ other. IsFree c.args.nofollow c.args.path.now other in
    (λ _. others-all F c.args.paths.now c.args.agent c.loop-i.i c.loop-i-test.false c.loop-i.invariant, λ _. refl)

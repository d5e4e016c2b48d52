use Rattle.std.proofs.Common.{subst, sym, ◌∙◌, List, below_more, ℕ}
use Rattle.std.proofs.lemmas.Bool.{false≢true}
use Rattle.wh_grid.specs.declared.cell.Cell.{Cell}
use Rattle.wh_path.specs.Paths.{path_of, IsFree}
use Rattle.wh_stand.proofs.Times.{path-read}
use Rattle.wh_stand.proofs.motion.first_in_the_way.Goals as goal

pub returns-then-not-are_free-clause-some : goal.returns-then-not-are_free-clause-some
returns-then-not-are_free-clause-some c =
    let F : List Cell → Type 0 = λ other. IsFree c.args.nofollow c.args.path.now other in
    record {
      known = c.loop-i-test.true;
      not_free = λ free. false≢true (sym c.if-not-are_free.true ∙ c.are_free.ensures.1
          (subst F (sym (path-read c.args.paths.now c.loop-i.i c.index-paths-i.result c.loop-i-test.true c.index-paths-i.is)) free));
      before = c.loop-i.invariant;
    }

pub loop-i-preserved : goal.loop-i-preserved
loop-i-preserved c =
    let F : List Cell → Type 0 = λ other. IsFree c.args.nofollow c.args.path.now other in
    below_more (λ (j : ℕ). F (path_of c.args.paths.now j)) c.loop-i.i c.loop-i.invariant
    (subst F (path-read c.args.paths.now c.loop-i.i c.index-paths-i.result c.loop-i-test.true c.index-paths-i.is) (c.are_free.ensures.0 c.if-not-are_free.false))

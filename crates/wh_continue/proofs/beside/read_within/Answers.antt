-- What was read is a front of what the file holds, and all of it where it ended.
use Rattle.std.proofs.Common.{rules, refl, sym, subst, inl, inr}
use Rattle.std.specs.Prelude.{IfSome}
use Rattle.wh_resume.specs.Resuming.{IsFront}
use Rattle.wh_continue.proofs.Fronts.{front_none, reads_on, reads_within}
use Rattle.wh_continue.proofs.beside.read_within.Goals as goal
use Rattle.wh_continue.proofs.beside.read_within.Goals.{then-len-place-via-then-len-place, then-len-place-via-else-len-place+then-len-most}

pub loop-init : goal.loop-init
loop-init g c = (refl, subst (λ held. IfSome (g.S.Source.held c.args.file.now) (IsFront held)) (sym c.new-held.ensures.items) (front_none (g.S.Source.held c.args.file.now)))

pub returns-then-len-place-clause-ok : goal.returns-then-len-place-clause-ok
returns-then-len-place-clause-ok g c = reads_within _ _ c.args.most c.len-place.result c.loop.held.items c.add_piece.new.buffer.items c.loop.invariant.0 (search rules) c.loop.invariant.1 c.in-Ok.ensures.ok
    (elim c.then-len-place.branch [
      | then-len-place-via-then-len-place w ↦ inl (search rules)
      | then-len-place-via-else-len-place+then-len-most w ↦ inr (search rules)
    ])

pub loop-preserved : goal.loop-preserved
loop-preserved g c = (
  search rules,
  reads_on _ _ c.len-place.result c.loop.held.items c.add_piece.new.buffer.items c.loop.invariant.0 (search rules) c.loop.invariant.1 c.in-Ok.ensures.ok,
)

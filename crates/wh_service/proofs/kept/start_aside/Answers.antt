use Rattle.std.proofs.Common.{rules, ◌≡◌, inl, inr, refl, subst}
use Rattle.std.specs.Prelude.{None, false}
use Rattle.wh_continue.specs.Besides.{StandsBeside}
use Rattle.wh_continue.specs.declared.beside.Beside.{Beside}
use Rattle.wh_continue.specs.declared.beside.Beside.TheVariants as aside
use Rattle.wh_service.proofs.kept.start_aside.Goals as goal

pub returns-then-is_none-clause-fault : goal.returns-then-is_none-clause-fault
returns-then-is_none-clause-fault g c =
    let whole : c.in-Ok.found ≡ aside.Whole = search rules in
    let unasked : c.args.anew ≡ false = search rules in
    let unbegun : c.in-Ok-start_over.start.bytes ≡ None = search rules in
    inr (inr (inl (record {
      told_is = refl;
      unasked = unasked;
      stands = subst (λ (found : Beside). StandsBeside (g.B.Journal.contents c.args.beside.now) c.args.text.now found) whole c.in-Ok.ensures.ok;
      start = c.in-Ok-start_over.start;
      starts = c.in-Ok-start_over.ensures.ok;
      unbegun = unbegun;
    })))

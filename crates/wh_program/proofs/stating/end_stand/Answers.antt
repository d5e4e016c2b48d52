use Rattle.std.proofs.Common.{◌∙◌, List, refl, subst}
use Rattle.std.specs.Prelude.{ℕ}
use Rattle.std.proofs.KnownBytes.{Keeps-refl}
use Rattle.wh_lines.specs.Output.{WritesFront}
use Rattle.wh_program.proofs.Whole.{shown}
use Rattle.wh_program.proofs.stating.end_stand.Goals as goal

pub returns-in-Ok : goal.returns-in-Ok
returns-in-Ok g c = rw c.in-Ok.is (refl, Keeps-refl (g.E.Write.contents c.args.errors.now))

pub returns-in-Err : goal.returns-in-Err
returns-in-Err g c =
    let had = g.E.Write.contents c.args.errors.now in
    let has = g.E.Write.contents c.write_text-shown.new.output in
    rw c.in-Err.is (
      c.status.ensures,
      subst (λ (l : List ℕ). WritesFront had has l) (c.as_slice.ensures.value ∙ c.text.ensures)
          (shown c.write_text-shown.result had has c.as_slice.result.now c.write_text-shown.ensures.ok c.write_text-shown.ensures.front),
    )

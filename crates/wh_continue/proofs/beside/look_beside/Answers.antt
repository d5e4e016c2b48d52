-- What was read is what the log file tells as a journal.
use Rattle.std.proofs.Common.{ℕ, List, Option, length, subst}
use Rattle.wh_resume.specs.Resuming.{IsFront}
use Rattle.wh_continue.specs.Besides.{HoldsWithin}
use Rattle.wh_continue.proofs.Fronts.{holds_other}
use Rattle.wh_continue.proofs.beside.look_beside.Goals as goal

pub returns-clause-fault : goal.returns-clause-fault
returns-clause-fault g c =
    let within = subst (λ (h : Option (List ℕ)). HoldsWithin h (length c.args.text.now) c.in-Ok.held.items) (g.met.L.LogFile.one_text c.args.file.now) c.in-Ok.ensures.ok in
    holds_other _ c.in-Ok.held.items c.args.text.now _ within (subst (λ t. IsFront t c.args.text.now → ⊥) c.as_slice.ensures.value c.in-None.ensures.none)

use Rattle.std.proofs.Common.{◌≤◌, inr, subst, sym, Option}
use Rattle.wh_resume.specs.declared.recovery.Preface.{Preface}
use Rattle.wh_continue.specs.Starting.{before_of}
use Rattle.wh_continue.proofs.starting.before_entries.Goals as goal

pub returns-in-None-clause-fault : goal.returns-in-None-clause-fault
returns-in-None-clause-fault c = inr (
  c.in-Some.preface,
  c.in-Some.is,
  subst (λ (p : Option Preface). 9223372036854775808 ≤ (before_of p).entries) (sym c.in-Some.is) c.in-None.ensures.none,
  c.counts_line.ensures,
)

use Rattle.std.proofs.Common.{rules, ◌≡◌, arith, subst}
use Rattle.wh_arrivals.specs.Arrivals.{IsFirstBad, TellsFault}
use Rattle.wh_arrivals.specs.declared.reading.ReadFault.{ReadFault}
use Rattle.wh_arrivals.specs.declared.reading.ReadFault.TheVariants.{BadLine}
use Rattle.wh_convoy.proofs.Found.{bad_within, reports_fit}
use Rattle.wh_convoy.proofs.finding.steps_told.Goals as goal

pub line_of-requires : goal.line_of-requires
line_of-requires c =
    let is : c.in-Err-BadLine.field-0 ≡ BadLine c.in-Err-BadLine.number = search rules in
    let bad : IsFirstBad c.args.agents c.in-Some.reports.now c.in-Err-BadLine.number = subst (λ (f : ReadFault). TellsFault c.args.agents c.in-Some.reports.now f) is c.in-Err-BadLine.ensures.err in
    let within = bad_within c.args.agents c.in-Some.reports.now c.in-Err-BadLine.number bad in
    let fits = reports_fit c.args.preface.now c.args.text.now c.in-Some.reports.now c.in-Some.ensures.some in
    record { few = omega (arith, within, fits) }

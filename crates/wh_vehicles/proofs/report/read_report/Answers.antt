use Rattle.wh_vehicles.proofs.Reading.{report_law, no_command_law}
use Rattle.wh_vehicles.proofs.report.read_report.Goals as goal

pub returns-clause-report : goal.returns-clause-report
returns-clause-report c = report_law c.args.line.now c.report_in.result c.report_in.ensures

pub returns-clause-no_command : goal.returns-clause-no_command
returns-clause-no_command c = no_command_law c.args.line.now c.report_in.result c.report_in.ensures

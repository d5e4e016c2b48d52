use Rattle.std.proofs.Common.{rules, ◌≡◌, List, ℕ, Some, None, Ok, Err}
use Rattle.wh_event.specs.CommandLines.{command_of}
use Rattle.wh_event.specs.declared.event.Command.{Command}
use Rattle.wh_event.specs.declared.fault.LineFault.{LineFault}
use Rattle.std.specs.Prelude.{Option, Result}
use Rattle.wh_event.proofs.Asking.{command_law, skipped_law, form_law, too_long_law}
use Rattle.wh_event.proofs.command_line.read_line.Goals as goal

abbrev Says : List ℕ → Result (Option Command) LineFault → Type 0
Says line said = said ≡ command_of line

pub returns-in-Ok-true-clause-command : goal.returns-in-Ok-true-clause-command
returns-in-Ok-true-clause-command c = let exact : Says c.args.line.now (Ok (Some c.read_line_into.new.command)) = search rules in command_law c.args.line.now (Ok (Some c.read_line_into.new.command)) exact

pub returns-in-Ok-true-clause-form : goal.returns-in-Ok-true-clause-form
returns-in-Ok-true-clause-form c = let exact : Says c.args.line.now (Ok (Some c.read_line_into.new.command)) = search rules in form_law c.args.line.now (Ok (Some c.read_line_into.new.command)) exact

pub returns-in-Ok-false-clause-skipped : goal.returns-in-Ok-false-clause-skipped
returns-in-Ok-false-clause-skipped c = let exact : Says c.args.line.now (Ok None) = search rules in skipped_law c.args.line.now (Ok None) exact

pub returns-in-Ok-false-clause-form : goal.returns-in-Ok-false-clause-form
returns-in-Ok-false-clause-form c = let exact : Says c.args.line.now (Ok None) = search rules in form_law c.args.line.now (Ok None) exact

pub returns-in-Err-clause-command : goal.returns-in-Err-clause-command
returns-in-Err-clause-command c = let exact : Says c.args.line.now (Err c.in-Err.fault) = search rules in command_law c.args.line.now (Err c.in-Err.fault) exact

pub returns-in-Err-clause-form : goal.returns-in-Err-clause-form
returns-in-Err-clause-form c = let exact : Says c.args.line.now (Err c.in-Err.fault) = search rules in form_law c.args.line.now (Err c.in-Err.fault) exact

pub returns-in-Err-clause-too_long : goal.returns-in-Err-clause-too_long
returns-in-Err-clause-too_long c = let exact : Says c.args.line.now (Err c.in-Err.fault) = search rules in too_long_law c.args.line.now (Err c.in-Err.fault) exact

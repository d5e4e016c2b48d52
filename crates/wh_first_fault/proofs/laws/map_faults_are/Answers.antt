use Rattle.wh_text.specs.Lines.{lines_of}
use Rattle.wh_first_fault.proofs.MapFound.{first_fault}
use Rattle.wh_first_fault.proofs.MapLaws.{one_line, no_map}
use Rattle.wh_first_fault.proofs.laws.map_faults_are.Goals as goal

pub returns-clause-first : goal.returns-clause-first
returns-clause-first c = λ text fault. first_fault (lines_of text) fault

pub returns-clause-line : goal.returns-clause-line
returns-clause-line c = one_line

pub returns-clause-none : goal.returns-clause-none
returns-clause-none c = no_map

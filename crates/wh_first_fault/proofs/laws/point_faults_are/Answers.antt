use Rattle.wh_text.specs.Lines.{lines_of}
use Rattle.wh_first_fault.proofs.PointFound.{first_fault}
use Rattle.wh_first_fault.proofs.PointLaws.{one_line, no_points}
use Rattle.wh_first_fault.proofs.laws.point_faults_are.Goals as goal

pub returns-clause-first : goal.returns-clause-first
returns-clause-first c = λ g text fault. first_fault g (lines_of text) fault

pub returns-clause-line : goal.returns-clause-line
returns-clause-line c = one_line

pub returns-clause-none : goal.returns-clause-none
returns-clause-none c = no_points

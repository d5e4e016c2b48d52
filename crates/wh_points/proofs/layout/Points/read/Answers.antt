use Rattle.wh_points.proofs.LayoutLaws.{read_layout, read_some}
use Rattle.wh_text.specs.Lines.{lines_of}
use Rattle.wh_points.proofs.FirstFault.{read_within, read_first}
use Rattle.wh_points.proofs.GrammarLaws.{read_found, read_only}
use Rattle.wh_points.proofs.layout.Points.read.Goals as goal

pub returns-clause-layout : goal.returns-clause-layout
returns-clause-layout c = read_layout c.args.grid.now c.args.text.now c.read_all.result c.read_all.ensures

pub returns-clause-found : goal.returns-clause-found
returns-clause-found c = read_found c.args.grid.now (lines_of c.args.text.now) c.read_all.result c.read_all.ensures

pub returns-clause-only : goal.returns-clause-only
returns-clause-only c = λ layout h. read_only c.args.grid.now (lines_of c.args.text.now) layout c.read_all.result h c.read_all.ensures

pub returns-clause-line : goal.returns-clause-line
returns-clause-line c = read_within c.args.grid.now (lines_of c.args.text.now) c.read_all.result c.read_all.ensures

pub returns-clause-first : goal.returns-clause-first
returns-clause-first c = read_first c.args.grid.now (lines_of c.args.text.now) c.read_all.result c.read_all.ensures

pub returns-clause-agents : goal.returns-clause-agents
returns-clause-agents c = read_some c.args.grid.now c.args.text.now c.read_all.result c.read_all.ensures

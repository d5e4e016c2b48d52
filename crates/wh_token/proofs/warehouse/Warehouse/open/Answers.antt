use Rattle.wh_token.proofs.warehouse.Warehouse.open.Goals as goal

pub returns-clause-refused : goal.returns-clause-refused
returns-clause-refused g c = rw c.new.ensures at c.open_over.ensures.refused

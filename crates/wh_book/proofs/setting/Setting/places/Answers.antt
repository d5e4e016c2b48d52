use Rattle.wh_book.proofs.setting.Setting.places.Goals as goal

pub returns-clause-fault : goal.returns-clause-fault
returns-clause-fault c = rw (← c.self.view_is) c.places_of.ensures.fault

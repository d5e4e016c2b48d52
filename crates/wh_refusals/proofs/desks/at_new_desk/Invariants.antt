use Rattle.wh_live.specs.Pasts.{origin_of}
use Rattle.wh_refusals.proofs.desks.at_new_desk.Given as goal

-- the cells, the publisher and the warehouse that were just made
abbrev pub ghosts-at_desk : goal.ghosts-at_desk
ghosts-at_desk g a = record { cells = a.cells; book = a.publisher.book; origin = origin_of a.warehouse.book; callers = 2 }

use Rattle.wh_board.specs.Pasts.{origin_of}
use Rattle.wh_drills.proofs.stage.drill_made.Given as goal

-- those of the outfit
abbrev pub ghosts-open : goal.ghosts-open
ghosts-open g a = record { cells = a.outfit.cells; book = a.outfit.publisher.book; origin = origin_of a.outfit.warehouse.book; callers = a.callers }

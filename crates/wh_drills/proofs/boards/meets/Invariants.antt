use Rattle.wh_board.specs.Pasts.{origin_of}
use Rattle.wh_drills.proofs.boards.meets.Given as goal

-- those of the outfit
abbrev pub ghosts-looked : goal.ghosts-looked
ghosts-looked g a = record { cells = a.outfit.cells; book = a.outfit.publisher.book; origin = origin_of a.outfit.warehouse.book; callers = 1 }

use Rattle.wh_board.specs.Pasts.{origin_of}
use Rattle.wh_drills.proofs.swaps.swap_made.Given as goal

-- those of the outfit
abbrev pub ghosts-swap : goal.ghosts-swap
ghosts-swap g a = record { cells = a.outfit.cells; book = a.outfit.publisher.book; origin = origin_of a.outfit.warehouse.book; callers = 1 }

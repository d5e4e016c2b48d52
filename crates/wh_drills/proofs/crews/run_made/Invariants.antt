use Rattle.std.proofs.Common.{length}
use Rattle.wh_board.specs.Pasts.{origin_of}
use Rattle.wh_drills.proofs.crews.run_made.Given as goal

-- those of the outfit, and as many callers as works
abbrev pub ghosts-run : goal.ghosts-run
ghosts-run g a = record { cells = a.outfit.cells; book = a.outfit.publisher.book; origin = origin_of a.outfit.warehouse.book; callers = length a.works.items }

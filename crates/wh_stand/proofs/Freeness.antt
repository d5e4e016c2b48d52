-- what has a first conflict is not free
use Rattle.std.proofs.Common.{List, Bool}
use Rattle.wh_grid.specs.declared.cell.Cell.{Cell}
use Rattle.wh_path.specs.Paths.{IsFree}
use Rattle.wh_path.specs.Conflicts.{IsFirstConflict}
use Rattle.wh_path.specs.declared.kind.Conflict.{Conflict}

pub conflict-not_free : (nofollow : Bool) (p q : List Cell) (conflict : Conflict) → IsFirstConflict nofollow p q conflict → ¬ IsFree nofollow p q
conflict-not_free nofollow p q (Conflict.Vertex k) first free = free.apart k first.1
conflict-not_free nofollow p q (Conflict.Swap k) first free = free.no_swap k first.2
conflict-not_free nofollow p q (Conflict.Follow k) first free = free.no_follow first.3 k first.4

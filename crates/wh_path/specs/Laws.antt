-- laws of paths that are free of each other
use Rattle.std.specs.Prelude.{List, Bool, true, false}
use Rattle.wh_grid.specs.declared.cell.Cell.{Cell}
use Rattle.wh_path.specs.Paths.{IsFree, advanced}

-- a path that is free of another has the other free of it
abbrev pub FreedomIsMutual : Type 0
FreedomIsMutual = (nofollow : Bool) (p q : List Cell) → IsFree nofollow p q → IsFree nofollow q p

-- two free paths stay free when both go on by one step
abbrev pub FreedomLasts : Type 0
FreedomLasts = (nofollow : Bool) (p q : List Cell) → IsFree nofollow p q → IsFree nofollow (advanced p) (advanced q)

-- what is free under the rule against following is free without it
abbrev pub FreedomNeedsNoRule : Type 0
FreedomNeedsNoRule = (p q : List Cell) → IsFree true p q → IsFree false p q

-- What a points file says: its layout, or the first fault with its line.
use Rattle.std.specs.Prelude.{◌≡◌, ℕ, ◌+◌, ◌≤◌, false, List, [], ◌∷◌, ◌++◌, length, take, Result, Ok, Err}
use Rattle.wh_text.specs.Lines.{lines_of}
use Rattle.wh_grid.specs.Grids.{Floor}
use Rattle.wh_grid.specs.Faults.{◌>>=◌}
use Rattle.wh_points.specs.declared.fault.FaultKind.{FaultKind}
use Rattle.wh_points.specs.declared.fault.FaultKind.TheVariants.{NoAgent}
use Rattle.wh_points.specs.declared.fault.Fault.{Fault}
use Rattle.wh_points.specs.declared.fault.PointFault.{PointFault}
use Rattle.wh_points.specs.declared.fault.PointFault.TheVariants.{NoMemory, At}
use Rattle.wh_points.specs.declared.fault.Refused.{Refused}
use Rattle.wh_points.specs.declared.fault.Refused.TheVariants as refused
use Rattle.wh_points.specs.Points.{Layout}
use Rattle.wh_points.specs.PointLines.{line_of}

abbrev pub empty : Layout
empty = record { points = []; agents = []; nofollow = false }

-- what a line says, or its fault at its number
abbrev pub located : ℕ → Result Layout FaultKind → Result Layout Fault
located number (Ok layout) = Ok layout
located number (Err kind) = Err (record { kind = kind; line = number })

-- there must be an agent
abbrev pub whole : ℕ → Layout → List ℕ → Result Layout Fault
whole last layout [] = Err (record { kind = NoAgent; line = last + 1 })
whole last layout (n ∷ agents) = Ok layout

-- the lines that are left, after as many as were counted gave this layout
unfoldable pub layout_from : Floor → Layout → ℕ → List (List ℕ) → Result Layout Fault
layout_from g layout count [] = whole count layout layout.agents
layout_from g layout count (line ∷ lines) = do
  next ← located (count + 1) (line_of g layout line)
  layout_from g next (count + 1) lines

abbrev pub layout_at : Floor → List ℕ → Result Layout Fault
layout_at g text = layout_from g empty 0 (lines_of text)

-- what a function returned is what a line says, unless memory ran out
abbrev pub Takes : Result Layout Refused → Result Layout FaultKind → Type 0
Takes (Ok layout) read = read ≡ Ok layout
Takes (Err refused.NoMemory) read = Unit {0}
Takes (Err (refused.Line kind)) read = read ≡ Err kind

-- what a function returned is what reading gives, unless memory ran out
abbrev pub Gives : Result Layout PointFault → Result Layout Fault → Type 0
Gives (Ok layout) read = read ≡ Ok layout
Gives (Err NoMemory) read = Unit {0}
Gives (Err (At fault)) read = read ≡ Err fault

-- why reading ends where a line is refused
abbrev pub fault_of : ℕ → Refused → PointFault
fault_of number refused.NoMemory = NoMemory
fault_of number (refused.Line kind) = At (record { kind = kind; line = number })

-- a fault's line is one of these, counted from 1
abbrev pub IsWithin : ℕ → PointFault → Type 0
IsWithin last NoMemory = Unit {0}
IsWithin last (At fault) = (1 ≤ fault.line) × (fault.line ≤ last)

-- nothing after a fault's line changes it
abbrev pub IsFirst : Floor → List (List ℕ) → PointFault → Type 0
IsFirst g lines NoMemory = Unit {0}
IsFirst g lines (At fault) = fault.line ≤ length lines → (more : List (List ℕ)) → layout_from g empty 0 (take fault.line lines ++ more) ≡ Err fault

-- what the check of an instance returns
use Rattle.std.specs.Prelude.{◌≡◌, ℕ, ◌<◌, ◌≤◌, ◌⊎◌, List, length}
use Rattle.wh_grid.specs.declared.cell.Cell.{Cell}
use Rattle.wh_points.specs.Points.{Layout, Site, parkings, point_at}
use Rattle.wh_points.specs.Formed.{IsFormed, IsJoin}
use Rattle.wh_formed.specs.declared.verdict.Verdict.{Verdict}
use Rattle.wh_formed.specs.declared.verdict.Verdict.TheVariants.{FewParkings, Cut, Formed}

-- some walk joins the two cells and meets no third point
abbrev pub JoinedBy : Site → Cell → Cell → Type 0
JoinedBy site c d = (walk : List Cell) × IsJoin site c d walk

-- the cell of the point of a number, from 0
abbrev pub cell_of : Layout → ℕ → Cell
cell_of layout n = (point_at layout.points n).cell

-- the points of two numbers are joined by a walk that meets no third point
abbrev pub AreJoined : Site → ℕ → ℕ → Type 0
AreJoined site a b = JoinedBy site (cell_of site.layout a) (cell_of site.layout b)

-- the pair k, l comes before the pair a, b: by its first point, then by its second
abbrev pub ComesBefore : ℕ → ℕ → ℕ → ℕ → Type 0
ComesBefore k l a b = (k < a) ⊎ ((k ≡ a) × (l < b))

-- the first pair of points, a before b in the order of their file, that is not joined
pub record IsFirstCut (site : Site) (a b : ℕ) : Type 0 where
  pub in_order : a < b
  pub inside : b < length site.layout.points
  pub cut : ¬ AreJoined site a b
  pub first : (k l : ℕ) → k < l → l < length site.layout.points → ComesBefore k l a b → AreJoined site k l

-- the verdict on an instance: too few parkings comes before a cut
abbrev pub IsVerdict : Site → Verdict → Type 0
IsVerdict site (FewParkings have need) = (have ≡ parkings site.layout) × (need ≡ length site.layout.agents) × (have < need)
IsVerdict site (Cut a b) = (length site.layout.agents ≤ parkings site.layout) × IsFirstCut site a b
IsVerdict site Formed = IsFormed site

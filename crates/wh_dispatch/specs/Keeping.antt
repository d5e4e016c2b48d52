-- which reports are kept
use Rattle.std.specs.Prelude.{◌≡◌, ℕ, ◌&&◌, Bool, nat_lt, nat_le, cond, List, [], ◌∷◌, ◌++◌, length, Option, Some, None}
use Rattle.wh_grid.specs.Grids.{Floor}
use Rattle.wh_replay.specs.declared.asker.Asker.{Asker}
use Rattle.wh_drive.specs.Drives.{Drive, reached, told}
use Rattle.wh_vehicles.specs.Reports.{report_of}
use Rattle.wh_vehicles.specs.declared.report.Report.{Report}
use Rattle.wh_dispatch.specs.Lines.{Depot, ServesLine, heard}

-- the report moves its vehicle: the step was told to it, and it had not reached it
abbrev pub moves : Drive → Report → Bool
moves d report = nat_lt report.agent (length d.vehicles) && (nat_lt (reached d report.agent) report.step && nat_le report.step (told d report.agent))

abbrev pub kept_if : Drive → List ℕ → Option Report → List (List ℕ)
kept_if d line None = []
kept_if d line (Some report) = cond (moves d report) (line ∷ []) []

-- a line is kept where it is a report that moves its vehicle
abbrev pub kept_of : Drive → List ℕ → List (List ℕ)
kept_of d line = kept_if d line (report_of line)

-- the same of a line of which nothing is known where it is longer than 256 bytes
abbrev pub kept_in : Drive → Option (List ℕ) → List (List ℕ)
kept_in d None = []
kept_in d (Some line) = kept_of d line

-- All lines were served, one after another, and these of them are kept.
abbrev pub KeepsAll : {X : Type 0} → (X → Floor → Bool) → (X → ℕ) → Asker → ℕ → List (List ℕ) → Depot X → Depot X → List (List ℕ) → List (List ℕ) → Type 0
KeepsAll fits count asker bound [] old new texts kept = (new ≡ old) × (texts ≡ []) × (kept ≡ [])
KeepsAll {X} fits count asker bound (line ∷ lines) old new texts kept =
    (mid : Depot X) × (first : List (List ℕ)) × (rest : List (List ℕ)) × (later : List (List ℕ)) × ServesLine fits count asker bound (heard line) old mid first
    × KeepsAll fits count asker bound lines mid new rest later × (texts ≡ first ++ rest) × (kept ≡ kept_of old.drive line ++ later)

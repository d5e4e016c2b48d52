-- the laws of lines that are kept
use Rattle.std.specs.Prelude.{◌≡◌, ℕ, Bool, false, List}
use Rattle.wh_grid.specs.Grids.{Floor}
use Rattle.wh_replay.specs.declared.asker.Asker.{Asker}
use Rattle.wh_drive.specs.Drives.{Drive}
use Rattle.wh_vehicles.specs.Driving.{AnswersReport}
use Rattle.wh_vehicles.specs.declared.report.Report.{Report}
use Rattle.wh_vehicles.specs.declared.notice.Notice.{Notice}
use Rattle.wh_dispatch.specs.Lines.{Depot, ServesAll}
use Rattle.wh_dispatch.specs.Keeping.{KeepsAll, moves}

-- Lines that are kept so are served so: all laws of scripts with vehicles hold of them.
abbrev pub KeptIsServed : {X : Type 0} → (X → Floor → Bool) → (X → ℕ) → Asker → Type 0
KeptIsServed {X} fits count asker =
    (bound : ℕ) (lines : List (List ℕ)) (old new : Depot X) (texts kept : List (List ℕ)) → KeepsAll fits count asker bound lines old new texts kept →
    ServesAll fits count asker bound lines old new texts

-- A report that does not move its vehicle leaves all vehicles where they are.
abbrev pub EachMoveIsKept : Type 0
EachMoveIsKept = (d : Drive) (report : Report) (notice : Notice) (e : Drive) → moves d report ≡ false → AnswersReport d report notice e → e ≡ d

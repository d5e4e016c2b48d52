-- what a log tells of callers
use Rattle.std.proofs.Common.{ℕ, List, [], ◌∷◌}
use Rattle.std.specs.List.{AllByRecursion}
use Rattle.wh_event.specs.declared.entry.Entry.{Entry}
use Rattle.wh_log.specs.Ranges.{Keeps}
use Rattle.wh_snapshot.specs.Snapshots.{HaveCallers}

-- the entries of a log have callers that a front can tell
pub callers_kept : (most : ℕ) (entries : List Entry) → AllByRecursion (Keeps most) entries → HaveCallers entries
callers_kept most [] kept = tt
callers_kept most (entry ∷ entries) kept = (kept.0.caller, callers_kept most entries kept.1)

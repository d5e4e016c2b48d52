-- what a run starts from is a run from an opening, where its log begins with two lines
use Rattle.std.proofs.Common.{◌≡◌, ℕ, List, subst}
use Rattle.std.specs.Prelude.{Option, Some, None}
use Rattle.wh_points.specs.Points.{Site}
use Rattle.wh_core.specs.Laws.{IsOpening, IsBeginning}
use Rattle.wh_book.proofs.Kept.{begun-opening}
use Rattle.wh_resume.specs.declared.recovery.Preface.{Preface}
use Rattle.wh_continue.specs.Starting.{StartsAt, StartsIn}
use Rattle.wh_continue.specs.declared.starting.Start.{Start}

pub start_opening : (site : Site) (slots text : List ℕ) (start : Start) → StartsIn site slots text start → start.preface ≡ None → IsBeginning site start.book.opening →
    IsOpening site start.book.opening
start_opening site slots text start starts none begins = at start.bytes (subst (λ (p : Option Preface). StartsAt site slots text p start.version start.book start.bytes) none starts.at)
  where
    at : (bytes : Option ℕ) → StartsAt site slots text None start.version start.book bytes → IsOpening site start.book.opening
    at None b = begun-opening site start.book.opening 0 slots begins b.0.unbegun.opening_is
    at (Some n) g = begun-opening site start.book.opening g.content.clock g.content.slots begins g.goes_on.opening_is

-- that each client was served
use Rattle.std.specs.Prelude.{◌≡◌, ℕ, List, Some, slice_get}
use Rattle.wh_desk.specs.Lists.{Received}

-- the client and the pass are those at place i
pub record IsDue {C : Type 0} (clients : List C) (passes : List Received) (i : ℕ) (client : C) (had : Received) : Type 0 where
  pub had_is : slice_get passes i ≡ Some had
  pub client_is : slice_get clients i ≡ Some client

-- the client at place i was served over this many connections
abbrev pub ReportAt : {C : Type 0} → (C → Received → Received → ℕ → Type 0) → List C → List Received → ℕ → Received → ℕ → Type 0
ReportAt {C} serves clients passes i has connections =
    (client : C) (had : Received) → slice_get clients i ≡ Some client → slice_get passes i ≡ Some had → serves client had has connections

-- Each client was served with the pass at its place, over as many connections as stand at its place, and its pass was left as it
-- stands there in the second list of passes.
abbrev pub AllReported : {C : Type 0} → (C → Received → Received → ℕ → Type 0) → List C → List Received → List Received → List ℕ → Type 0
AllReported {C} serves clients passes left connections =
    (i : ℕ) (client : C) (had has : Received) (times : ℕ) → slice_get clients i ≡ Some client → slice_get passes i ≡ Some had
    → slice_get left i ≡ Some has → slice_get connections i ≡ Some times → serves client had has times

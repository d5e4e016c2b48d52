-- a line that is answered nothing, since the journal has failed
use Rattle.std.specs.Prelude.{◌≡◌, ◌≤◌, ℕ, Bool, List, length}
use Rattle.wh_grid.specs.Grids.{Floor}
use Rattle.wh_event.specs.declared.entry.Entry.{Entry}
use Rattle.wh_desk.specs.Lists.{Received}
use Rattle.wh_serve.specs.Sayings.{asked}
use Rattle.wh_serve.specs.declared.allowance.Allowance.{Allowance}
use Rattle.wh_serve.specs.declared.said.Said.{Said}
use Rattle.wh_serve.specs.declared.call.Lost.{Lost}
use Rattle.wh_serve.specs.declared.call.Lost.TheVariants as lost
use Rattle.wh_serve.specs.Outcomes.{Gives, answers}

-- Where the journal had failed before, the line was not served, and all is as it was; where it failed at the line's call, the line
-- was served, and its reply is told to nobody.
abbrev pub Loses : {X : Type 0} → Allowance → ℕ → (X → Floor → Bool) → (X → ℕ) → Floor → (ℕ × Entry → List ℕ) → Said
    → Received → List X → Received → List X → Lost → Type 0
Loses may cells fits count grid text line old spares new rest lost.Failed = (new ≡ old) × (rest ≡ spares)
Loses may cells fits count grid text line old spares new rest lost.Unkept =
    (replies : List (List ℕ)) × Gives may cells fits count grid (asked line) (answers may.rights text line) old spares new rest replies × (length replies ≤ 1)

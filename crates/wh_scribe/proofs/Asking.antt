-- What calls leave that were not made, and what a request by who is next to ask tells of the history.
use Rattle.std.proofs.Common.{◌≡◌, ◌⊎◌, inl, inr, ℕ, Bool, List, Some, slice_get, refl, ap, sym, ◌∙◌, subst}
use Rattle.wh_grid.specs.Grids.{Floor}
use Rattle.wh_event.specs.declared.entry.Entry.{Entry}
use Rattle.wh_event.specs.declared.event.Command.{Command}
use Rattle.wh_core.specs.Steps.{Run}
use Rattle.wh_board.specs.Pasts.{Origin}
use Rattle.wh_desk.specs.Lists.{IsRunFrom, Received}
use Rattle.wh_desk.specs.Calls.{AskedNext}
use Rattle.wh_desk.specs.declared.answer.DeskFault.{DeskFault}
use Rattle.wh_scribe.specs.Calls.{Leaves, LeavesNext}
use Rattle.wh_scribe.specs.declared.calling.CallFault.{CallFault}

-- a call that was not made leaves all as it was
pub unmade_leaves : {X : Type 0} (fits : X → Floor → Bool) (count : X → ℕ) (grid : Floor) (cells : ℕ) (command : Command) (had : Received) (spares : List X) (fault : CallFault)
    → (fault ≡ CallFault.Failed) ⊎ (fault ≡ CallFault.Refused DeskFault.NoMemory) → Leaves fits count grid cells command had spares fault had spares
unmade_leaves fits count grid cells command had spares fault (inl is) = subst (λ (f : CallFault). Leaves fits count grid cells command had spares f had spares) (sym is) (refl, refl)
unmade_leaves fits count grid cells command had spares fault (inr is) = subst (λ (f : CallFault). Leaves fits count grid cells command had spares f had spares) (sym is) (refl, refl)

pub unmade_leaves_next : (origin : Origin) (cells : ℕ) (had : Received) (asked : List Bool) (fault : CallFault)
    → (fault ≡ CallFault.Failed) ⊎ (fault ≡ CallFault.Refused DeskFault.NoMemory) → LeavesNext origin cells had asked fault had asked
unmade_leaves_next origin cells had asked fault (inl is) = subst (λ (f : CallFault). LeavesNext origin cells had asked f had asked) (sym is) (refl, refl)
unmade_leaves_next origin cells had asked fault (inr is) = subst (λ (f : CallFault). LeavesNext origin cells had asked f had asked) (sym is) (refl, refl)

-- the pass knows a run
pub asked_run : (origin : Origin) (had : Received) (asked : List Bool) (has : Received) (marked : List Bool) (position : ℕ) (entry : Entry) → AskedNext origin had asked has marked position entry → IsRunFrom origin has.known
asked_run origin had asked has marked position entry a = (a.called.state, subst (λ (l : List Entry). Run origin.site origin.opening l a.called.state) (sym a.called.has_known) a.called.run)

-- and there the entry stands
pub asked_stands : (origin : Origin) (had : Received) (asked : List Bool) (has : Received) (marked : List Bool) (position : ℕ) (entry : Entry) → AskedNext origin had asked has marked position entry
    → slice_get has.known position ≡ Some entry
asked_stands origin had asked has marked position entry a = ap (λ (l : List Entry). slice_get l position) a.called.has_known ∙ a.called.stands

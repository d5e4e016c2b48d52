-- A line that is answered nothing, since the journal has failed.
use Rattle.std.proofs.Common.{◌≡◌, ℕ, List, Bool, refl, subst, sym}
use Rattle.wh_grid.specs.Grids.{Floor}
use Rattle.wh_event.specs.declared.entry.Entry.{Entry}
use Rattle.wh_event.specs.declared.event.Command.{Command}
use Rattle.wh_desk.specs.Lists.{Received}
use Rattle.wh_serve.specs.Calls.{Comes}
use Rattle.wh_serve.specs.Losses.{Loses}
use Rattle.wh_serve.specs.declared.allowance.Allowance.{Allowance}
use Rattle.wh_serve.specs.declared.said.Said.{Said}
use Rattle.wh_serve.specs.declared.said.Said.TheVariants.{Asks}
use Rattle.wh_serve.specs.declared.call.Lost.{Lost}
use Rattle.wh_serve.specs.declared.call.Lost.TheVariants as lost
use Rattle.wh_serve.specs.declared.call.Came.TheVariants as came
use Rattle.wh_serve.proofs.Giving.{answered_untold}

pub loses_of : {X : Type 0} (may : Allowance) (cells : ℕ) (fits : X → Floor → Bool) (count : X → ℕ) (grid : Floor) (text : ℕ × Entry → List ℕ) (line : Said) (command : Command)
    (old : Received) (spares : List X) (new : Received) (rest : List X) (why : Lost) → Asks command ≡ line
    → Comes may cells fits count grid command old spares new rest (came.Lost why) → Loses may cells fits count grid text line old spares new rest why
loses_of may cells fits count grid text line command old spares new rest lost.Failed e c = c
loses_of may cells fits count grid text line command old spares new rest lost.Unkept e c =
    answered_untold may cells fits count grid text line old spares command new rest e c.0 c.1

-- a stop at a journal that had failed
pub loses_stop : {X : Type 0} (may : Allowance) (cells : ℕ) (fits : X → Floor → Bool) (count : X → ℕ) (grid : Floor) (text : ℕ × Entry → List ℕ) (line : Said)
    (old : Received) (spares : List X) (why : Lost) → why ≡ lost.Failed → Loses may cells fits count grid text line old spares old spares why
loses_stop may cells fits count grid text line old spares why is = subst (λ (l : Lost). Loses may cells fits count grid text line old spares old spares l) (sym is) (refl, refl)

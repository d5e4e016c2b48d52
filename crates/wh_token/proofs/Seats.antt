-- Planners that stay in their seats.
use Rattle.std.proofs.Common.{◌≡◌, ℕ, List, length, ap, subst, sym}
use Rattle.std.specs.Prelude.{slice_get}
use Rattle.std.proofs.Math.ListN.{set}
use Rattle.std.proofs.lemmas.List.{length-set}
use Rattle.wh_event.specs.declared.event.Command.{Command}
use Rattle.wh_token.specs.Fleet.{OthersStay, StaySeated}
use Rattle.wh_token.proofs.Fleet.{slice_get-set_other}

pub others_same : {X : Type 0} (agent : ℕ) (old new : List X) → new ≡ old → OthersStay agent old new
others_same agent old new same = record { seats = ap length same; others = λ k apart. ap (λ l. slice_get l k) same }

-- the agent's own planner alone was asked
pub others_asked : {X : Type 0} (agent : ℕ) (old planners : List X) (planner : X) → planners ≡ old → OthersStay agent old (set planners agent planner)
others_asked {X} agent old planners planner same =
    subst (λ (l : List X). OthersStay agent l (set planners agent planner)) same
    (record { seats = length-set planners agent planner; others = λ k apart. slice_get-set_other planners agent k planner apart })

pub seated_same : {X : Type 0} (command : Command) (old new : List X) → new ≡ old → StaySeated command old new
seated_same (Command.Token agent) old new same = others_same agent old new same
seated_same (Command.Submit client stops) old new same = same
seated_same Command.Tick old new same = same
seated_same (Command.Replace agent) old new same = same
seated_same Command.Close old new same = same

pub seated_token : {X : Type 0} (command : Command) (agent : ℕ) (old new : List X) → command ≡ Command.Token agent → OthersStay agent old new → StaySeated command old new
seated_token {X} command agent old new is stay = subst (λ (c : Command). StaySeated c old new) (sym is) stay

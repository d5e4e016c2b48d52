-- a state that an answer leaves is one that a run reaches
use Rattle.std.proofs.Common.{◌≡◌, Bool, true, false, refl, sym, subst}
use Rattle.wh_points.specs.Points.{Site}
use Rattle.wh_core.specs.States.{State}
use Rattle.wh_core.specs.Laws.{AllOnTheirWays}
use Rattle.wh_event.specs.declared.event.Event.{Event}
use Rattle.wh_event.specs.declared.reply.Reply.{Reply}
use Rattle.wh_event.specs.declared.entry.Entry.{Entry}
use Rattle.wh_judge.specs.Judged.{Decides, IsReachable, IsStep}
use Rattle.wh_judge.proofs.Reachable.{reached-step, ways-step}

pub reached-bool : (site : Site) (old : State) (reply : Reply) (event : Event) (new : State) (b : Bool) → IsReachable site old →
    Decides site old reply event new b → (b ≡ false → new ≡ old) → IsReachable site new
reached-bool site old reply event new true reached answer kept =
    let entry : Entry = record { caller = 0; event = event; reply = reply } in
    reached-step site old entry new reached answer
reached-bool site old reply event new false reached answer kept = subst (λ s. IsReachable site s) (sym (kept refl)) reached

-- and once all are on their ways they stay so
pub ways-bool : (site : Site) (old : State) (reply : Reply) (event : Event) (new : State) (b : Bool) → IsReachable site old → AllOnTheirWays site old →
    Decides site old reply event new b → (b ≡ false → new ≡ old) → AllOnTheirWays site new
ways-bool site old reply event new true reached home answer kept =
    let entry : Entry = record { caller = 0; event = event; reply = reply } in
    ways-step site old entry new reached home answer
ways-bool site old reply event new false reached home answer kept = subst (λ s. AllOnTheirWays site s) (sym (kept refl)) home

-- an answer to an entry's event, by its reply, is a step
pub step-bool : (site : Site) (old : State) (entry : Entry) (new : State) (b : Bool) → Decides site old entry.reply entry.event new b → IsStep site old entry new b
step-bool site old entry new true answer = answer
step-bool site old entry new false answer = answer

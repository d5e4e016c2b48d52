-- what comes back of a planner that was handed in
use Rattle.std.proofs.Common.{◌≡◌, ℕ, ◌<◌, List, ◌∷◌, [], length, refl, ap, subst, sym, ◌∙◌, arith}
use Prim.Native.Nat.{zero, suc}
use Rattle.std.specs.Prelude.{Option, Some, None, Bool, slice_get, slice_set}
use Rattle.wh_grid.specs.Grids.{Floor}
use Rattle.std.proofs.lemmas.Option.{same_Some, none-some}
use Rattle.wh_points.specs.Points.{Site}
use Rattle.wh_event.specs.declared.event.Spare.{Spare}
use Rattle.wh_event.specs.declared.event.Command.{Command}
use Rattle.wh_event.specs.declared.event.Event.{Event}
use Rattle.wh_event.specs.declared.reply.Reply.{Reply}
use Rattle.wh_core.specs.States.{State}
use Rattle.wh_core.specs.Steps.{Answers}
use Rattle.wh_event.specs.declared.entry.Entry.{Entry}
use Rattle.wh_token.specs.Commands.{event_of}
use Rattle.wh_token.specs.Fleet.{AllFit, StaySeated, Swaps, replaced_agent, replaced_by}
use Rattle.wh_desk.specs.Calls.{HandsBack, IsAskedBy, Reseats}

-- the agent whose planner is replaced is there
pub seated : (site : Site) (old : State) (reply : Reply) (event : Event) (new : State) (agent : ℕ) →
    Answers site old reply event new → replaced_by reply event ≡ Some agent → agent < length old.paths
seated site old (Reply.Replaced slots) (Event.Replace a (Spare.Fits count)) new agent step is =
    let same : a ≡ agent = same_Some a agent is in subst (λ n. n < length old.paths) same step.0.known
seated site old (Reply.Replaced slots) (Event.Replace a Spare.None) new agent step is = absurd step
seated site old (Reply.Replaced slots) (Event.Replace a Spare.Foreign) new agent step is = absurd step
seated site old reply event new agent step is = absurd (none-some agent is)

some_get : {X : Type 0} (xs : List X) (k : ℕ) → k < length xs → (x : X) × (slice_get xs k ≡ Some x)
some_get [] k h = absurd (omega arith)
some_get (x ∷ xs) zero h = (x, refl)
some_get (x ∷ xs) (suc k) h = some_get xs k (omega arith)

-- what is swapped comes back, and planned on the map in its seat
pub handed_back : {X : Type 0} (fits : X → Floor → Bool) (grid : Floor) (seat : Option ℕ) (planners : List X) (handed : Option X) (after : List X) (back : Option X) →
    ((agent : ℕ) → seat ≡ Some agent → agent < length planners) → AllFit fits grid planners → Swaps seat planners handed after back → HandsBack fits grid seat handed back
handed_back fits grid (Some agent) planners (Some planner) after back there fit swaps =
    let seated = some_get planners agent (there agent refl) in
    (seated.0, swaps.1 ∙ seated.1, fit agent seated.0 seated.1)
handed_back fits grid (Some agent) planners None after back there fit swaps = swaps.1
handed_back fits grid None planners handed after back there fit swaps = swaps.1

-- what is swapped had its seat before the call, since a Replace asks no planner
reseats_by : {X : Type 0} (reply : Reply) (command : Command) (told : Spare) (old mid : List X) (handed : Option X) (new : List X) (back : Option X)
    → StaySeated command old mid → Swaps (replaced_by reply (event_of command told)) mid handed new back
    → Reseats command (replaced_by reply (event_of command told)) old handed new back
reseats_by (Reply.Replaced slots) (Command.Replace agent) told old mid (Some planner) new back stay swaps =
    (swaps.0 ∙ ap (λ l. slice_set l agent planner) stay, swaps.1 ∙ ap (λ l. slice_get l agent) stay)
reseats_by (Reply.Replaced slots) (Command.Replace agent) told old mid None new back stay swaps = (swaps.0 ∙ stay, swaps.1)
reseats_by {X} reply command told old mid handed new back stay swaps =
    (subst (λ (l : List X). StaySeated command old l) (sym swaps.0) stay, swaps.1)

-- the same by the entry that answers the command
pub reseats : {X : Type 0} (entry : Entry) (command : Command) (old mid : List X) (handed : Option X) (new : List X) (back : Option X)
    → IsAskedBy command entry.event → StaySeated command old mid → Swaps (replaced_agent entry) mid handed new back
    → Reseats command (replaced_agent entry) old handed new back
reseats entry command old mid handed new back asked stay swaps =
    subst (λ event. Reseats command (replaced_by entry.reply event) old handed new back) (sym asked.1)
    (reseats_by entry.reply command asked.0 old mid handed new back stay
    (subst (λ event. Swaps (replaced_by entry.reply event) mid handed new back) asked.1 swaps))

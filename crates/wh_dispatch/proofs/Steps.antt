-- whether a command takes the clock on
use Rattle.std.proofs.Common.{◌≡◌, ◌≢◌, ℕ, ◌+◌, ◌^◌, ◌<◌, ◌≤◌, ◌∙◌, length, arith, List, [], ◌∷◌, Option, Some, None, Ok, sym, subst, refl, ap, Bool}
use Rattle.wh_grid.specs.Grids.{Floor}
use Rattle.wh_points.specs.Points.{Site}
use Rattle.wh_event.specs.declared.event.Command.{Command}
use Rattle.wh_event.specs.declared.event.Command.TheVariants.{Submit, Token, Tick, Replace, Close}
use Rattle.wh_event.specs.declared.event.Event.{Event}
use Rattle.wh_event.specs.declared.event.Spare.{Spare}
use Rattle.wh_event.specs.declared.entry.Entry.{Entry}
use Rattle.wh_event.specs.declared.reply.Reply.{Reply}
use Rattle.wh_core.specs.States.{State}
use Rattle.wh_core.specs.Steps.{Answers, Step}
use Rattle.wh_core.proofs.Sound.{sound-reached}
use Rattle.wh_book.specs.Drafts.{Seen}
use Rattle.wh_token.specs.Commands.{event_of}
use Rattle.wh_token.specs.Runs.{Ran}
use Rattle.wh_drive.specs.Drives.{Drive, MayTick, ticked}
use Rattle.wh_order.specs.Orders.{Order}
use Rattle.wh_order.proofs.Asking.{vehicles-size}
use Rattle.wh_vehicles.specs.Plans.{taken, places}
use Rattle.wh_vehicles.proofs.Planning.{size, each_step_may_be_taken}
use Rattle.wh_dispatch.specs.Crews.{Crew, IsManned}
use Rattle.wh_dispatch.specs.Lines.{AsksToGoOn, gone_on}

-- the clock stays, and so does each plan; or a tick was asked for, and each plan goes on with the clock
pub data Turns (site : Site) (s : State) (c : Command) (new : State) (after : Drive → Drive) : Type 0 where
  stays : new.clock ≡ s.clock → ((d : Drive) → after d ≡ d) → Turns site s c new after
  goes : new.clock ≡ s.clock + 1 → ((d : Drive) → after d ≡ ticked (places new) d) → AsksToGoOn s (Ok (Some c)) → (entry : Entry) → Step site s entry new →
      Turns site s c new after

only_tick : (c : Command) (told : Spare) → Event.Tick ≡ event_of c told → c ≡ Tick
only_tick Tick told e = refl
only_tick (Submit client stops) told e = absurd cc
only_tick (Token agent) told e = absurd cc
only_tick (Replace agent) told e = absurd cc
only_tick Close told e = absurd cc

turns_by : (site : Site) (s : State) (reply : Reply) (event : Event) (new : State) (c : Command) (told : Spare) → Answers site s reply event new → event ≡ event_of c told →
    Turns site s c new (taken reply new)
turns_by site s (Reply.Refused refusal) event new c told step e = stays (ap (λ (t : State). t.clock) step.1) (λ d. refl)
turns_by site s (Reply.Accepted n) (Event.Submit client stops) new c told step e = stays (ap (λ (t : State). t.clock) step.5.2) (λ d. refl)
turns_by site s (Reply.Took n path) (Event.Request agent) new c told step e = stays (ap (λ (t : State). t.clock) step.1.3) (λ d. refl)
turns_by site s Reply.Rested (Event.Request agent) new c told step e = stays (ap (λ (t : State). t.clock) step.3) (λ d. refl)
turns_by site s (Reply.Parked point path) (Event.Request agent) new c told step e = stays (ap (λ (t : State). t.clock) step.4) (λ d. refl)
turns_by site s (Reply.Clock now first last) Event.Tick new c told step e =
    goes (ap (λ (t : State). t.clock) step.5) (λ d. refl)
    (record { tick = ap (λ (x : Command). Ok (Some x)) (only_tick c told e); not_closed = step.0; early = step.1 })
    (record { caller = 0; event = Event.Tick; reply = Reply.Clock now first last }) step
turns_by site s (Reply.Replaced slots) (Event.Replace agent (Spare.Fits count)) new c told step e = stays (ap (λ (t : State). t.clock) step.2) (λ d. refl)
turns_by site s Reply.Closed Event.Close new c told step e = stays (ap (λ (t : State). t.clock) step.1) (λ d. refl)
turns_by site s reply event new c told step e = absurd step

pub turns : {X : Type 0} (fits : X → Floor → Bool) (count : X → ℕ) (caller : ℕ) (site : Site) (c : Command) (os : List (Option Entry)) (s : State) (spares : List X) (new : State) (rest : List X) →
    Ran fits count site caller (c ∷ []) os s spares new rest → Turns site s c new (gone_on os new)
turns fits count caller site c [] s spares new rest p = absurd p
turns fits count caller site c (None ∷ []) s spares new rest p = stays (ap (λ (t : State). t.clock) (p.3.0 ∙ p.2.0)) (λ d. refl)
turns fits count caller site c (Some entry ∷ []) s spares new rest p =
    turns_by site s entry.reply entry.event new c p.2.2.0 (subst (λ (t : State). Answers site s entry.reply entry.event t) (sym p.3.0) p.2.1) p.2.2.1
turns fits count caller site c (o ∷ more ∷ os) s spares new rest p = absurd p.3

-- the plan may go on to where the agents are
pub record Ticks (o : Order) (d : Drive) (new : State) (after : Drive → Drive) : Type 0 where
  pub may : MayTick d (places new)
  pub is : after d ≡ ticked (places new) d
  pub all : length new.paths ≡ length o.vehicles
  pub fits : o.clock + 1 < 2 ^ 64

pub ticks_now : (old : Seen) (o : Crew) (d : Drive) (new : State) (c : Command) (after : Drive → Drive) → IsManned old o d → Turns old.site old.state c new after →
    new.clock ≢ old.state.clock → Ticks o.order d new after
ticks_now old o d new c after m (stays same none) moved = absurd (moved same)
ticks_now old o d new c after m (goes later is asks entry step) moved =
    let r = m.in_step in
    let may = each_step_may_be_taken old.site old.history old.state entry new d r.carried.state step r.carried.come in
    let cells = size new in
    let most : old.state.clock ≤ 1000000000 = (sound-reached old.site old.history old.state r.carried.state).clock_fits in
    let time = r.time in
    let here = r.represents.time in
    let count = vehicles-size o.order d r.represents in
    let all = may.all in
    record { may = may; is = is d; all = omega arith; fits = omega arith }

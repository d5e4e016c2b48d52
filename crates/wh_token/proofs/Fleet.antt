use Rattle.std.proofs.Common.{◌≡◌, ◌≢◌, ℕ, ◌+◌, ◌<◌, List, [], ◌∷◌, length, get_or, ap, sym, subst, arith, refl, ◌∙◌, inl, inr, Bool, true}
use Prim.Native.Nat.{zero, suc}
use Rattle.std.specs.Prelude.{slice_get, slice_index, Some, None, Option}
use Rattle.std.proofs.Math.ListN.{set}
use Rattle.std.proofs.lemmas.List.{get_or-set_same, get_or-set_other, length-set}
use Rattle.std.proofs.lemmas.Bool.{cases_eq, cases_lt}
use Rattle.std.proofs.lemmas.Option.{slice_get-get_or, same_Some, none-some}
use Rattle.wh_core.specs.States.{State}
use Rattle.wh_grid.specs.Grids.{Floor}
use Rattle.wh_points.specs.Points.{Site}
use Rattle.wh_core.specs.Steps.{Answers}
use Rattle.wh_token.specs.Fleet.{IsTied, AllFit, HaveSlots, TellsFor, Swaps, replaced_by}
use Rattle.wh_event.specs.declared.event.Spare.{Spare}
use Rattle.wh_event.specs.declared.event.Event.{Event}
use Rattle.wh_event.specs.declared.reply.Reply.{Reply}

slice_get-set_same : {X : Type 0} (xs : List X) (i : ℕ) (y : X) → i < length xs → slice_get (set xs i y) i ≡ Some y
slice_get-set_same [] i y h = absurd (omega arith)
slice_get-set_same (x ∷ xs) zero y h = refl
slice_get-set_same (x ∷ xs) (suc i) y h = let h' : i < length xs = omega arith in slice_get-set_same xs i y h'

pub slice_get-set_other : {X : Type 0} (xs : List X) (i j : ℕ) (y : X) → j ≢ i → slice_get (set xs i y) j ≡ slice_get xs j
slice_get-set_other [] i j y ne = refl
slice_get-set_other (x ∷ xs) zero zero y ne = absurd (ne refl)
slice_get-set_other (x ∷ xs) zero (suc j) y ne = refl
slice_get-set_other (x ∷ xs) (suc i) zero y ne = refl
slice_get-set_other (x ∷ xs) (suc i) (suc j) y ne = slice_get-set_other xs i j y (λ e. ne (ap (λ n. suc n) e))

-- the fleet with one planner put in the place of another
tied-set : {X : Type 0} (fits : X → Floor → Bool) (count : X → ℕ) (grid : Floor) (planners : List X) (slots : List ℕ) (agent : ℕ) (planner : X) →
    agent < length planners → fits planner grid ≡ true → IsTied fits count grid planners slots →
    IsTied fits count grid (set planners agent planner) (set slots agent (count planner))
tied-set fits count grid planners slots agent planner there fit tied = record {
  seats = rw (length-set, length-set) tied.seats;
  fit = λ k b is. elim (cases_eq k agent) [
    | inl e ↦
        let same : Some planner ≡ Some b = sym (slice_get-set_same planners agent planner there) ∙ (subst (λ n. slice_get (set planners agent planner) n ≡ Some b) e is) in
        let one : planner ≡ b = cc in
        subst (λ x. fits x grid ≡ true) one fit
    | inr ne ↦ tied.fit k b (sym (slice_get-set_other planners agent k planner ne) ∙ is)
  ];
  counts = λ k b is. elim (cases_eq k agent) [
    | inl e ↦
        let same : Some planner ≡ Some b = sym (slice_get-set_same planners agent planner there) ∙ (subst (λ n. slice_get (set planners agent planner) n ≡ Some b) e is) in
        let one : planner ≡ b = cc in
        let h : agent < length slots = rw (← tied.seats) there in
        rw (e, get_or-set_same slots agent (count planner) 0 h) (ap count (sym one))
    | inr ne ↦ rw (get_or-set_other slots agent k (count planner) 0 ne) (tied.counts k b (sym (slice_get-set_other planners agent k planner ne) ∙ is))
  ];
}

-- the fleet with a planner that answers as before
pub tied-same : {X : Type 0} (fits : X → Floor → Bool) (count : X → ℕ) (grid : Floor) (planners : List X) (slots : List ℕ) (agent : ℕ) (old new : X) →
    agent < length planners → old ≡ get_or planners agent old → fits new grid ≡ fits old grid → count new ≡ count old →
    IsTied fits count grid planners slots → IsTied fits count grid (set planners agent new) slots
tied-same {X} fits count grid planners slots agent old new there read same_fits same_count tied =
    let is : slice_get planners agent ≡ Some old = slice_get-get_or planners agent old there ∙ ap (λ x. Some x) (sym read) in
    record {
      seats = length-set planners agent new ∙ tied.seats;
      fit = λ k b at. elim (cases_eq k agent) [
        | inl e ↦
            let one : new ≡ b = same_Some new b (sym (slice_get-set_same planners agent new there) ∙ subst (λ n. slice_get (set planners agent new) n ≡ Some b) e at) in
            subst (λ x. fits x grid ≡ true) one (same_fits ∙ tied.fit agent old is)
        | inr ne ↦ tied.fit k b (sym (slice_get-set_other planners agent k new ne) ∙ at)
      ];
      counts = λ k b at. elim (cases_eq k agent) [
        | inl e ↦
            let one : new ≡ b = same_Some new b (sym (slice_get-set_same planners agent new there) ∙ subst (λ n. slice_get (set planners agent new) n ≡ Some b) e at) in
            let answer : count new ≡ slice_index slots agent = same_count ∙ tied.counts agent old is in
            ap count (sym one) ∙ answer ∙ ap (λ n. slice_index slots n) (sym e)
        | inr ne ↦ tied.counts k b (sym (slice_get-set_other planners agent k new ne) ∙ at)
      ];
    }

-- the fleet stays tied to the state over a step
pub tied-step : {X : Type 0} (fits : X → Floor → Bool) (count : X → ℕ) (site : Site) (old : State) (reply : Reply) (event : Event) (new : State)
    (planners : List X) (handed : Option X) (after : List X) (back : Option X) →
    length planners ≡ length old.paths → Answers site old reply event new → TellsFor fits count site.grid handed event →
    Swaps (replaced_by reply event) planners handed after back → IsTied fits count site.grid planners old.slots → IsTied fits count site.grid after new.slots
tied-step fits count site old (Reply.Refused refusal) event new planners handed after back seats step tells swaps tied =
    rw (swaps.0, step.1) tied
tied-step fits count site old (Reply.Accepted n) (Event.Submit client stops) new planners handed after back seats step tells swaps tied =
    rw (swaps.0, step.5.2) tied
tied-step fits count site old (Reply.Took n path) (Event.Request agent) new planners handed after back seats step tells swaps tied =
    rw (swaps.0, step.1.3) tied
tied-step fits count site old Reply.Rested (Event.Request agent) new planners handed after back seats step tells swaps tied =
    rw (swaps.0, step.3) tied
tied-step fits count site old (Reply.Parked point path) (Event.Request agent) new planners handed after back seats step tells swaps tied =
    rw (swaps.0, step.4) tied
tied-step fits count site old (Reply.Clock now first last) Event.Tick new planners handed after back seats step tells swaps tied =
    rw (swaps.0, step.5) tied
tied-step fits count site old (Reply.Replaced slots) (Event.Replace agent (Spare.Fits told)) new planners None after back seats step tells swaps tied =
    absurd tells
tied-step fits count site old (Reply.Replaced slots) (Event.Replace agent (Spare.Fits told)) new planners (Some planner) after back seats step tells swaps tied =
    let there : agent < length planners = rw seats step.0.known in
    rw (swaps.0, step.2, tells.1) (tied-set fits count site.grid planners old.slots agent planner there tells.0 tied)
tied-step fits count site old Reply.Closed Event.Close new planners handed after back seats step tells swaps tied =
    rw (swaps.0, step.1) tied
tied-step fits count site old reply event new planners handed after back seats step tells swaps tied = absurd step

-- one more planner that plans on the map
pub fit-next : {X : Type 0} (fits : X → Floor → Bool) (grid : Floor) (planners : List X) (n : ℕ) (planner : X) → n < length planners → planner ≡ get_or planners n planner →
    fits planner grid ≡ true → ((k : ℕ) (other : X) → k < n → slice_get planners k ≡ Some other → fits other grid ≡ true) →
    (k : ℕ) (other : X) → k < n + 1 → slice_get planners k ≡ Some other → fits other grid ≡ true
fit-next fits grid planners n planner lt read fit before k other below there = elim (cases_lt k n) [
  | inl less ↦ before k other less there
  | inr more ↦
      let e : k ≡ n = omega arith in
      let here : slice_get planners n ≡ Some planner = slice_get-get_or planners n planner lt ∙ ap (λ x. Some x) (sym read) in
      let same : planner ≡ other = same_Some planner other (sym here ∙ subst (λ i. slice_get planners i ≡ Some other) e there) in
      subst (λ x. fits x grid ≡ true) same fit
]

-- what stands at a place is within
pub slice_get-within : {X : Type 0} (xs : List X) (k : ℕ) (x : X) → slice_get xs k ≡ Some x → k < length xs
slice_get-within [] k x there = absurd (none-some x there)
slice_get-within (y ∷ xs) zero x there = omega arith
slice_get-within (y ∷ xs) (suc k) x there = let below = slice_get-within xs k x there in omega arith

-- a fleet that is tied, told in other words
pub tied-slots : {X : Type 0} (fits : X → Floor → Bool) (count : X → ℕ) (one other : Floor) (planners same : List X) (slots told : List ℕ) →
    one ≡ other → planners ≡ same → slots ≡ told → IsTied fits count one planners slots → IsTied fits count other same told
tied-slots {X} fits count one other planners same slots told e f h tied =
    subst (λ (g : Floor). IsTied fits count g same told) e
    (subst (λ (xs : List X). IsTied fits count one xs told) f (subst (λ (ns : List ℕ). IsTied fits count one planners ns) h tied))

-- the planner that was read plans on the map
pub tied-read : {X : Type 0} (fits : X → Floor → Bool) (count : X → ℕ) (grid : Floor) (planners : List X) (slots : List ℕ) (agent : ℕ) (planner : X) →
    agent < length planners → planner ≡ get_or planners agent planner → IsTied fits count grid planners slots → fits planner grid ≡ true
tied-read fits count grid planners slots agent planner there read tied =
    tied.fit agent planner (slice_get-get_or planners agent planner there ∙ ap (λ x. Some x) (sym read))

-- planners that were looked over one by one, for the map and then for the slots, are tied
pub tied-found : {X : Type 0} (fits : X → Floor → Bool) (count : X → ℕ) (one grid : Floor) (first second planners : List X) (told slots : List ℕ) →
    one ≡ grid → first ≡ planners → second ≡ planners → told ≡ slots → length planners ≡ length slots →
    AllFit fits one first → HaveSlots count second told → IsTied fits count grid planners slots
tied-found {X} fits count one grid first second planners told slots e f h d seats fit counts = record {
  seats = seats;
  fit = subst (λ (g : Floor). AllFit fits g planners) e (subst (λ (xs : List X). AllFit fits one xs) f fit);
  counts = subst (λ (ns : List ℕ). HaveSlots count planners ns) d (subst (λ (xs : List X). HaveSlots count xs told) h counts);
}

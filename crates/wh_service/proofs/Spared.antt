-- Spare planners that all plan on the map, seen by their slots alone.
use Rattle.std.proofs.Common.{◌≡◌, ◌⊎◌, ℕ, Bool, true, List, [], ◌∷◌, ◌++◌, length, map, refl, sym, ap, ◌∙◌, subst, arith, inl, inr, option_map, option_to_list, true≢false, Option, Some, None}
use Rattle.std.specs.List.{AllByRecursion}
use Rattle.std.proofs.lemmas.List.{length-map, map-append}
use Rattle.std.proofs.lemmas.Bool.{cases_lt, cases_Bool}
use Rattle.std.proofs.lemmas.Option.{none-some}
use Rattle.wh_grid.specs.Grids.{Floor}
use Rattle.wh_points.specs.Points.{Site}
use Rattle.wh_core.specs.States.{State}
use Rattle.wh_core.specs.Steps.{IsKnown}
use Rattle.wh_replay.specs.Fleet.{TellsSpare, TellsFor}
use Rattle.wh_replay.specs.Runs.{Ran, TakesLast, Takes, WantsSpare}
use Rattle.wh_event.specs.declared.event.Command.{Command}
use Rattle.wh_event.specs.declared.event.Event.{Event}
use Rattle.wh_event.specs.declared.event.Spare.{Spare}
use Rattle.wh_event.specs.declared.entry.Entry.{Entry}
use Rattle.wh_service.specs.Serves.{RanFrom}

all_front : {X : Type 0} (P : X → Type 0) (xs ys : List X) → AllByRecursion P (xs ++ ys) → AllByRecursion P xs
all_front P [] ys all = tt
all_front P (x ∷ xs) ys all = (all.0, all_front P xs ys all.1)

all_back : {X : Type 0} (P : X → Type 0) (xs ys : List X) → AllByRecursion P (xs ++ ys) → AllByRecursion P ys
all_back P [] ys all = all
all_back P (x ∷ xs) ys all = all_back P xs ys all.1

-- whether a command wants a spare planner
pub wants : (s : State) (command : Command) → (WantsSpare s command) ⊎ (WantsSpare s command → ⊥)
wants s (Command.Replace agent) = elim (cases_Bool s.closed) [
  | inl closed ↦ inr (λ (k : IsKnown s agent). true≢false (sym closed ∙ k.not_closed))
  | inr still_open ↦ elim (cases_lt agent (length s.paths)) [
    | inl known ↦ inl (record { not_closed = still_open; known = known })
    | inr past ↦ inr (λ (k : IsKnown s agent). omega (arith, past, k.known))
  ]
]
wants s command = inr (λ h. h)

tells_spare : {X : Type 0} (fits : X → Floor → Bool) (count : X → ℕ) (grid : Floor) (handed : Option X) (told : Spare) → AllByRecursion (λ b. fits b grid ≡ true) (option_to_list handed)
    → TellsSpare fits count grid handed told → TellsSpare (λ (slots : ℕ) (g : Floor). true) (λ (slots : ℕ). slots) grid (option_map count handed) told
tells_spare fits count grid None Spare.None all tells = tt
tells_spare fits count grid None Spare.Foreign all tells = absurd tells
tells_spare fits count grid None (Spare.Fits slots) all tells = absurd tells
tells_spare fits count grid (Some planner) Spare.None all tells = absurd tells
tells_spare fits count grid (Some planner) Spare.Foreign all tells = absurd (true≢false (sym all.0 ∙ tells))
tells_spare fits count grid (Some planner) (Spare.Fits slots) all tells = (refl, tells.1)

tells_for : {X : Type 0} (fits : X → Floor → Bool) (count : X → ℕ) (grid : Floor) (handed : Option X) (event : Event) → AllByRecursion (λ b. fits b grid ≡ true) (option_to_list handed)
    → TellsFor fits count grid handed event → TellsFor (λ (slots : ℕ) (g : Floor). true) (λ (slots : ℕ). slots) grid (option_map count handed) event
tells_for fits count grid handed (Event.Replace agent told) all tells = tells_spare fits count grid handed told all tells
tells_for fits count grid handed event all tells = tt

slots_of : {X : Type 0} (count : X → ℕ) (handed : Option X) → map count (option_to_list handed) ≡ option_to_list (option_map count handed)
slots_of count None = refl
slots_of count (Some planner) = refl

is_none : {X : Type 0} (count : X → ℕ) (handed : Option X) → option_map count handed ≡ None → handed ≡ None
is_none count None e = refl
is_none count (Some planner) e = absurd (none-some (count planner) (sym e))

takes_last : {X : Type 0} (fits : X → Floor → Bool) (count : X → ℕ) (grid : Floor) (event : Event) (old new : List X) → AllByRecursion (λ b. fits b grid ≡ true) old
    → TakesLast fits count grid event old new → TakesLast (λ (slots : ℕ) (g : Floor). true) (λ (slots : ℕ). slots) grid event (map count old) (map count new)
takes_last fits count grid event old new all t =
    let both = subst (AllByRecursion (λ b. fits b grid ≡ true)) t.taken all in
    record {
      spare = option_map count t.spare;
      taken = ap (map count) t.taken ∙ map-append count new (option_to_list t.spare) ∙ ap (λ l. map count new ++ l) (slots_of count t.spare);
      none_left = λ e. length-map old count ∙ t.none_left (is_none count t.spare e);
      tells = tells_for fits count grid t.spare event (all_back (λ b. fits b grid ≡ true) new (option_to_list t.spare) both) t.tells;
    }

takes : {X : Type 0} (fits : X → Floor → Bool) (count : X → ℕ) (grid : Floor) (s : State) (command : Command) (event : Event) (old new : List X) → AllByRecursion (λ b. fits b grid ≡ true) old
    → Takes fits count grid s command event old new → Takes (λ (slots : ℕ) (g : Floor). true) (λ (slots : ℕ). slots) grid s command event (map count old) (map count new)
takes fits count grid s command event old new all t = record {
  last = λ w. takes_last fits count grid event old new all (t.last w);
  other = λ others. ap (map count) (t.other others);
  none_told = λ others. tells_for fits count grid None event tt (t.none_told others);
}

-- those that are left all plan on the map too
all_left : {X : Type 0} (fits : X → Floor → Bool) (count : X → ℕ) (grid : Floor) (s : State) (command : Command) (event : Event) (old new : List X) → AllByRecursion (λ b. fits b grid ≡ true) old
    → Takes fits count grid s command event old new → AllByRecursion (λ b. fits b grid ≡ true) new
all_left fits count grid s command event old new all t = elim (wants s command) [
  | inl w ↦ all_front (λ b. fits b grid ≡ true) new (option_to_list (t.last w).spare) (subst (AllByRecursion (λ b. fits b grid ≡ true)) (t.last w).taken all)
  | inr others ↦ subst (AllByRecursion (λ b. fits b grid ≡ true)) (sym (t.other others)) all
]

-- commands run in the same way where of each spare planner its slots alone are seen
pub ran_from : {X : Type 0} (fits : X → Floor → Bool) (count : X → ℕ) (site : Site) (caller : ℕ) (commands : List Command) (outcomes : List (Option Entry)) (s : State) (spares : List X) (new : State) (rest : List X)
    → AllByRecursion (λ b. fits b site.grid ≡ true) spares → Ran fits count site caller commands outcomes s spares new rest → RanFrom caller site s (map count spares) commands outcomes new (map count rest)
ran_from fits count site caller [] [] s spares new rest all r = (r.0, ap (map count) r.1)
ran_from fits count site caller [] (outcome ∷ outcomes) s spares new rest all r = absurd r
ran_from fits count site caller (command ∷ commands) [] s spares new rest all r = absurd r
ran_from fits count site caller (command ∷ commands) (None ∷ outcomes) s spares new rest all r = (
  r.0,
  map count r.1,
  (r.2.0, ap (map count) r.2.1),
  ran_from fits count site caller commands outcomes r.0 r.1 new rest (subst (AllByRecursion (λ b. fits b site.grid ≡ true)) (sym r.2.1) all) r.3,
)
ran_from fits count site caller (command ∷ commands) (Some entry ∷ outcomes) s spares new rest all r = (
  r.0,
  map count r.1,
  (r.2.0, r.2.1, r.2.2, takes fits count site.grid s command entry.event spares r.1 all r.2.3),
  ran_from fits count site caller commands outcomes r.0 r.1 new rest (all_left fits count site.grid s command entry.event spares r.1 all r.2.3) r.3,
)

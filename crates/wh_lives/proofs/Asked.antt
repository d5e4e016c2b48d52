-- What is asked in a life is in the ranges of a log.
use Rattle.std.proofs.Common.{◌≡◌, ◌<◌, ◌≤◌, ◌^◌, ℕ, Bool, true, List, [], ◌∷◌, ◌++◌, length, refl, sym, ◌∙◌, subst, arith, inl, inr, Option, None, Some, Result, Ok, Err, option_to_list, ◌⊎◌, true≢false}
use Rattle.std.specs.List.{AllByRecursion, list_all}
use Rattle.std.proofs.lemmas.Bool.{and_parts, cases_lt, cases_Bool}
use Rattle.wh_grid.specs.Grids.{Floor}
use Rattle.wh_points.specs.Points.{Site}
use Rattle.wh_text.specs.Numbers.{decimal, is_digit}
use Rattle.wh_text.specs.Words.{has_bytes, words_of}
use Rattle.wh_text.proofs.NumberLemmas.{decimal_small}
use Rattle.wh_event.specs.CommandLines.{command_of}
use Rattle.wh_event.specs.Grammar.{Asks, AsksAgent, IsName}
use Rattle.wh_event.specs.declared.entry.Entry.{Entry}
use Rattle.wh_event.specs.declared.event.Event.{Event}
use Rattle.wh_event.specs.declared.event.Spare.{Spare}
use Rattle.wh_event.specs.declared.event.Command.{Command}
use Rattle.wh_event.specs.declared.fault.LineFault.{LineFault}
use Rattle.wh_event.proofs.Asking.{command_law}
use Rattle.wh_core.specs.States.{State}
use Rattle.wh_core.specs.Steps.{IsKnown}
use Rattle.wh_replay.specs.Commands.{event_of}
use Rattle.wh_replay.specs.Fleet.{TellsFor, TellsSpare}
use Rattle.wh_replay.specs.Runs.{Ran, Takes, WantsSpare, entries_of}
use Rattle.wh_replay.specs.Answers.{asked, commands_of}
use Rattle.wh_log.specs.Ranges.{EventKeeps, SpareKeeps}
use Rattle.wh_judge.specs.Written.{IsAskedInRange}

-- ---- the commands

-- the command keeps the ranges of a log
abbrev CommandKeeps : Command → Type 0
CommandKeeps (Command.Submit client stops) = IsName client × AllByRecursion IsName stops × (2 ≤ length stops) × (length stops ≤ 8)
CommandKeeps (Command.Token agent) = agent < 10 ^ 9
CommandKeeps Command.Tick = Unit {0}
CommandKeeps (Command.Replace agent) = agent < 10 ^ 9
CommandKeeps Command.Close = Unit {0}

agent_keeps : (word : List ℕ) (agent : ℕ) (words : List (List ℕ)) → AsksAgent word agent words → agent < 10 ^ 9
agent_keeps word agent words asks =
    let w = asks.writes in
    let value = w.value in
    let digits : list_all is_digit asks.number ≡ true = (and_parts (has_bytes asks.number) (list_all is_digit asks.number) w.digits).1 in
    let small : decimal asks.number < 1000000000 = decimal_small asks.number digits w.few in omega arith

command_keeps : (command : Command) (words : List (List ℕ)) → Asks command words → CommandKeeps command
command_keeps (Command.Submit client stops) words asks = (asks.client_is, asks.stops_are, asks.two, asks.eight)
command_keeps (Command.Token agent) words asks = agent_keeps _ agent words asks
command_keeps Command.Tick words asks = tt
command_keeps (Command.Replace agent) words asks = agent_keeps _ agent words asks
command_keeps Command.Close words asks = tt

line_keeps : (line : List ℕ) (said : Result (Option Command) LineFault) → said ≡ command_of line → AllByRecursion CommandKeeps (asked said)
line_keeps line (Ok (Some command)) is = (command_keeps command (words_of line) ((command_law line (Ok (Some command)) is command).0 refl).1, tt)
line_keeps line (Ok None) is = tt
line_keeps line (Err fault) is = tt

pub all_both : {A : Type 0} (P : A → Type 0) (xs ys : List A) → AllByRecursion P xs → AllByRecursion P ys → AllByRecursion P (xs ++ ys)
all_both P [] ys a b = b
all_both P (x ∷ xs) ys a b = (a.0, all_both P xs ys a.1 b)

lines_keep : (lines : List (List ℕ)) → AllByRecursion CommandKeeps (commands_of lines)
lines_keep [] = tt
lines_keep (line ∷ lines) = all_both CommandKeeps (asked (command_of line)) (commands_of lines) (line_keeps line (command_of line) refl) (lines_keep lines)

-- ---- the planners

split_left : {A : Type 0} (P : A → Type 0) (xs ys : List A) → AllByRecursion P (xs ++ ys) → AllByRecursion P xs × AllByRecursion P ys
split_left P [] ys all = (tt, all)
split_left P (x ∷ xs) ys all = let rest = split_left P xs ys all.1 in ((all.0, rest.0), rest.1)

-- whether a command wants a spare planner
wants : (s : State) (command : Command) → (WantsSpare s command) ⊎ (WantsSpare s command → ⊥)
wants s (Command.Replace agent) = elim (cases_Bool s.closed) [
  | inl closed ↦ inr (λ (k : IsKnown s agent). true≢false (sym closed ∙ k.not_closed))
  | inr still_open ↦ elim (cases_lt agent (length s.paths)) [
    | inl known ↦ inl (record { not_closed = still_open; known = known })
    | inr past ↦ inr (λ (k : IsKnown s agent). omega (arith, past, k.known))
  ]
]
wants s command = inr (λ h. h)

module _ {X : Type 0} (fits : X → Floor → Bool) (count : X → ℕ) where
  abbrev Few : List X → Type 0
  Few spares = AllByRecursion (λ planner. count planner < 10 ^ 9) spares

  spare_keeps : (grid : Floor) (handed : Option X) (told : Spare) → Few (option_to_list handed) → TellsSpare fits count grid handed told → SpareKeeps told
  spare_keeps grid None Spare.None few tells = tt
  spare_keeps grid None Spare.Foreign few tells = absurd tells
  spare_keeps grid None (Spare.Fits slots) few tells = absurd tells
  spare_keeps grid (Some planner) Spare.None few tells = absurd tells
  spare_keeps grid (Some planner) Spare.Foreign few tells = tt
  spare_keeps grid (Some planner) (Spare.Fits slots) few tells = let same = tells.1 in let small = few.0 in omega arith

  event_keeps : (grid : Floor) (command : Command) (told : Spare) (handed : Option X) → CommandKeeps command → Few (option_to_list handed)
      → TellsFor fits count grid handed (event_of command told) → EventKeeps 8 (event_of command told)
  event_keeps grid (Command.Submit client stops) told handed keep few tells = keep
  event_keeps grid (Command.Token agent) told handed keep few tells = keep
  event_keeps grid Command.Tick told handed keep few tells = tt
  event_keeps grid (Command.Replace agent) told handed keep few tells = (keep, spare_keeps grid handed told few tells)
  event_keeps grid Command.Close told handed keep few tells = tt

  -- an entry by its command, with what is left of the spares
  entry_keeps : (grid : Floor) (s : State) (command : Command) (event : Event) (old new : List X) → CommandKeeps command → Few old → ((told : Spare) × (event ≡ event_of command told))
      → Takes fits count grid s command event old new → EventKeeps 8 event × Few new
  entry_keeps grid s command event old new keep few asked takes =
      let tells : Option X → Event → Type 0 = λ handed e. TellsFor fits count grid handed e in
      elim (wants s command) [
        | inl wanted ↦
            let t = takes.last wanted in
            let parts = split_left (λ planner. count planner < 10 ^ 9) new (option_to_list t.spare) (subst Few t.taken few) in (
              subst (EventKeeps 8) (sym asked.1) (event_keeps grid command asked.0 t.spare keep parts.1 (subst (tells t.spare) asked.1 t.tells)),
              parts.0,
            )
        | inr unwanted ↦ (
          subst (EventKeeps 8) (sym asked.1) (event_keeps grid command asked.0 None keep tt (subst (tells None) asked.1 (takes.none_told unwanted))),
          subst Few (sym (takes.other unwanted)) few,
        )
      ]

  ran_keeps : (caller : ℕ) → caller < 64 → (site : Site) (commands : List Command) (outcomes : List (Option Entry)) (s : State) (spares : List X) (new : State) (rest : List X)
      → AllByRecursion CommandKeeps commands → Few spares → Ran fits count site caller commands outcomes s spares new rest → AllByRecursion IsAskedInRange (entries_of outcomes) × Few rest
  ran_keeps caller low site [] [] s spares new rest keep few ran = (tt, subst Few (sym ran.1) few)
  ran_keeps caller low site [] (outcome ∷ outcomes) s spares new rest keep few ran = absurd ran
  ran_keeps caller low site (command ∷ commands) [] s spares new rest keep few ran = absurd ran
  ran_keeps caller low site (command ∷ commands) (None ∷ outcomes) s spares new rest keep few ran =
      ran_keeps caller low site commands outcomes ran.0 ran.1 new rest keep.1 (subst Few (sym ran.2.1) few) ran.3
  ran_keeps caller low site (command ∷ commands) (Some entry ∷ outcomes) s spares new rest keep few ran =
      let one = entry_keeps site.grid s command entry.event spares ran.1 keep.0 few ran.2.2 ran.2.3 in
      let mine = ran.2.0 in
      let more = ran_keeps caller low site commands outcomes ran.0 ran.1 new rest keep.1 one.1 ran.3 in
      ((record { caller = omega arith; event = one.0 }, more.0), more.1)

  -- the entries of lines that were served
  pub asked_keep : (caller : ℕ) → caller < 64 → (site : Site) (lines : List (List ℕ)) (outcomes : List (Option Entry)) (s : State) (spares : List X) (new : State) (rest : List X)
      → Few spares → Ran fits count site caller (commands_of lines) outcomes s spares new rest → AllByRecursion IsAskedInRange (entries_of outcomes) × Few rest
  asked_keep caller low site lines outcomes s spares new rest few ran = ran_keeps caller low site (commands_of lines) outcomes s spares new rest (lines_keep lines) few ran

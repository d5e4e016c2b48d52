-- What a replay runs is told by a log.
use Rattle.std.proofs.Common.{◌≡◌, ◌<◌, ◌^◌, ℕ, true, List, [], ◌∷◌, length, replicate, refl, sym, subst, arith, inl, inr, Option, None, Some, Result, Ok, Err, option_to_list}
use Prim.Native.Nat.{zero, suc}
use Rattle.std.specs.List.{AllByRecursion}
use Rattle.std.proofs.lemmas.List.{length-replicate}
use Rattle.std.proofs.lemmas.List.Elements.{All-from_recursion}
use Rattle.wh_lines.specs.Input.{Input}
use Rattle.wh_grid.specs.Grids.{Floor}
use Rattle.wh_points.specs.Points.{Site}
use Rattle.wh_event.specs.CommandLines.{command_of}
use Rattle.wh_event.specs.declared.entry.Entry.{Entry}
use Rattle.wh_event.specs.declared.event.Event.{Event}
use Rattle.wh_replay.specs.declared.asker.Asker.{Asker}
use Rattle.wh_event.specs.declared.event.Spare.{Spare}
use Rattle.wh_event.specs.declared.event.Command.{Command}
use Rattle.wh_event.specs.declared.fault.LineFault.{LineFault}
use Rattle.wh_core.specs.States.{State}
use Rattle.wh_replay.specs.Commands.{event_of}
use Rattle.wh_replay.specs.Fleet.{TellsFor}
use Rattle.wh_replay.specs.Runs.{Takes, entries_of}
use Rattle.wh_log.specs.Logs.{Content, IsLogText}
use Rattle.wh_log.specs.Ranges.{EventKeeps}
use Rattle.wh_log.specs.declared.version.Version.TheVariants.{Two}
use Rattle.wh_judge.specs.Written.{IsAskedInRange}
use Rattle.wh_judge.proofs.Histories.{runs_are_logs}
use Rattle.wh_edge.specs.Site.{SiteRuled}
use Rattle.wh_options.specs.declared.chosen.Fleet.{Fleet}
use Rattle.wh_options.specs.declared.chosen.Tail.TheVariants.{Log}
use Rattle.wh_replay.specs.Answers.{asked, commands_of}
use Rattle.wh_service.specs.Fleets.{IsOfFleet}
use Rattle.wh_service.specs.Serves.{Operates, RanFrom, opening}
use Rattle.wh_service.specs.Tails.{tail_text}
use Rattle.wh_service.proofs.Asked.{CommandKeeps, asked_line, keeps_append, spare_keeps, split_left}
use Rattle.wh_service.proofs.InRange.{in_range}
use Rattle.wh_service.proofs.Openings.{run_of, slots_keep}
use Rattle.wh_service.proofs.Spared.{wants}

-- each spare has few slots
abbrev Few : List ℕ → Type 0
Few spares = AllByRecursion (λ slots. slots < 10 ^ 9) spares

asked_keeps : (line : List ℕ) (said : Result (Option Command) LineFault) → said ≡ command_of line → AllByRecursion CommandKeeps (asked said)
asked_keeps line (Ok (Some command)) is = (asked_line line command (sym is), tt)
asked_keeps line (Ok None) is = tt
asked_keeps line (Err fault) is = tt

lines_keep : (lines : List (List ℕ)) → AllByRecursion CommandKeeps (commands_of lines)
lines_keep [] = tt
lines_keep (line ∷ lines) = keeps_append CommandKeeps (asked (command_of line)) (commands_of lines) (asked_keeps line (command_of line) refl) (lines_keep lines)

event_keeps : (grid : Floor) (command : Command) (told : Spare) (handed : Option ℕ) → CommandKeeps command → Few (option_to_list handed)
    → TellsFor (λ (slots : ℕ) (g : Floor). true) (λ (slots : ℕ). slots) grid handed (event_of command told) → EventKeeps 8 (event_of command told)
event_keeps grid (Command.Submit client stops) told handed keep few tells = keep
event_keeps grid (Command.Token agent) told handed keep few tells = keep
event_keeps grid Command.Tick told handed keep few tells = tt
event_keeps grid (Command.Replace agent) told handed keep few tells =
    (keep, spare_keeps (λ (slots : ℕ) (g : Floor). true) (λ (slots : ℕ). slots) grid handed told (λ slots is. (subst (λ (o : Option ℕ). Few (option_to_list o)) is few).0) tells)
event_keeps grid Command.Close told handed keep few tells = tt

-- an entry by its command, with what is left of the spares
entry_keeps : (grid : Floor) (s : State) (command : Command) (event : Event) (old new : List ℕ) → CommandKeeps command → Few old → ((told : Spare) × (event ≡ event_of command told))
    → Takes (λ (slots : ℕ) (g : Floor). true) (λ (slots : ℕ). slots) grid s command event old new → EventKeeps 8 event × Few new
entry_keeps grid s command event old new keep few asked takes =
    let tells : Option ℕ → Event → Type 0 = λ handed e. TellsFor (λ (slots : ℕ) (g : Floor). true) (λ (slots : ℕ). slots) grid handed e in
    elim (wants s command) [
      | inl wanted ↦
          let t = takes.last wanted in
          let parts = split_left (λ (slots : ℕ). slots < 10 ^ 9) new (option_to_list t.spare) (subst Few t.taken few) in (
            subst (EventKeeps 8) (sym asked.1) (event_keeps grid command asked.0 t.spare keep parts.1 (subst (tells t.spare) asked.1 t.tells)),
            parts.0,
          )
      | inr unwanted ↦ (
        subst (EventKeeps 8) (sym asked.1) (event_keeps grid command asked.0 None keep tt (subst (tells None) asked.1 (takes.none_told unwanted))),
        subst Few (sym (takes.other unwanted)) few,
      )
    ]

ran_keeps : (caller : ℕ) → caller < 64 → (site : Site) (commands : List Command) (outcomes : List (Option Entry)) (s : State) (spares : List ℕ) (new : State) (rest : List ℕ)
    → AllByRecursion CommandKeeps commands → Few spares → RanFrom caller site s spares commands outcomes new rest → AllByRecursion IsAskedInRange (entries_of outcomes)
ran_keeps caller low site [] [] s spares new rest keep few ran = tt
ran_keeps caller low site [] (outcome ∷ outcomes) s spares new rest keep few ran = absurd ran
ran_keeps caller low site (command ∷ commands) [] s spares new rest keep few ran = absurd ran
ran_keeps caller low site (command ∷ commands) (None ∷ outcomes) s spares new rest keep few ran =
    ran_keeps caller low site commands outcomes ran.0 ran.1 new rest keep.1 (subst Few (sym ran.2.1) few) ran.3
ran_keeps caller low site (command ∷ commands) (Some entry ∷ outcomes) s spares new rest keep few ran =
    let one = entry_keeps site.grid s command entry.event spares ran.1 keep.0 few ran.2.2 ran.2.3 in
    let mine = ran.2.0 in (
      record { caller = omega arith; event = one.0 },
      ran_keeps caller low site commands outcomes ran.0 ran.1 new rest keep.1 one.1 ran.3,
    )

few_of : (n slots : ℕ) → slots < 10 ^ 9 → Few (replicate n slots)
few_of zero slots few = tt
few_of (suc n) slots few = (few, few_of n slots few)

-- the log of a replay is of the format
pub replay_logged : (asker : Asker) (fleet : Fleet) (site : Site) (old between : Input) (lines replies : List (List ℕ)) → asker.caller < 64 → SiteRuled fleet.homes old between site → IsOfFleet fleet
    → (done : Operates asker fleet site lines replies) → length (entries_of done.outcomes) < 10 ^ 9
    → IsLogText (record { clock = 0; slots = replicate (length site.layout.agents) fleet.slots; entries = entries_of done.outcomes })
    (tail_text Log (opening fleet site) (entries_of done.outcomes) done.final)
replay_logged asker fleet site old between lines replies low read range done short =
    let slots : List ℕ = replicate (length site.layout.agents) fleet.slots in
    let content : Content = record { clock = 0; slots = slots; entries = entries_of done.outcomes } in
    let most = range.1 in
    let told = run_of old between site slots (entries_of done.outcomes) read.read (length-replicate (length site.layout.agents) fleet.slots) done.final done.run in
    let asked = ran_keeps asker.caller low site (commands_of lines) done.outcomes (opening fleet site) (replicate fleet.spares fleet.slots) done.final done.rest (lines_keep lines) (few_of fleet.spares fleet.slots (omega arith)) done.ran in
    record {
      version = Two;
      fits = runs_are_logs site content (in_range old between site read.read) told (slots_keep (length site.layout.agents) fleet.slots range.0 range.1)
          (All-from_recursion IsAskedInRange (entries_of done.outcomes) asked) short;
      text_is = refl;
    }

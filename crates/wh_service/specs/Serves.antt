-- What a whole run of `replay` does.
use Rattle.std.specs.Prelude.{◌≡◌, ◌⊎◌, ◌<◌, ◌^◌, ℕ, Bool, true, false, List, ◌++◌, length, replicate, Option, Result, Ok, Err}
use Rattle.std.specs.declared.alloc.AllocError.{AllocError}
use Rattle.std.specs.Io.KnownBytes.{Appends, Keeps, IsAtEnd}
use Rattle.wh_text.specs.Lines.{lines_of, IsLine}
use Rattle.wh_lines.specs.Input.{Input, left, Takes}
use Rattle.wh_grid.specs.Grids.{Floor}
use Rattle.wh_points.specs.Points.{Site}
use Rattle.wh_points.specs.Formed.{IsFormed}
use Rattle.wh_event.specs.declared.event.Command.{Command}
use Rattle.wh_event.specs.declared.entry.Entry.{Entry}
use Rattle.wh_replay.specs.declared.asker.Asker.{Asker}
use Rattle.wh_core.specs.Laws.{IsOpening}
use Rattle.wh_core.specs.States.{State, opened}
use Rattle.wh_core.specs.Steps.{Run}
use Rattle.wh_judge.specs.Drafts.{AllServed}
use Rattle.wh_replay.specs.Runs.{Ran, entries_of}
use Rattle.wh_edge.specs.Site.{SiteFault, SiteRuled}
use Rattle.wh_edge.specs.declared.trouble.Trouble.{Trouble}
use Rattle.wh_edge.specs.declared.trouble.Trouble.TheVariants as trouble
use Rattle.wh_edge.specs.declared.trouble.Status.{Status}
use Rattle.wh_edge.specs.declared.trouble.Status.TheVariants as status
use Rattle.wh_options.specs.declared.chosen.Fleet.{Fleet}
use Rattle.wh_options.specs.declared.chosen.Tail.{Tail}
use Rattle.wh_options.specs.declared.chosen.Tail.TheVariants.{Log}
use Rattle.wh_options.specs.declared.refused.Refusal.{Refusal}
use Rattle.wh_options.specs.declared.refused.Refusal.TheVariants.{Asked, Mistake, NoMemory}
use Rattle.wh_log.specs.Logs.{IsLogText}
use Rattle.wh_replay.specs.Answers.{answered_from, commands_of, replies_to, text_of}
use Rattle.wh_replay.specs.Scripts.{WritesUntil, IsWholeUntil, HasCause}
use Rattle.wh_replay.specs.declared.script.ReplayFault.{ReplayFault}
use Rattle.wh_service.specs.Fleets.{IsEquipped, IsWhyUnclaimed}
use Rattle.wh_service.specs.Plays.{IsWhyUnplayed, Plays, trouble_of}
use Rattle.wh_service.specs.Tails.{IsWhyNoTail, tail_after, tail_text}
use Rattle.wh_service.specs.declared.parts.PlannerParts.{PlannerParts}
use Rattle.wh_log.specs.Told.{told_text}

-- how the program ends where its words give no options: help that was shown ends well
abbrev pub ended_by : Refusal → Bool → Result Status Trouble
ended_by Asked true = Ok status.Done
ended_by Asked false = Err trouble.Unwritten
ended_by Mistake shown = Ok status.CommandLine
ended_by NoMemory shown = Err trouble.NoMemory

-- the opening state at clock 0: each agent's planner has the fleet's slots
abbrev pub opening : Fleet → Site → State
opening fleet site = opened site.layout 0 (replicate (length site.layout.agents) fleet.slots)

-- The commands, all of this caller, ran one after another and had these outcomes. Of the spare planners, which all plan on
-- the site's grid, a list tells the slots of each; the last of them is taken first.
abbrev pub RanFrom : ℕ → Site → State → List ℕ → List Command → List (Option Entry) → State → List ℕ → Type 0
RanFrom caller site old spares commands outcomes new rest =
    Ran (λ (slots : ℕ) (grid : Floor). true) (λ (slots : ℕ). slots) site caller commands outcomes old spares new rest

-- These replies answer the lines: their commands ran from the opening state, with the fleet's spare planners. The first entry
-- has place 0 in the history, and finds the clock at 0. Asker, here and below, says which caller the entries tell, and how it is told replies.
pub record Operates (asker : Asker) (fleet : Fleet) (site : Site) (lines : List (List ℕ)) (replies : List (List ℕ)) : Type 0 where
  pub outcomes : List (Option Entry)
  pub final : State
  pub rest : List ℕ
  pub replies_are : replies ≡ replies_to (told_text asker.form) lines (answered_from 0 0 outcomes)
  pub ran : RanFrom asker.caller site (opening fleet site) (replicate fleet.spares fleet.slots) (commands_of lines) outcomes final rest
  -- the entries are one run of the abstract warehouse
  pub run : Run site (opening fleet site) (entries_of outcomes) final
  -- on a well-formed site no request is refused for lack of a path
  pub served : IsFormed site → AllServed (entries_of outcomes)

-- A site was read, all that followed was read to the end, and these are the replies to its lines. The run is from an opening
-- state, so that each law of runs is one of it. The log of the entries, where they are fewer than 1,000,000,000, is of the
-- format, so that it is read back as what was done.
pub record Finishes (asker : Asker) (fleet : Fleet) (old new : Input) : Type 0 where
  pub between : Input
  pub site : Site
  pub site_read : SiteRuled fleet.homes old between site
  pub is_opening : IsOpening site (opening fleet site)
  pub script : List ℕ
  pub takes : Takes between new script
  pub ended : IsAtEnd (left new)
  pub replies : List (List ℕ)
  pub operates : Operates asker fleet site (lines_of script) replies
  pub is_log : length (entries_of operates.outcomes) < 10 ^ 9 → IsLogText
      (record { clock = 0; slots = replicate (length site.layout.agents) fleet.slots; entries = entries_of operates.outcomes })
      (tail_text Log (opening fleet site) (entries_of operates.outcomes) operates.final)

-- what is to follow the replies: the log of its entries, or the ledger of its last state
abbrev pub follows : {asker : Asker} {fleet : Fleet} {old new : Input} → Tail → Finishes asker fleet old new → List ℕ
follows {asker} {fleet} tail run = tail_after tail (opening fleet run.site) (entries_of run.operates.outcomes) run.operates.final

-- All was served, and the replies and what is to follow them stand behind what was written.
pub record Serves (asker : Asker) (fleet : Fleet) (tail : Tail) (old new : Input) (had has : Option (List ℕ)) (written : ℕ) : Type 0 where
  pub run : Finishes asker fleet old new
  pub appends : Appends had has (text_of run.replies ++ follows tail run)
  pub written_is : written ≡ length run.replies

-- All was served, the replies stand behind what was written, and what is to follow them does not.
pub record ServesWithoutTail (asker : Asker) (fleet : Fleet) (tail : Tail) (told : Trouble) (old new : Input) (had has : Option (List ℕ)) : Type 0 where
  pub run : Finishes asker fleet old new
  pub replied : Option (List ℕ)
  pub appends : Appends had replied (text_of run.replies)
  pub why : IsWhyNoTail told replied has (follows tail run)

-- A site was read, and a beginning of what followed was served, and no line behind it: whole lines, and all replies but the last
-- were written whole. What was taken behind it is part of one line, and was not served.
pub record ServesUntil (asker : Asker) (fleet : Fleet) (fault : ReplayFault) (old new : Input) (had has : Option (List ℕ)) : Type 0 where
  pub between : Input
  pub site : Site
  pub site_read : SiteRuled fleet.homes old between site
  pub is_opening : IsOpening site (opening fleet site)
  pub read : List ℕ
  pub begun : List ℕ
  pub takes : Takes between new (read ++ begun)
  pub part : IsLine begun
  pub whole : IsWholeUntil fault new read
  pub replies : List (List ℕ)
  pub operates : Operates asker fleet site (lines_of read) replies
  pub writes : WritesUntil fault had has replies
  pub cause : HasCause fault between new (length (lines_of read))

-- A site was read, planners were made for its agents and to stand by, all of the fleet's kind and with their claims on one
-- bank, which has as many slots in all as the options name; and with these a warehouse served the script, and delivered all behind it, where
-- that was asked for. This is to be told of orders that are open.
pub record ServesByFleet {X : Type 0} (fits : X → Floor → Bool) (count : X → ℕ) (asker : Asker) (gives : PlannerParts → Result X AllocError → Type 0) (fleet : Fleet) (deliver : Bool) (tail : Tail)
    (old new : Input) (had has : Option (List ℕ)) (written : ℕ) (report : List ℕ) : Type 0 where
  pub between : Input
  pub site : Site
  pub site_read : SiteRuled fleet.homes old between site
  pub planners : List X
  pub spares : List X
  pub equipped : IsEquipped gives fleet site.grid (length site.layout.agents) planners spares
  pub plays : Plays fits count asker site planners spares deliver tail between new had has written report

-- a site was read, and there it ended: a planner got no slots, or memory ran out
pub record EndsAtFleet (fleet : Fleet) (told : Trouble) (old new : Input) : Type 0 where
  pub site : Site
  pub site_read : SiteRuled fleet.homes old new site
  pub why : IsWhyUnclaimed fleet.slots told

-- Why a script was not served to its end, or what is to follow the replies does not. Before the script nothing is written.
abbrev pub IsWhyUnserved : Asker → Fleet → Tail → Trouble → Input → Input → Option (List ℕ) → Option (List ℕ) → Type 0
IsWhyUnserved asker fleet tail told old new had has =
    (SiteFault fleet.homes told old new × Keeps had has)
    ⊎ (EndsAtFleet fleet told old new × Keeps had has)
    ⊎ ((fault : ReplayFault) × (told ≡ trouble_of fault) × ServesUntil asker fleet fault old new had has)
    ⊎ ServesWithoutTail asker fleet tail told old new had has

-- A site was read and planners were made, and with these the script was not served to its end, or not all was delivered behind it, or what is to
-- follow the replies does not.
pub record EndsInPlay {X : Type 0} (fits : X → Floor → Bool) (count : X → ℕ) (asker : Asker) (gives : PlannerParts → Result X AllocError → Type 0) (fleet : Fleet) (deliver : Bool) (tail : Tail)
    (told : Trouble) (old new : Input) (had has : Option (List ℕ)) : Type 0 where
  pub between : Input
  pub site : Site
  pub site_read : SiteRuled fleet.homes old between site
  pub planners : List X
  pub spares : List X
  pub equipped : IsEquipped gives fleet site.grid (length site.layout.agents) planners spares
  pub why : IsWhyUnplayed fits count asker site planners spares deliver tail told between new had has

-- the same with the fleet's planners
abbrev pub IsWhyUnservedByFleet : {X : Type 0} → (X → Floor → Bool) → (X → ℕ) → Asker → (PlannerParts → Result X AllocError → Type 0) → Fleet → (deliver : Bool) → Tail → Trouble
    → Input → Input → Option (List ℕ) → Option (List ℕ) → Type 0
IsWhyUnservedByFleet fits count asker gives fleet deliver tail told old new had has =
    (SiteFault fleet.homes told old new × Keeps had has)
    ⊎ (EndsAtFleet fleet told old new × Keeps had has)
    ⊎ EndsInPlay fits count asker gives fleet deliver tail told old new had has

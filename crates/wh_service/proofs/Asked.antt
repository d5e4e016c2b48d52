-- What a line asks, and what is told of a planner, is in the ranges of a log.
use Rattle.std.proofs.Common.{◌≡◌, ◌<◌, ◌≤◌, ◌^◌, ℕ, Bool, true, List, [], ◌∷◌, ◌++◌, length, refl, sym, arith, Option, None, Some, Ok}
use Rattle.std.specs.List.{AllByRecursion, list_all}
use Rattle.std.proofs.lemmas.Bool.{and_parts}
use Rattle.wh_grid.specs.Grids.{Floor}
use Rattle.wh_text.specs.Numbers.{decimal, is_digit}
use Rattle.wh_text.specs.Words.{has_bytes, words_of}
use Rattle.wh_text.proofs.NumberLemmas.{decimal_small}
use Rattle.wh_event.specs.CommandLines.{command_of}
use Rattle.wh_event.specs.Grammar.{Asks, AsksAgent, IsName}
use Rattle.wh_event.specs.declared.event.Spare.{Spare}
use Rattle.wh_event.specs.declared.event.Command.{Command}
use Rattle.wh_event.proofs.Asking.{command_law}
use Rattle.wh_replay.specs.Fleet.{TellsSpare}
use Rattle.wh_log.specs.Ranges.{SpareKeeps}

-- ---- the commands

-- the command keeps the ranges of a log
abbrev pub CommandKeeps : Command → Type 0
CommandKeeps (Command.Submit client stops) = IsName client × AllByRecursion IsName stops × (2 ≤ length stops) × (length stops ≤ 8)
CommandKeeps (Command.Token agent) = agent < 10 ^ 9
CommandKeeps Command.Tick = Unit {0}
CommandKeeps (Command.Replace agent) = agent < 10 ^ 9
CommandKeeps Command.Close = Unit {0}

agent_keeps : (word : List ℕ) (agent : ℕ) (words : List (List ℕ)) → AsksAgent word agent words → agent < 10 ^ 9
agent_keeps word agent words asks =
    let w = asks.writes in
    let value = w.value in
    let digits : list_all is_digit asks.number ≡ true = (and_parts (has_bytes asks.number) (list_all is_digit asks.number) w.digits).1 in
    let small : decimal asks.number < 1000000000 = decimal_small asks.number digits w.few in omega arith

asked_keeps : (command : Command) (words : List (List ℕ)) → Asks command words → CommandKeeps command
asked_keeps (Command.Submit client stops) words asks = (asks.client_is, asks.stops_are, asks.two, asks.eight)
asked_keeps (Command.Token agent) words asks = agent_keeps _ agent words asks
asked_keeps Command.Tick words asks = tt
asked_keeps (Command.Replace agent) words asks = agent_keeps _ agent words asks
asked_keeps Command.Close words asks = tt

pub keeps_append : {A : Type 0} (P : A → Type 0) (xs ys : List A) → AllByRecursion P xs → AllByRecursion P ys → AllByRecursion P (xs ++ ys)
keeps_append P [] ys a b = b
keeps_append P (x ∷ xs) ys a b = (a.0, keeps_append P xs ys a.1 b)

-- the command of a line
pub asked_line : (line : List ℕ) (command : Command) → command_of line ≡ Ok (Some command) → CommandKeeps command
asked_line line command said = asked_keeps command (words_of line) ((command_law line (Ok (Some command)) (sym said) command).0 refl).1

-- ---- the planners

-- what one may tell of this planner
abbrev pub CountKeeps : {X : Type 0} → (X → ℕ) → X → Type 0
CountKeeps count planner = count planner < 10 ^ 9

pub spare_keeps : {X : Type 0} (fits : X → Floor → Bool) (count : X → ℕ) (grid : Floor) (handed : Option X) (told : Spare) → ((planner : X) → handed ≡ Some planner → CountKeeps count planner)
    → TellsSpare fits count grid handed told → SpareKeeps told
spare_keeps fits count grid None Spare.None few tells = tt
spare_keeps fits count grid None Spare.Foreign few tells = absurd tells
spare_keeps fits count grid None (Spare.Fits slots) few tells = absurd tells
spare_keeps fits count grid (Some planner) Spare.None few tells = absurd tells
spare_keeps fits count grid (Some planner) Spare.Foreign few tells = tt
spare_keeps fits count grid (Some planner) (Spare.Fits slots) few tells = let same = tells.1 in let small = few planner refl in omega arith

pub split_left : {A : Type 0} (P : A → Type 0) (xs ys : List A) → AllByRecursion P (xs ++ ys) → AllByRecursion P xs × AllByRecursion P ys
split_left P [] ys all = (tt, all)
split_left P (x ∷ xs) ys all = let rest = split_left P xs ys all.1 in ((all.0, rest.0), rest.1)

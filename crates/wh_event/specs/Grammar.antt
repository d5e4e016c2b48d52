-- the grammar of command lines: which words ask for which command
use Rattle.std.specs.Prelude.{◌≡◌, ℕ, ◌≤◌, true, List, [], ◌∷◌, length, codes}
use Rattle.std.specs.List.{AllByRecursion}
use Rattle.wh_text.specs.Names.{is_name}
use Rattle.wh_text.specs.Numbers.{are_digits, decimal}
use Rattle.wh_event.specs.declared.event.Command.{Command}
use Rattle.wh_event.specs.declared.event.Command.TheVariants.{Submit, Token, Tick, Replace, Close}

abbrev pub IsName : List ℕ → Type 0
IsName word = is_name word ≡ true

-- 1 to 9 digits write the number, with zeros in front or without
pub record Writes (n : ℕ) (word : List ℕ) : Type 0 where
  pub digits : are_digits word ≡ true
  pub few : length word ≤ 9
  pub value : decimal word ≡ n

-- the word of a command, and the number of an agent
pub record AsksAgent (command : List ℕ) (agent : ℕ) (words : List (List ℕ)) : Type 0 where
  pub number : List ℕ
  pub words_are : words ≡ command ∷ number ∷ []
  pub writes : Writes agent number

-- `submit`, the client, and 2 to 8 stops; all are names
pub record AsksTask (client : List ℕ) (stops : List (List ℕ)) (words : List (List ℕ)) : Type 0 where
  pub words_are : words ≡ codes "submit" ∷ client ∷ stops
  pub client_is : IsName client
  pub stops_are : AllByRecursion IsName stops
  pub two : 2 ≤ length stops
  pub eight : length stops ≤ 8

-- these words ask for the command
abbrev pub Asks : Command → List (List ℕ) → Type 0
Asks (Submit client stops) words = AsksTask client stops words
Asks (Token agent) words = AsksAgent (codes "token") agent words
Asks Tick words = words ≡ codes "tick" ∷ []
Asks (Replace agent) words = AsksAgent (codes "replace") agent words
Asks Close words = words ≡ codes "close" ∷ []

-- there is no word, or the first begins with `#`
abbrev pub IsSkipped : List (List ℕ) → Type 0
IsSkipped [] = Unit {0}
IsSkipped ([] ∷ words) = ⊥
IsSkipped ((b ∷ bs) ∷ words) = b ≡ 35

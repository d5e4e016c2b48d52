-- the line by which a vehicle reports where it is
use Rattle.std.specs.Prelude.{◌≡◌, ℕ, true, List, [], ◌∷◌, length, min, cond, nat_lt, codes, Option, Some, None, option_map}
use Rattle.std.specs.Str.{bytes_eq}
use Rattle.wh_text.specs.Words.{words_of}
use Rattle.wh_text.specs.Numbers.{small_number_of, number_of, are_digits, decimal}
use Rattle.wh_event.specs.Grammar.{Writes}
use Rattle.wh_vehicles.specs.declared.report.Report.{Report}

-- `at AGENT STEP`: 1 to 9 digits write the agent, and any count of digits the step. A step above 4,294,967,295 is taken
-- for that one, which no vehicle is ever told.
pub record Says (report : Report) (words : List (List ℕ)) : Type 0 where
  pub agent : List ℕ
  pub step : List ℕ
  pub words_are : words ≡ codes "at" ∷ agent ∷ step ∷ []
  pub agent_is : Writes report.agent agent
  pub digits : are_digits step ≡ true
  pub value : report.step ≡ min (decimal step) 4294967295

-- the step that a word writes
abbrev pub step_of : List ℕ → Option ℕ
step_of word = option_map (λ n. min n 4294967295) (number_of word)

abbrev pub report_from : Option ℕ → Option ℕ → Option Report
report_from (Some agent) (Some step) = Some (record { agent = agent; step = step })
report_from (Some agent) None = None
report_from None step = None

-- what two words more say
abbrev pub numbers_of : List (List ℕ) → Option Report
numbers_of (agent ∷ step ∷ []) = report_from (small_number_of agent) (step_of step)
numbers_of _ = None

abbrev pub report_by : List (List ℕ) → Option Report
report_by [] = None
report_by (name ∷ rest) = cond (bytes_eq name (codes "at")) (numbers_of rest) None

-- what a line reports, if it does
abbrev pub report_of : List ℕ → Option Report
report_of line = cond (nat_lt 256 (length line)) None (report_by (words_of line))

-- The works of a crew.
use Rattle.std.specs.Prelude.{◌≡◌, ℕ, zero, suc, List, [], ◌∷◌, ◌++◌, map, replicate, All}
use Rattle.wh_event.specs.declared.event.Command.{Command}
use Rattle.wh_event.specs.declared.event.Command.TheVariants.{Tick, Token}
use Rattle.wh_edge.specs.declared.work.Work.{Work}

-- each of the given number of agents asks for the token the given number of times
abbrev pub requests : ℕ → ℕ → List (List Command)
requests turns zero = []
requests turns (suc agent) = requests turns agent ++ replicate turns (Token agent) ∷ []

-- behind the clients come workers with these commands, who have no spares
pub record JoinedBy {X : Type 0} (commands : List (List Command)) (clients works : List (Work X)) : Type 0 where
  pub others : List (Work X)
  pub works_are : works ≡ clients ++ others
  pub commands_are : map (λ work. work.commands.items) others ≡ commands
  pub spares : All (λ work. work.spares.items ≡ []) others

-- the clients, then the agents, then the clock, which ticks so often
abbrev pub AreWorks : {X : Type 0} → ℕ → ℕ → List (Work X) → List (Work X) → Type 0
AreWorks agents turns clients works = JoinedBy (requests turns agents ++ replicate turns Tick ∷ []) clients works

-- What is told of a crew that came to no history.
use Rattle.wh_crew.specs.declared.threads.CrewFault.{CrewFault}
use Rattle.wh_crew.specs.declared.threads.CrewFault.TheVariants as crew
use Rattle.wh_edge.specs.declared.trouble.Trouble.{Trouble}
use Rattle.wh_edge.specs.declared.trouble.Trouble.TheVariants as trouble

abbrev pub trouble_of : CrewFault → Trouble
trouble_of crew.NoThread = trouble.NoThread
trouble_of crew.NoMemory = trouble.NoMemory
trouble_of crew.Stale = trouble.Differs

-- why there is no log: a thread could not be started, or a pass differs from its row, or memory ran out
abbrev pub IsWhyDead : Trouble → Type 0
IsWhyDead trouble.NoThread = Unit {0}
IsWhyDead trouble.Differs = Unit {0}
IsWhyDead trouble.NoMemory = Unit {0}
IsWhyDead _ = ⊥

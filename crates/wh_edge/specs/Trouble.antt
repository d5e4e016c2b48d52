-- The texts and statuses of troubles.
use Rattle.std.specs.Prelude.{ℕ, List, [], ◌∷◌, ◌++◌, codes, decimal}
use Rattle.wh_event.specs.declared.fault.LineFault.{LineFault}
use Rattle.wh_event.specs.declared.fault.LineFault.TheVariants as line
use Rattle.wh_grid.specs.declared.fault.MapKind.{MapKind}
use Rattle.wh_grid.specs.declared.fault.MapKind.TheVariants as map
use Rattle.wh_points.specs.declared.fault.FaultKind.{FaultKind}
use Rattle.wh_points.specs.declared.fault.FaultKind.TheVariants as point
use Rattle.wh_restore.specs.Texts.{reason_text}
use Rattle.wh_edge.specs.declared.trouble.Trouble.{Trouble}
use Rattle.wh_edge.specs.declared.trouble.Trouble.TheVariants as trouble
use Rattle.wh_edge.specs.declared.trouble.Status.{Status}
use Rattle.wh_edge.specs.declared.trouble.Status.TheVariants as status

abbrev pub code_of_map : MapKind → List ℕ
code_of_map map.Head = codes "M1"
code_of_map map.Size = codes "M2"
code_of_map map.RowLength = codes "M3"
code_of_map map.Letter = codes "M4"
code_of_map map.RowsMissing = codes "M5"
code_of_map map.TextAfter = codes "M6"
code_of_map map.TooLarge = codes "M7"

abbrev pub code_of_point : FaultKind → List ℕ
code_of_point point.Form = codes "P1"
code_of_point point.Name = codes "P2"
code_of_point point.NameTwice = codes "P3"
code_of_point point.Blocked = codes "P4"
code_of_point point.CellTwice = codes "P5"
code_of_point point.TooMany = codes "P6"
code_of_point point.NoAgent = codes "P7"
code_of_point point.Unknown = codes "P8"
code_of_point point.StartTwice = codes "P9"
code_of_point point.RuleTwice = codes "P10"

abbrev pub code_of_line : LineFault → List ℕ
code_of_line line.Form = codes "C1"
code_of_line line.TooLong = codes "C2"

-- a refusal and the line at which it is met
abbrev pub placed : List ℕ → ℕ → List ℕ
placed code number = code ++ codes " line " ++ decimal number

abbrev pub told : Trouble → List ℕ
told (trouble.Map fault) = placed (code_of_map fault.kind) fault.line
told (trouble.Points fault) = placed (code_of_point fault.kind) fault.line
told (trouble.Script place) = placed (code_of_line place.kind) place.line
told (trouble.Short free) = codes "B1 free " ++ decimal free
told (trouble.Raced seen) = codes "B2 seen " ++ decimal seen
told trouble.SectionTooLong = codes "X4"
told trouble.TooManyWorkers = codes "E94"
told trouble.Broken = codes "X1"
told trouble.Endless = codes "X2"
told trouble.Unwritten = codes "X3"
told trouble.NoThread = codes "E93"
told trouble.Differs = codes "E95"
told (trouble.Log number) = placed (codes "L1") number
told (trouble.Front reason number) = placed (codes "L1") number
told (trouble.Forgotten first) = codes "L2 " ++ decimal first
told trouble.Unkept = codes "X5"
told (trouble.NoPipes client) = codes "X5 " ++ decimal client
told trouble.Unshown = codes "X6"
told trouble.Scripted = codes "X7"
told trouble.LostLog = codes "X8"
told trouble.OwnOutput = codes "X9"
told trouble.Unmanned = codes "V5"
told (trouble.NotParked agent) = codes "H1 " ++ decimal agent
told trouble.MayFollow = codes "V4"
told trouble.NoMemory = codes "E90"

-- the line of the reason that goes before, where the front of a log is refused
abbrev pub reason_line : Trouble → List ℕ
reason_line (trouble.Front reason number) = reason_text reason ++ 10 ∷ []
reason_line t = []

-- what stands on standard error
unfoldable pub trouble_text : Trouble → List ℕ
trouble_text t = reason_line t ++ codes "refused " ++ told t ++ 10 ∷ []

-- the exit statuses
abbrev pub number_of_status : Status → ℕ
number_of_status status.Done = 0
number_of_status status.Refused = 1
number_of_status status.CommandLine = 2
number_of_status status.Failed = 3
number_of_status status.NoMemory = 4

-- input or a log file that is refused is told by status 1, input that the words do not go with by 2, a device or a thread by 3, lack
-- of memory by 4
abbrev pub status_of : Trouble → Status
status_of (trouble.Map fault) = status.Refused
status_of (trouble.Points fault) = status.Refused
status_of (trouble.Script place) = status.Refused
status_of (trouble.Short free) = status.Refused
status_of (trouble.Raced seen) = status.Refused
status_of trouble.SectionTooLong = status.Refused
status_of trouble.TooManyWorkers = status.Refused
status_of trouble.Broken = status.Failed
status_of trouble.Endless = status.Failed
status_of trouble.Unwritten = status.Failed
status_of trouble.NoThread = status.Failed
status_of trouble.Differs = status.Failed
status_of (trouble.Log number) = status.Refused
status_of (trouble.Front reason number) = status.Refused
status_of (trouble.Forgotten first) = status.Refused
status_of trouble.Unkept = status.Failed
status_of (trouble.NoPipes client) = status.Failed
status_of trouble.Unshown = status.Failed
status_of trouble.Scripted = status.CommandLine
status_of trouble.LostLog = status.Refused
status_of trouble.OwnOutput = status.Failed
status_of trouble.Unmanned = status.Refused
status_of (trouble.NotParked agent) = status.Refused
status_of trouble.MayFollow = status.Refused
status_of trouble.NoMemory = status.NoMemory

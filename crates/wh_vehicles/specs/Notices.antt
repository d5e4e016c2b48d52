-- what is told to vehicles, and answered to their reports
use Rattle.std.specs.Prelude.{ℕ, List, ◌++◌, codes, decimal}
use Rattle.wh_vehicles.specs.declared.notice.Notice.{Notice}
use Rattle.wh_vehicles.specs.declared.notice.Notice.TheVariants.{Arrived, Visited, Go, Behind, UnknownAgent, NotTold}

-- its text: words with one space between, numbers in decimal without leading zeros
abbrev pub notice_text : Notice → List ℕ
notice_text (Arrived agent step) = codes "arrived " ++ decimal agent ++ codes " " ++ decimal step
notice_text (Visited agent task visit) = codes "visited " ++ decimal agent ++ codes " " ++ decimal task ++ codes " " ++ decimal visit
notice_text (Go agent step cell) = codes "go " ++ decimal agent ++ codes " " ++ decimal step ++ codes " " ++ decimal cell.x ++ codes "," ++ decimal cell.y
notice_text (Behind agent steps) = codes "refused V1 " ++ decimal agent ++ codes " " ++ decimal steps
notice_text (UnknownAgent agent) = codes "refused V2 " ++ decimal agent
notice_text (NotTold agent step) = codes "refused V3 " ++ decimal agent ++ codes " " ++ decimal step

-- what is written of a reason
use Rattle.std.specs.Prelude.{ℕ, List, ◌++◌, codes, decimal}
use Rattle.wh_log.specs.Spelling.{cell_word}
use Rattle.wh_stand.specs.declared.flaw.Flaw.{Flaw}
use Rattle.wh_stand.specs.declared.flaw.Flaw.TheVariants as flaws
use Rattle.wh_restore.specs.declared.reason.Reason.{Reason}
use Rattle.wh_restore.specs.declared.reason.Reason.TheVariants as reasons

abbrev pub flaw_text : Flaw → List ℕ
flaw_text flaws.Agents = codes "refused S2"
flaw_text (flaws.Blocked cell) = codes "refused S3 " ++ cell_word cell
flaw_text flaws.NoStep = codes "refused S4"
flaw_text (flaws.Conflict agent) = codes "refused S5 " ++ decimal agent
flaw_text (flaws.NoStation cell) = codes "refused S6 " ++ cell_word cell
flaw_text flaws.Clocks = codes "refused S7"
flaw_text (flaws.UnknownAgent agent) = codes "refused S8 " ++ decimal agent
flaw_text (flaws.HasAnother task) = codes "refused S9 " ++ decimal task
flaw_text (flaws.AtItsNextStop task) = codes "refused S10 " ++ decimal task

abbrev pub reason_text : Reason → List ℕ
reason_text reasons.Form = codes "refused S1"
reason_text reasons.Count = codes "refused S2"
reason_text (reasons.Flaw flaw) = flaw_text flaw
reason_text reasons.Rules = codes "refused S11"

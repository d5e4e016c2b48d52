-- Why nothing was told of a log.
use Rattle.std.proofs.Common.{ℕ, List, Option, inr}
use Rattle.std.proofs.KnownBytes.{Keeps-refl}
use Rattle.wh_lines.specs.Input.{Input}
use Rattle.wh_edge.specs.declared.trouble.Trouble.{Trouble}
use Rattle.wh_edge.specs.declared.trouble.Trouble.TheVariants as trouble
use Rattle.wh_options.specs.declared.chosen.VerifyOptions.{VerifyOptions}
use Rattle.wh_service.specs.Verifies.{IsWhyUnverified, LogFault}

pub no_log : (options : VerifyOptions) (told : Trouble) (old new : Input) (had : Option (List ℕ)) → LogFault options.homes told old new → IsWhyUnverified options told old new had had
no_log options trouble.Unwritten old new had f = absurd f.why
no_log options trouble.NoMemory old new had f = Keeps-refl had
no_log options told old new had f = (inr f, Keeps-refl had)

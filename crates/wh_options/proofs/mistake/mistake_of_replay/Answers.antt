-- Nothing lacks: what clashes is told.
use Rattle.std.proofs.Common.{Option, None, Some, inr}
use Rattle.clap.specs.declared.error.kind.ErrorKind.TheVariants.{ArgumentConflict}
use Rattle.clap.specs.Words.{first_value, found_of}
use Rattle.wh_options.specs.Options.{ReplayClashes, ReplayLacks}
use Rattle.wh_options.specs.Reads.{Judges, JudgesReplay}
use Rattle.wh_options.specs.Setting.{Text}
use Rattle.wh_options.specs.declared.mistake.Mistake.{Mistake}
use Rattle.wh_options.proofs.mistake.mistake_of_replay.Goals as goal

none_lacks : (given : Text → Option Text) (found : Option Mistake) → (ReplayLacks given → ⊥) → Judges ArgumentConflict ReplayClashes given found → JudgesReplay given found
none_lacks given None lacks clash = (lacks, clash)
none_lacks given (Some mistake) lacks clash = inr (lacks, clash.0, clash.1)

pub returns-in-None : goal.returns-in-None
returns-in-None c = none_lacks (first_value (found_of c.args.replay.now)) c.clash_of_replay.result c.in-None.ensures c.clash_of_replay.ensures

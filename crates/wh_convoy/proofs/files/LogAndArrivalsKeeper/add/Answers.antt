use Rattle.std.proofs.Common.{refl}
use Rattle.wh_convoy.proofs.Filing.{opens, piece_failed}
use Rattle.wh_convoy.proofs.files.LogAndArrivalsKeeper.add.Goals as goal

pub returns-in-Err-clause-err : goal.returns-in-Err-clause-err
returns-in-Err-clause-err g c a r rest safe p order =
    piece_failed a _ _ r rest c.args.log.now safe p (opens a _ r safe p order) (record { log = refl; arrivals = refl }) c.in-Err.ensures.err c.append.ensures.synced refl c.in-Err.ensures.failed

use Rattle.std.proofs.Common.{◌≤◌, arith}
use Rattle.std.proofs.lemmas.Bool.Decides.{nat_tests}
use Rattle.wh_scribe.proofs.Keeping.{mark_kept}
use Rattle.wh_scribe.proofs.mark.Mark.has_kept.Goals as goal

pub returns : goal.returns
returns g c = λ enough.
    let mark = c.self.inside in
    let le : c.args.count ≤ mark.synced = grind (arith, nat_tests) in
    mark_kept (λ x. g.J.Journal.synced x) g.N.DeskName.book g.S.JournalName.start mark.front c.args.known.now mark.synced c.args.count c.self.invariant c.meets.ensures le

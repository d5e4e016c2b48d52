use Rattle.std.proofs.Common.{◌∙◌, subst, ap, MatchBool, length}
use mathlib.Core.List.{IsPrefix}
use Rattle.wh_board.specs.Pasts.{Past, Extends}
use Rattle.wh_host.proofs.Settling.{journal_is}
use Rattle.wh_host.proofs.run.compare.Goals as goal

pub returns-clause-journal : goal.returns-clause-journal
returns-clause-journal g c start left =
    let kept = c.args.kept in
    let hosted = c.args.came.hosted in
    let book = hosted.history.warehouse.book in
    let many = ap length c.history.ensures.value in
    let later = subst (λ b. MatchBool b (Extends hosted.history.front.past kept.front.past) (Extends kept.front.past hosted.history.front.past)) c.if-is_before.false c.is_before.ensures in
    let begins = subst (λ (p : Past). IsPrefix kept.front.past.history p.history) c.requires.past later.1 in
    journal_is start (g.J.Journal.contents kept.journal) (g.J.Journal.synced kept.journal) kept.front.past.history book.history kept.written kept.synced kept.failed c.has_all.result begins
    left.within left.holds left.safe_within left.safe (λ whole. (let w = c.has_all.ensures whole in (w.0, w.1 ∙ many, w.2 ∙ many)))

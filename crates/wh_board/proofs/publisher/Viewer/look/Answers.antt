use Rattle.std.proofs.Common.{ap, sym, ◌∙◌}
use Rattle.wh_board.proofs.Chains.{extends_as, extends_same}
use Rattle.wh_board.proofs.publisher.Viewer.look.Goals as goal
use Rattle.wh_board.proofs.publisher.Viewer.look.Goals.{in-Some, in_default}

pub returns-clause-later : goal.returns-clause-later
returns-clause-later c =
    let before = ap (λ k. k.past) c.self.view_is in
    elim c.match-replace_with.branch [
      | in-Some w ↦ extends_as _ _ _ _ before (ap (λ v. v.known.past) (sym w.self-inside-is)) w.later.ensures.this
      | in_default w ↦ extends_same _ _ (sym before ∙ ap (λ v. v.known.past) (sym w.self-inside-is))
    ]

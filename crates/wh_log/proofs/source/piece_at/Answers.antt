use Rattle.std.proofs.Common.{ℕ, List, Some, take, drop, ap, sym, subst, ◌∙◌}
use Rattle.std.proofs.Math.Seq.{take-length}
use Rattle.std.proofs.lemmas.List.{length-drop}
use Rattle.wh_log.specs.Sources.{IsPiece}
use Rattle.wh_log.proofs.Sources.{piece_front}
use Rattle.wh_log.proofs.source.piece_at.Goals as goal

pub returns-else-behind-most : goal.returns-else-behind-most
returns-else-behind-most c =
    let text = c.args.text.now in
    let behind = drop c.args.place text in
    let all = ap (λ n. take n behind) (sym (length-drop c.args.place text)) ∙ take-length behind in
    subst (λ (t : List ℕ). IsPiece (Some text) c.args.place (take c.args.most t)) (sym all) (piece_front text c.args.place c.args.most c.requires)

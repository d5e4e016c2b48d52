use Rattle.std.proofs.Common.{◌≡◌, List, ℕ, ◌++◌, map, codes, decimal, ap, sym, ◌∙◌}
use Rattle.wh_log.specs.Spaced.{spaced}
use Rattle.wh_log.specs.Spelling.{cell_word}
use Rattle.wh_log.specs.Told.{cells_of, full_text}
use Rattle.wh_event.specs.declared.reply.Reply.{Reply}
use Rattle.wh_log.proofs.Telling.{took_text, parked_text}
use Rattle.wh_log.proofs.pieces.reply_head.Goals as goal

pub returns-in-Took-clause-text : goal.returns-in-Took-clause-text
returns-in-Took-clause-text c =
    let same : c.from.result ≡ c.in-Took.task = cc c.from.ensures in
    let head : c.put.new.line.items ≡ (codes "took " ++ decimal c.in-Took.task) ++ codes " path" =
    c.put.ensures ∙ ap (λ (l : List ℕ). l ++ codes " path") (c.put_number.ensures.text ∙ ap (λ (l : List ℕ). (l ++ codes "took ") ++ decimal c.from.result) c.new-head.ensures ∙ ap (λ (n : ℕ). codes "took " ++ decimal n) same) in
    ap full_text c.in-Took.is ∙ took_text c.in-Took.task c.in-Took.path ∙ ap (λ (l : List ℕ). l ++ spaced (map cell_word c.in-Took.path)) (sym head)
    ∙ ap (λ (r : Reply). c.put.new.line.items ++ spaced (map cell_word (cells_of r))) (sym c.in-Took.is)

pub returns-in-Parked-clause-text : goal.returns-in-Parked-clause-text
returns-in-Parked-clause-text c =
    let head : c.put-in-Parked-3.new.line.items ≡ (codes "parked " ++ c.in-Parked.point) ++ codes " path" =
    c.put-in-Parked-3.ensures ∙ ap (λ (l : List ℕ). l ++ codes " path")
    (c.put-in-Parked-2.ensures ∙ ap (λ (l : List ℕ). l ++ c.as_slice.result.now) (c.put-in-Parked.ensures ∙ ap (λ (l : List ℕ). l ++ codes "parked ") c.new-head.ensures) ∙ ap (λ (l : List ℕ). codes "parked " ++ l) c.as_slice.ensures.value) in
    ap full_text c.in-Parked.is ∙ parked_text c.in-Parked.point c.in-Parked.path ∙ ap (λ (l : List ℕ). l ++ spaced (map cell_word c.in-Parked.path)) (sym head)
    ∙ ap (λ (r : Reply). c.put-in-Parked-3.new.line.items ++ spaced (map cell_word (cells_of r))) (sym c.in-Parked.is)

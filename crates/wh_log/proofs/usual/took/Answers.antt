use Rattle.std.proofs.Common.{rules, ◌≡◌, ◌-◌, ℕ, List, ◌∷◌, length, take, drop, ap, sym, ◌∙◌}
use Rattle.std.proofs.lemmas.List.{take_rest}
use Rattle.wh_log.proofs.UsualLaws.{took_text}
use Rattle.wh_log.proofs.usual.took.Goals as goal

pub returns : goal.returns
returns c =
    let rest : List ℕ = c.in_ok-path.rest.now in
    let behind : List ℕ = take (length rest - 1) (drop 1 rest) in
    let feed : rest ≡ 10 ∷ drop 1 rest = search rules in
    let text = took_text c.in_ok-task.task c.in_ok-path.path c.args.text.now c.in_ok-task.rest.now c.in_ok-behind_path.field-0.now rest behind c.in_ok-task.ensures.0
    c.in_ok-behind_path.ensures c.in_ok-path.ensures.0 (feed ∙ ap (λ (l : List ℕ). 10 ∷ l) (sym (take_rest rest 1))) in
    (text, (c.in_ok-task.ensures.1, c.in_ok-path.ensures.1))

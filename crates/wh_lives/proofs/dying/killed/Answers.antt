use Rattle.std.proofs.Common.{◌≤◌, ℕ, List, ◌++◌, length, drop, refl, sym, ap, ◌∙◌, arith, rules, take-append-drop}
use Rattle.std.proofs.lemmas.List.{length-take}
use Rattle.wh_lives.proofs.dying.killed.Goals as goal

pub returns : goal.returns
returns c =
    let held = c.args.dying.file.held.items in
    let safe = c.args.dying.file.safe in
    let n = c.saturating_add.result in
    let enough : safe ≤ n = search rules in (
      c.truncate.new.self.items,
      refl,
      record {
        lost = drop n held;
        parts = sym (take-append-drop n held) ∙ ap (λ (t : List ℕ). t ++ drop n held) (sym c.truncate.ensures.items);
        no_less = omega (arith, length-take safe held, length-take n held, ap length c.truncate.ensures.items, enough);
      },
    )

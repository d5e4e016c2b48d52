use Rattle.std.proofs.Common.{rules, ◌≡◌, ap, sym, ◌∙◌}
use Rattle.wh_board.specs.Rules.{word_of}
use Rattle.wh_board.proofs.Chains.{extends_same}
use Rattle.wh_board.proofs.publisher.Publisher.publish.Goals as goal

pub invariant_of-self-2 : goal.invariant_of-self-2
invariant_of-self-2 g c =
    let shown : c.replace_with.new.dest.desk.shown.value ≡ c.catch_up.new.self = search rules in (
      c.self.invariant.0 ∙ ap word_of (sym c.catch_up.ensures.book),
      ap (λ k. k.book) shown,
      extends_same _ _ (ap (λ k. k.past) shown),
      search rules,
      search rules,
    )

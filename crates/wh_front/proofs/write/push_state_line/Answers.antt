use Rattle.std.proofs.Common.{codes, rules, ◌∷◌, [], decimal}
use Rattle.wh_front.specs.Spelling.{open_word, kind_word}
use Rattle.wh_front.proofs.Lines.{line_pushed}
use Rattle.wh_front.proofs.write.push_state_line.Goals as goal

pub returns : goal.returns
returns c =
    line_pushed c.args.out.now.items c.extend_from_slice.new.self.items c.push_state.new.out.items c.push.new.self.items
    (codes "state") (decimal c.args.clock ∷ open_word c.args.closed ∷ kind_word c.args.kind ∷ []) (search rules) (search rules) (search rules)

use Rattle.std.proofs.Common.{codes, rules, map}
use Rattle.wh_front.specs.Spelling.{count_word}
use Rattle.wh_front.proofs.Lines.{line_pushed}
use Rattle.wh_front.proofs.write.push_entries_line.Goals as goal

pub returns : goal.returns
returns c =
    line_pushed c.args.out.now.items c.extend_from_slice.new.self.items c.push_counts.new.out.items c.push.new.self.items
    (codes "entries") (map count_word c.args.counts.now) (search rules) (search rules) (search rules)

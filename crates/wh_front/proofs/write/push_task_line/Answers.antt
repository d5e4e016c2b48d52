use Rattle.std.proofs.Common.{codes, rules}
use Rattle.wh_front.specs.Spelling.{submission_words}
use Rattle.wh_front.proofs.Lines.{line_pushed}
use Rattle.wh_front.proofs.write.push_task_line.Goals as goal

pub returns : goal.returns
returns c =
    line_pushed c.args.out.now.items c.extend_from_slice.new.self.items c.push_submission.new.out.items c.push.new.self.items
    (codes "task") (submission_words (record { caller = c.args.caller; task = c.args.task.now })) (search rules) (search rules) (search rules)

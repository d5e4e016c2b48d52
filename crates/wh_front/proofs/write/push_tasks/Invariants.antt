use Rattle.std.proofs.Common.{◌≡◌, ◌++◌, ◌∷◌, take, map, length}
use Rattle.wh_words.specs.Lines.{text_of}
use Rattle.wh_front.specs.Spelling.{front_line}
use Rattle.wh_front.specs.declared.line.Line.TheVariants as lines
use Rattle.wh_front.proofs.write.push_tasks.Given as goal

abbrev pub invariant-loop-submission : goal.invariant-loop-submission
invariant-loop-submission l = l.out.items ≡ l.fn.out.items ++ text_of (map front_line (lines.Tasks (length l.tasks) ∷ map lines.Task (take l.submission-index l.tasks)))

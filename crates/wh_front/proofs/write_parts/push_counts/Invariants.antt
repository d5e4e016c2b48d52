use Rattle.std.proofs.Common.{◌≡◌, ◌++◌, take, map}
use Rattle.wh_log.specs.Spaced.{spaced}
use Rattle.wh_front.specs.Spelling.{count_word}
use Rattle.wh_front.proofs.write_parts.push_counts.Given as goal

abbrev pub invariant-loop-count : goal.invariant-loop-count
invariant-loop-count l = l.out.items ≡ l.fn.out.items ++ spaced (map count_word (take l.count-index l.counts))

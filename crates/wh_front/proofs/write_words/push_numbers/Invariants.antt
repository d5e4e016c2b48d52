use Rattle.std.proofs.Common.{◌≡◌, ◌++◌, take, map, decimal}
use Rattle.wh_log.specs.Spaced.{spaced}
use Rattle.wh_front.proofs.write_words.push_numbers.Given as goal

abbrev pub invariant-loop-number : goal.invariant-loop-number
invariant-loop-number l = l.out.items ≡ l.fn.out.items ++ spaced (map decimal (take l.number-index l.numbers))

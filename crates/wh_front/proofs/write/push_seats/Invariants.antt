use Rattle.std.proofs.Common.{◌≡◌, ◌++◌, ◌∷◌, take, map, length}
use Rattle.wh_words.specs.Lines.{text_of}
use Rattle.wh_front.specs.Spelling.{front_line}
use Rattle.wh_front.specs.declared.line.Line.TheVariants as lines
use Rattle.wh_front.proofs.write.push_seats.Given as goal

abbrev pub invariant-loop-seat : goal.invariant-loop-seat
invariant-loop-seat l = l.out.items ≡ l.fn.out.items ++ text_of (map front_line (lines.Agents (length l.seats) ∷ map lines.Agent (take l.seat-index l.seats)))

use Rattle.std.proofs.Common.{◌≡◌, take}
use Rattle.std.specs.List.{count_by}
use Rattle.wh_text.specs.Lines.{is_line_feed}
use Rattle.wh_handover.proofs.chain.lines_in.Given as goal

-- the lines so far
abbrev pub invariant-loop-b : goal.invariant-loop-b
invariant-loop-b l = l.lines ≡ count_by is_line_feed (take l.b-index l.text)

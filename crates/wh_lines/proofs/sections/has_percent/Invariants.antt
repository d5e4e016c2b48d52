use Rattle.std.proofs.Common.{◌≡◌, false, take}
use Rattle.wh_text.specs.Lines.{HasNone}
use Rattle.wh_lines.specs.Text.{is_percent}
use Rattle.wh_lines.proofs.sections.has_percent.Given as goal

abbrev pub invariant-loop-byte : goal.invariant-loop-byte
invariant-loop-byte l = l.found ≡ false → HasNone is_percent (take l.byte-index l.bytes)

use Rattle.std.proofs.Common.{◌≡◌, ◌++◌, map, take}
use Rattle.wh_words.specs.Lines.{text_of}
use Rattle.wh_display.specs.Texts.{agent_line}
use Rattle.wh_display.proofs.text.push_agents.Given as goal

-- the agents so far stand there
abbrev pub invariant-loop-shown : goal.invariant-loop-shown
invariant-loop-shown l = l.out.items ≡ l.fn.out.items ++ text_of (map agent_line (take l.shown-index l.agents))

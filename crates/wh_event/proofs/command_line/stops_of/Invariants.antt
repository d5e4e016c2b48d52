use Rattle.std.proofs.Common.{◌≡◌, ◌++◌, ◌≤◌, true, length}
use Rattle.std.specs.List.{list_all}
use Rattle.wh_text.specs.Names.{is_name}
use Rattle.wh_event.proofs.command_line.stops_of.Given as goal

abbrev pub invariant-loop-word : goal.invariant-loop-word
invariant-loop-word l = record {
  all : l.names.items ++ l.words ≡ l.fn.words;
  names : list_all is_name l.names.items ≡ true;
  few : length l.names.items ≤ 8;
}

abbrev pub decreases-loop-word : goal.decreases-loop-word
decreases-loop-word l = length l.words

use Rattle.std.proofs.Common.{◌≡◌, true, take}
use Rattle.std.specs.List.{list_all}
use Rattle.wh_text.specs.Numbers.{decimal, is_digit}
use Rattle.wh_event.proofs.front.front_request.Given as goal

abbrev pub invariant-loop-count : goal.invariant-loop-count
invariant-loop-count l = record {
  value : l.agent ≡ decimal (take l.count l.number);
  digits : list_all is_digit (take l.count l.number) ≡ true;
}

use Rattle.std.proofs.Common.{◌≡◌, ◌≤◌, true, length, take}
use Rattle.std.specs.List.{list_all}
use Rattle.wh_text.specs.Numbers.{is_digit}
use Rattle.wh_words.specs.Numerals.{value_of}
use Rattle.wh_log.proofs.usual.number.Given as goal

abbrev pub invariant-loop-i : goal.invariant-loop-i
invariant-loop-i l = record {
  value : l.value ≡ value_of (take l.i l.fn.text);
  digits : list_all is_digit (take l.i l.fn.text) ≡ true;
  few : l.i-end ≤ 9;
  inside : l.i-end ≤ length l.fn.text;
}

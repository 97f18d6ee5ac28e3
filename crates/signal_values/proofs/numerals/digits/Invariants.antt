use Rattle.std.proofs.Common.{◌≡◌, ◌-◌, ◌^◌, min, take, true}
use Rattle.std.specs.{Char.is_ascii_digit, List.list_all, Str.Parse.digits_value}
use Rattle.signal_values.proofs.numerals.digits.Given as goal

abbrev pub invariant-loop-b : goal.invariant-loop-b
invariant-loop-b l = record {
  digits : list_all is_ascii_digit (take l.b-index l.bytes) ≡ true;
  value : l.n ≡ min (digits_value 10 (take l.b-index l.bytes)) (2 ^ 32 - 1);
}

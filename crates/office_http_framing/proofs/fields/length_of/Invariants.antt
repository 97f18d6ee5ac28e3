use Rattle.std.proofs.Common.{◌≡◌, ◌+◌, min, true, take}
use Rattle.std.specs.{List.list_all, Char.is_ascii_digit, Str.Parse.digits_value}
use Rattle.office_http_framing.specs.declared.fields.TheConstants.{LARGEST_BODY}
use Rattle.office_http_framing.proofs.fields.length_of.Given as goal

-- the value so far, up to one more than the largest length
abbrev pub invariant-loop-b : goal.invariant-loop-b
invariant-loop-b l = record {
  value : l.length ≡ min (digits_value 10 (take l.b-index l.value)) (LARGEST_BODY + 1);
  digits : list_all is_ascii_digit (take l.b-index l.value) ≡ true;
}

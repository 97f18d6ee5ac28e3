use Rattle.std.proofs.Common.{◌≡◌, ◌-◌, true, get_or, sym, ◌∙◌, arith}
use Rattle.std.specs.Char.{is_ascii_digit, digit_value}
use Rattle.std.proofs.{lemmas.Bool.and_from, lemmas.Bool.Decides.nat_tests, lemmas.Int.Digits.digits_value_more}
use Rattle.std.proofs.lemmas.List.Folds.{list_all_more}
use Rattle.signal_values.proofs.numerals.digits.Goals as goal

-- one more digit, where a number past the greatest stays the greatest
pub loop-b-preserved : goal.loop-b-preserved
loop-b-preserved c =
    let bytes = c.args.bytes.now in
    let i = c.loop-b.b-index in
    let digit : is_ascii_digit (get_or bytes i 0) ≡ true = sym c.if-not-is_ascii_digit.ensures.value in
    let worth : digit_value (get_or bytes i 0) ≡ get_or bytes i 0 - 48 = grind (arith, nat_tests) in
    record {
      digits = list_all_more is_ascii_digit bytes i 0 c.loop-b-test.true
          ∙ and_from _ _ c.loop-b.invariant.digits digit;
      value = omega (arith, digits_value_more 10 bytes i c.loop-b-test.true);
    }

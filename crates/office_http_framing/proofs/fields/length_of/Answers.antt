use Rattle.std.proofs.Common.{◌≡◌, ◌-◌, true, get_or, sym, ◌∙◌, arith}
use Rattle.std.specs.Char.{is_ascii_digit, digit_value}
use Rattle.std.proofs.lemmas.{List.Folds.list_all_more, Bool.and_from, Bool.Decides.nat_tests}
use Rattle.std.proofs.lemmas.Int.Digits.{digits_value_more}
use Rattle.office_http_framing.proofs.fields.length_of.Goals as goal

pub loop-b-preserved : goal.loop-b-preserved
loop-b-preserved c =
    let value = c.args.value.now in
    let i = c.loop-b.b-index in
    let digit : is_ascii_digit (get_or value i 0) ≡ true = sym c.if-not-is_ascii_digit.ensures.value in
    let worth : digit_value (get_or value i 0) ≡ get_or value i 0 - 48 = grind (arith, nat_tests) in
    record {
      value = omega (arith, digits_value_more 10 value i c.loop-b-test.true, c.min-length.ensures);
      digits = list_all_more is_ascii_digit value i 0 c.loop-b-test.true ∙ and_from _ _ c.loop-b.invariant.digits digit;
    }

use Rattle.std.proofs.Common.{sym, arith}
use Rattle.signal_office_line.proofs.NumberLemmas.{no_number, the_number}
use Rattle.signal_office_line.proofs.values.number_of.Goals as goal

pub returns-in-Ok : goal.returns-in-Ok
returns-in-Ok c =
    let read = c.in-Ok.ensures.value.0 in
    let same = read.1 in
    the_number c.args.least c.args.most c.in-Ok.number c.args.word.now
    (read.0.0, omega (arith, read.0.1), omega (arith, same, c.if-least-number.true), omega (arith, same, c.if-number-most.true))
    (sym same)

pub returns-in_default-3 : goal.returns-in_default-3
returns-in_default-3 c =
    no_number c.args.least c.args.most c.args.word.now
    (λ inside.
    let high = inside.3 in
    c.in_default.ensures.value.0 (inside.0, omega (arith, high, c.ranges.most.fits)))

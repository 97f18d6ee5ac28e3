use Rattle.std.proofs.{Common.rules, Common.arith, lemmas.Option.IfSome_then}
use Rattle.cabinet_core.proofs.DayLemmas.{civil_day_is_short, spelt_digits, civil_from_reads, spelt_from_reads, day_picked, epoch_day_counted}
use Rattle.cabinet_core.proofs.day.read_day.Goals as goal

pub returns-then-bytes-ne10-clause-accepted : goal.returns-then-bytes-ne10-clause-accepted
returns-then-bytes-ne10-clause-accepted c = λ n s.
    let d = spelt_digits c.args.bytes.now n s in
    grind (arith, d.dashes)

pub returns-in_err-century-clause-accepted : goal.returns-in_err-century-clause-accepted
returns-in_err-century-clause-accepted c = λ n s.
    let d = spelt_digits c.args.bytes.now n s in
    absurd (c.in_err-century.ensures.none _ (civil_day_is_short n s.day).century d.century.0 d.century.1)

pub returns-in_err-year-clause-accepted : goal.returns-in_err-year-clause-accepted
returns-in_err-year-clause-accepted c = λ n s.
    let d = spelt_digits c.args.bytes.now n s in
    absurd (c.in_err-year.ensures.none _ (civil_day_is_short n s.day).year d.year.0 d.year.1)

pub returns-in_err-month-clause-accepted : goal.returns-in_err-month-clause-accepted
returns-in_err-month-clause-accepted c = λ n s.
    let d = spelt_digits c.args.bytes.now n s in
    absurd (c.in_err-month.ensures.none _ (civil_day_is_short n s.day).month d.month.0 d.month.1)

pub returns-in_err-day-clause-accepted : goal.returns-in_err-day-clause-accepted
returns-in_err-day-clause-accepted c = λ n s.
    let d = spelt_digits c.args.bytes.now n s in
    absurd (c.in_err-day.ensures.none _ (civil_day_is_short n s.day).day d.day.0 d.day.1)

pub returns-in_err-date_of-clause-accepted : goal.returns-in_err-date_of-clause-accepted
returns-in_err-date_of-clause-accepted c = λ n s.
    let civil = civil_from_reads c.args.bytes.now n s _ _ _ _ c.in_ok-century.ensures.value c.in_ok-year.ensures.value c.in_ok-month.ensures.value c.in_ok-day.ensures.value in
    absurd (c.in_err-date_of.ensures.none civil.calendar)

pub returns-clause-spelt : goal.returns-clause-spelt
returns-clause-spelt c =
    IfSome_then c.from_date.result c.from_date.ensures.value (λ k is. spelt_from_reads c.args.bytes.now k c.in_ok-date_of.field-0 is.0 is.1 _ _ _ _ (record { size = search rules; first = search rules; second = search rules }) c.in_ok-century.ensures.value c.in_ok-year.ensures.value c.in_ok-month.ensures.value c.in_ok-day.ensures.value c.in_ok-date_of.ensures.value)

pub returns-clause-accepted : goal.returns-clause-accepted
returns-clause-accepted c = λ n s.
    let civil = civil_from_reads c.args.bytes.now n s _ _ _ _ c.in_ok-century.ensures.value c.in_ok-year.ensures.value c.in_ok-month.ensures.value c.in_ok-day.ensures.value in
    day_picked c.from_date.result _ n s.day (epoch_day_counted c.in_ok-date_of.field-0 n _ _ _ _ civil c.in_ok-date_of.ensures.value) c.from_date.ensures.value c.from_date.ensures.outside

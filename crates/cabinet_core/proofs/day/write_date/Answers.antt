-- A date prints its year, month and day, which are those of its number.
use Rattle.std.proofs.Common.{◌∙◌}
use Rattle.cabinet_core.proofs.DayLemmas.{date_text_is}
use Rattle.cabinet_core.proofs.day.write_date.Goals as goal

pub returns : goal.returns
returns c =
    c.in_ok-text.ensures.ok ∙ date_text_is c.civil-civil.result c.args.date c.civil-civil.ensures

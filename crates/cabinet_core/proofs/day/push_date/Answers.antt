use Rattle.cabinet_core.proofs.DayLemmas.{date_text_is}
use Rattle.cabinet_core.proofs.day.push_date.Goals as goal

pub returns : goal.returns
returns c = rw (date_text_is c.civil-civil.result c.args.date c.civil-civil.ensures) at c.write.ensures.bytes

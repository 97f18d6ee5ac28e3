use Rattle.office_http_responses.proofs.cabinet.write_inspection.Goals as goal

pub returns : goal.returns
returns c = rw (← c.as_str.ensures.text, ← c.as_str-2.ensures.text, ← c.date.ensures.value, ← c.get.ensures.value, ← c.from.ensures)
    c.object.ensures

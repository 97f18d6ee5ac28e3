use Rattle.office_http_responses.proofs.reply.write_refusal.Goals as goal

pub returns-in-ImportRow : goal.returns-in-ImportRow
returns-in-ImportRow c =
    rw c.in-ImportRow.is
    (rw (c.from.ensures, c.number.ensures, c.name.ensures, c.from-in-ImportRow.ensures, c.in-ImportRow.is) at c.object-in-ImportRow.ensures)

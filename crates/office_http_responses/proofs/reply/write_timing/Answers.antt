use Rattle.office_http_responses.proofs.TokenLemmas.{one, ◌then◌}
use Rattle.office_http_responses.proofs.reply.write_timing.Goals as goal

pub returns : goal.returns
returns c =
    rw (← c.get.ensures.value, ← c.from.ensures)
    (one c.in_ok-begin_object.ensures then one c.in_ok-key.ensures then one c.in_ok-u64.ensures
    then one c.in_ok-key-2.ensures then c.in_ok-write_rows.ensures then one c.in_ok-end_object.ensures)

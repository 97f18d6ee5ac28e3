use Rattle.office_http_responses.proofs.HeadLemmas.{◌then◌}
use Rattle.office_http_responses.proofs.head.put_status.Goals as goal

pub returns : goal.returns
returns c =
    rw (← c.reason.ensures, ← c.as_bytes.ensures.value, ← c.as_u16.ensures.value, ← c.from.ensures)
    (c.in_ok-put.ensures then (c.in_ok-put_number.ensures then c.in_ok-put-2.ensures then c.in_ok-put-3.ensures))

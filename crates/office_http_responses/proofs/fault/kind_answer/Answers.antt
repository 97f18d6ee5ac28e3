use Rattle.office_http_responses.specs.Faults.{fault_bytes}
use Rattle.office_http_responses.proofs.fault.kind_answer.Goals as goal

pub returns : goal.returns
unfolding fault_bytes
returns c =
    rw (c.line.ensures.status, c.as_slice.ensures.value, c.in_ok-content.ensures) at c.with_head.ensures

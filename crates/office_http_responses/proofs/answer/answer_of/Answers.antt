use Rattle.office_http_responses.specs.Answers.{answer_bytes}
use Rattle.office_http_responses.proofs.answer.answer_of.Goals as goal

pub returns : goal.returns
unfolding answer_bytes
returns c =
    rw (c.status.ensures, c.as_slice.ensures.value, c.in_ok-content.ensures) at c.with_head.ensures

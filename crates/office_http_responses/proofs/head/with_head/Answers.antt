use Rattle.office_http_responses.specs.Answers.{answer_with}
use Rattle.office_http_responses.proofs.HeadLemmas.{◌then◌, from_nothing}
use Rattle.office_http_responses.proofs.head.with_head.Goals as goal

pub returns : goal.returns
unfolding answer_with
returns c =
    from_nothing c.in_ok-answer.ensures.items
    (c.in_ok-put_status.ensures then c.in_ok-put.ensures then c.in_ok-put_number.ensures then c.in_ok-put-2.ensures then c.in_ok-put-3.ensures)

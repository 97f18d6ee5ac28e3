use Rattle.office_http_responses.proofs.TokenLemmas.{one, ◌then◌}
use Rattle.office_http_responses.proofs.reply.write_draft.Goals as goal

pub returns : goal.returns
returns c =
    rw (← c.as_str.ensures.text, ← c.as_slice.ensures)
    (one c.in_ok-begin_object.ensures then one c.in_ok-key.ensures then one c.in_ok-string.ensures
    then one c.in_ok-key-2.ensures then c.in_ok-write_rows.ensures
    then one c.in_ok-key-3.ensures then c.in_ok-array.ensures then one c.in_ok-end_object.ensures)

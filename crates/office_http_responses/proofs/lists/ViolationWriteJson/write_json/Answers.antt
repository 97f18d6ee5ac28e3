use Rattle.office_http_responses.proofs.TokenLemmas.{one, ◌then◌}
use Rattle.office_http_responses.proofs.lists.ViolationWriteJson.write_json.Goals as goal

pub returns : goal.returns
returns c =
    rw (← c.in_ok-rule.ensures.ok, ← c.in_ok-subject.ensures.ok, ← c.as_str.ensures.value, ← c.as_str-2.ensures.value)
    (one c.in_ok-begin_object.ensures then one c.in_ok-key.ensures then one c.in_ok-string.ensures
    then one c.in_ok-key-2.ensures then one c.in_ok-string-2.ensures then one c.in_ok-end_object.ensures)

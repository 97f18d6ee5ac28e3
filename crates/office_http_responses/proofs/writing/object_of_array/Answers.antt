use Rattle.office_http_responses.proofs.TokenLemmas.{one, ◌then◌}
use Rattle.office_http_responses.proofs.writing.object_of_array.Goals as goal

pub returns : goal.returns
returns g c =
    one c.in_ok-begin_object.ensures then one c.in_ok-key.ensures then c.in_ok-array.ensures then one c.in_ok-end_object.ensures

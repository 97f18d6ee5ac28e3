use Rattle.office_files.proofs.RecordFieldLemmas.{given_day}
use Rattle.office_http_requests.proofs.value.day_spelled.Goals as goal

pub returns : goal.returns
returns c = given_day c.args.text.now c.read_day.result c.read_day.ensures.spelt c.read_day.ensures.accepted

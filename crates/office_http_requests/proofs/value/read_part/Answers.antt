use Rattle.office_files.proofs.RecordFieldLemmas.{given_part}
use Rattle.office_http_requests.proofs.value.read_part.Goals as goal

pub returns : goal.returns
returns c = given_part c.args.text.now c.new.result c.new.ensures.accepts c.new.ensures.keeps

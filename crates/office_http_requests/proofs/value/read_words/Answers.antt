use Rattle.office_files.proofs.RecordFieldLemmas.{given_words}
use Rattle.office_http_requests.proofs.value.read_words.Goals as goal

pub returns : goal.returns
returns g c = given_words g.row.MAX c.args.text.now c.new.result c.new.ensures.accepts c.new.ensures.keeps

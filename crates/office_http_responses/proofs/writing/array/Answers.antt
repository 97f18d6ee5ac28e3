use Rattle.std.proofs.Common.{sym}
use Rattle.office_http_responses.proofs.TokenLemmas.{one, ◌then◌, same_tokens, list_tokens}
use Rattle.office_http_responses.proofs.writing.array.Goals as goal

pub returns : goal.returns
returns g c =
    same_tokens (sym (list_tokens g.T.WriteJson.tree c.args.items.now))
    (one c.in_ok-begin_array.ensures then c.in_ok-write_items.ensures then one c.in_ok-end_array.ensures)

use Rattle.std.proofs.Common.{map, sym}
use Rattle.office_http_responses.specs.Writing.{entry_of}
use Rattle.office_http_responses.proofs.TokenLemmas.{one, ◌then◌, same_tokens, keys_tokens}
use Rattle.office_http_responses.proofs.writing.object.Goals as goal

pub returns : goal.returns
returns c =
    same_tokens (sym (keys_tokens (map entry_of c.args.members.now)))
    (one c.in_ok-begin_object.ensures then c.in_ok-write_members.ensures then one c.in_ok-end_object.ensures)

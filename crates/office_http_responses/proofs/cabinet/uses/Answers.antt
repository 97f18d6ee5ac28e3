use Rattle.std.proofs.Common.{sym}
use Rattle.std.specs.List.{filter}
use Rattle.office_files.specs.Records.{is_line_of}
use Rattle.office_http_responses.specs.RegisterTrees.{used_tree}
use Rattle.office_http_responses.proofs.TokenLemmas.{one, ◌then◌, same_tokens, list_tokens}
use Rattle.office_http_responses.proofs.cabinet.uses.Goals as goal

pub returns : goal.returns
returns c =
    same_tokens (sym (list_tokens used_tree (filter (is_line_of c.args.order) c.args.lines.now)))
    (one c.in_ok-begin_array.ensures then c.in_ok-write_uses.ensures then one c.in_ok-end_array.ensures)

use Rattle.std.proofs.Common.{sym}
use Rattle.office_http_responses.specs.RegisterTrees.{order_tree}
use Rattle.office_http_responses.proofs.TokenLemmas.{one, ◌then◌, same_tokens, list_tokens}
use Rattle.office_http_responses.proofs.cabinet.orders.Goals as goal

pub returns : goal.returns
returns c =
    same_tokens (sym (list_tokens (order_tree c.args.lines.now) c.args.orders.now))
    (one c.in_ok-begin_array.ensures then c.in_ok-write_orders.ensures then one c.in_ok-end_array.ensures)

use Rattle.std.proofs.Common.{codes, sym}
use Rattle.office_http_responses.specs.RegisterTrees.{order_members, uses_tree}
use Rattle.office_http_responses.proofs.TokenLemmas.{one, ◌then◌, same_tokens, keys_and_one}
use Rattle.office_http_responses.proofs.cabinet.write_order.Goals as goal

pub returns : goal.returns
returns c =
    same_tokens (sym (keys_and_one (order_members c.args.order.now) (codes "used") (uses_tree c.args.order.now.number c.args.lines.now)))
    (one c.in_ok-begin_object.ensures then c.in_ok-write_order_members.ensures
    then one c.in_ok-key.ensures then c.in_ok-uses.ensures then one c.in_ok-end_object.ensures)

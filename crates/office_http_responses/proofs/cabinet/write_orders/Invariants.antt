use Rattle.std.proofs.Common.{◌≡◌, ◌++◌, map, flat_map, take}
use Rattle.office_http_responses.specs.{RegisterTrees.order_tree, Writing.tokens_of}
use Rattle.office_http_responses.proofs.cabinet.write_orders.Given as goal

-- what was written so far
abbrev pub invariant-loop-order : goal.invariant-loop-order
invariant-loop-order l = record {
  before : l.to.before ≡ l.fn.to.before;
  tokens : l.to.tokens ≡ l.fn.to.tokens ++ flat_map tokens_of (map (order_tree l.lines) (take l.order-index l.orders));
}

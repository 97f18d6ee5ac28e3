use Rattle.std.proofs.Common.{◌≡◌, ◌≤◌, filter, length, take}
use Rattle.cabinet_core.specs.Orders.{is_open}
use Rattle.cabinet_core.proofs.open_orders.open_count.Given as goal

-- the open ones of the first orders
abbrev pub invariant-loop-order : goal.invariant-loop-order
invariant-loop-order l = record {
  counted : l.count ≡ length (filter is_open (take l.order-index l.orders));
  short : l.count ≤ l.order-index;
}

use Rattle.std.proofs.Common.{◌≡◌, ◌++◌, map, take, filter}
use Rattle.cabinet_core.specs.Orders.{is_open}
use Rattle.office_machine.specs.Orders.{order_on}
use Rattle.office_machine.proofs.orders.add_open_orders.Given as goal

-- the open ones of the first orders
abbrev pub invariant-loop-order : goal.invariant-loop-order
invariant-loop-order l =
    l.found.items ≡ l.fn.found.items ++ map (order_on l.cabinet.id) (filter is_open (take l.order-index l.cabinet.view.orders))

use Rattle.std.proofs.Common.{◌≡◌, ◌++◌, flat_map, take}
use Rattle.office_files.specs.Records.{order_commands}
use Rattle.office_files.proofs.cabinet.push_orders.Given as goal

-- what made the first orders
abbrev pub invariant-loop-order : goal.invariant-loop-order
invariant-loop-order l =
    l.commands.items ≡ l.fn.commands.items ++ flat_map (order_commands l.id l.lines)
    (take l.order-index l.orders)

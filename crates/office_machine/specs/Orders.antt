-- Open orders as lists show them, each with its intersection.
use Rattle.std.specs.Prelude.{ℕ, List, map, filter}
use Rattle.cabinet_core.specs.{Orders.is_open, declared.record.Order.Order}
use Rattle.office_machine.specs.declared.{orders.NamedOrder.NamedOrder, orders.OpenOrder.OpenOrder, reply.CabinetShown.CabinetShown}

-- an order with the number of its intersection
abbrev pub order_on : ℕ → Order → OpenOrder
order_on id order = record { id = id; order = order }

-- an order with the number and the name of its intersection
abbrev pub order_named : List ℕ → ℕ → Order → NamedOrder
order_named name id order = record { name = name; listed = order_on id order }

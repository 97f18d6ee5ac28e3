-- Which orders are open.
use Rattle.std.specs.Prelude.{ℕ, Bool, false, List, map, filter, not, Option, Some, None, is_some}
use Rattle.std.specs.FinMap.{get}
use Rattle.cabinet_core.specs.Register.{Register, records_at}
use Rattle.cabinet_core.specs.declared.record.Order.{Order}

-- an order that is not closed
abbrev pub is_open : Order → Bool
is_open order = not (is_some order.closing)

-- the numbers of the orders on an intersection that are open, ascending
abbrev pub open_at : Register → ℕ → List ℕ
open_at r id = map (λ (order : Order). order.number) (filter is_open (records_at id r.orders))

-- there is an order, and it is not closed
abbrev pub is_open_order : Option Order → Bool
is_open_order None = false
is_open_order (Some order) = is_open order

-- the order with this number on an intersection exists and is open
abbrev pub is_open_at : Register → ℕ → ℕ → Bool
is_open_at r id n = is_open_order (get r.orders (id, n))

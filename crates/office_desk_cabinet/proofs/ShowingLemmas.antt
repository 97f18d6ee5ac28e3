-- The open ones of a list of orders.
use Rattle.std.proofs.Common.{ℕ, List, map, filter}
use Rattle.cabinet_core.specs.{Orders.is_open, declared.record.Order.Order}

-- the numbers of the open ones of some orders
abbrev pub open_among : List Order → List ℕ
open_among orders = map (λ (order : Order). order.number) (filter is_open orders)

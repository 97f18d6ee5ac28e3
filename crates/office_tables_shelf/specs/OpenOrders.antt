-- The open orders of all intersections, as the tables hold them.
use Rattle.std.specs.Prelude.{◌≡◌, ℕ, ◌==◌, List, [], filter, Option, None, Some, Vec}
use Rattle.std.specs.{List.AllByRecursion, Map.lookup}
use Rattle.cabinet_core.specs.{Orders.is_open, Within.IsOrderWithin, declared.record.Order.Order}
use Rattle.office_tables_shelf.specs.{CabinetReads.ListsOrders, Content.Content}

-- the orders of a list that was looked up; none where no list was found
abbrev pub orders_kept : {A : Type 0} → Option (Vec Order A) → List Order
orders_kept None = []
orders_kept (Some found) = found.items

-- the orders that a map has for an intersection
abbrev pub orders_in : {A : Type 0} → List (ℕ × Vec Order A) → ℕ → List Order
orders_in orders id = orders_kept (lookup (λ n. n == id) orders)

-- each row of the intersection's orders is an order within its limits, and these are the open ones, in the
-- order of their numbers
pub record ReadsOpen (tables : Content) (id : ℕ) (found : List Order) : Type 0 where
  pub orders : List Order
  pub lists : ListsOrders tables id orders
  pub within : AllByRecursion IsOrderWithin orders
  pub open_ones : found ≡ filter is_open orders

use Rattle.office_tables_shelf.specs.OpenOrders.{orders_in}
use Rattle.office_tables_maps.proofs.{WalkLemmas.OrdersWith}
use Rattle.office_tables_maps.proofs.maps.Maps.open_orders.Given as goal

-- the open orders so far, and the orders that are left
abbrev pub invariant-loop-place : goal.invariant-loop-place
invariant-loop-place l = OrdersWith (orders_in l.orders.entries) l.place-iterator l.initial.place-iterator

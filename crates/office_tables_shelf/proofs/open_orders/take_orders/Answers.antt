use Rattle.std.proofs.Common.{None}
use Rattle.office_tables_shelf.specs.OpenOrders.{orders_kept}
use Rattle.office_tables_shelf.proofs.NumberedMaps.{shown_change}
use Rattle.office_tables_shelf.proofs.open_orders.take_orders.Goals as goal

pub returns-in-Some-clause-left : goal.returns-in-Some-clause-left
returns-in-Some-clause-left c n =
    shown_change orders_kept c.args.orders.now.entries c.remove.new.self.entries c.args.id None
    c.remove.ensures.updates.0 n

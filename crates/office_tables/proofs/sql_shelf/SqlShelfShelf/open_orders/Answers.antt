use Rattle.office_tables.proofs.sql_shelf.SqlShelfShelf.open_orders.Goals as goal

pub returns-clause-orders : goal.returns-clause-orders
returns-clause-orders g c = rw (← c.self.view_is) c.open_orders.ensures.orders.says

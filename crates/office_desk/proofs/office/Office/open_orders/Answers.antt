use Rattle.std.proofs.Common.{ℕ}
use Rattle.office_desk_cabinet.proofs.ListedRecords.{open_read}
use Rattle.office_desk.proofs.{Looks.gives_looks, Looks.shelf_reports, Recorded.register_of}
use Rattle.office_tables_shelf.specs.OpenOrders.{ReadsOpen, orders_in}
use Rattle.office_desk.proofs.office.Office.open_orders.Goals as goal

pub returns : goal.returns
returns g c =
    let read = c.open_orders.ensures in
    rw (← c.self.view_is) (gives_looks c.open_orders.result _ (λ tables found. (id : ℕ) → ReadsOpen tables id (orders_in found.entries id)) _ _ read.read.kept read.read.clean_before
    (shelf_reports _ _ _ c.open_orders.result read.orders read.damaged) c.map_err.ensures.cases
    (λ tables found reads office stands id. open_read tables office.register id _ (register_of tables office stands) (reads id)) read.read.told)

use Rattle.std.proofs.Common.{[], ◌∷◌, pos}
use Rattle.office_tables_shelf.proofs.CabinetLemmas.{of_number}
use Rattle.office_tables_shelf.specs.{CabinetReads.of_one, CabinetRows.order_key, CabinetRows.order_columns, Cells.number}
use Rattle.cabinet_core.specs.Within.{IsOrderWithin}
use Rattle.office_tables_sql.proofs.Walks.{gives_of, lists_one, none_damaged, within_one}
use Rattle.office_tables_sql.proofs.each_row.open_orders.Goals as goal

pub returns-clause-orders : goal.returns-clause-orders
returns-clause-orders g c = gives_of c.gather_rows.result c.gather_rows.ensures _ (λ tables orders found id. record {
  orders = of_one id found.records;
  lists = lists_one (λ id x. order_key id x.number) order_columns (λ id n x. of_number id n (number (pos x.number) ∷ [])) tables.work_order found.records found.lists id;
  within = within_one IsOrderWithin found.records found.within id;
  open_ones = found.held id;
})

pub returns-clause-whole : goal.returns-clause-whole
returns-clause-whole g c = none_damaged c.gather_rows.result c.gather_rows.ensures

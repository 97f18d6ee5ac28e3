use Rattle.std.proofs.Common.{[], ◌∷◌, ◌++◌, filter, ap, sym, ◌∙◌}
use Rattle.std.proofs.lemmas.{List.Elements.filter-append, Result.on_ok_weaker}
use Rattle.cabinet_core.specs.Orders.{is_open}
use Rattle.office_tables_shelf.specs.{CabinetReads.of_one, OpenOrders.orders_in}
use Rattle.office_tables_sql.proofs.Walks.{known_after}
use Rattle.office_tables_sql.proofs.each_row.BTreeMapInterIdVecOrderGatherTuple2InterIdOrder.take.Goals as goal

pub returns : goal.returns
returns c =
    let id = c.args.next.0 in
    let order = c.args.next.1 in
    on_ok_weaker c.add_open.result (λ updates records same.
    known_after (filter is_open) records c.args.next _ (orders_in c.args.self.now.entries)
    (orders_in c.add_open.new.orders.entries) same
    (ap (λ kept. kept ++ filter is_open (order ∷ [])) (same id)
    ∙ sym (filter-append is_open (of_one id records) (order ∷ [])))
    updates) c.add_open.ensures

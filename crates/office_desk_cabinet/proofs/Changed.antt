-- Tables that stand for a register stand, once a record's rows are written, for the register with the record.
use Rattle.std.proofs.Common.{◌≡◌, ℕ, List, cond, Option, Some, None, nat_cmp, sym, ap, subst, ◌∙◌}
use Rattle.std.proofs.lemmas.Cmp.{nat_list_cmp_total}
use Rattle.std.specs.FinMap.{FinMap, entries, get-insert, insert, same_map, nat_cmp-IsAntisymmetric, slice_cmp-IsAntisymmetric}
use Rattle.std.specs.Cmp.Lexicographic.{slice_cmp}
use Rattle.cabinet_core.specs.{Cabinet.record_of, Cabinet.with_closing, Changes.ChangesMake, Changes.hand_told, Step.Standing, Step.with_record, Register.Register, Stock.hand_of, Stock.stock_by_code, Stock.stock_of, declared.command.RecordCommand.RecordCommand, declared.decide.CabinetChange.TheVariants.PutPart, declared.record.Order.Order}
use Rattle.cabinet_core.specs.declared.command.RecordCommand.TheVariants.{Inspect, OpenOrder, UsePart, CloseOrder, Receive}
use Rattle.cabinet_core.proofs.KeyOrders.{record_total, line_total, delivery_total, codes_tie}
use Rattle.cabinet_core.proofs.{Made.changes_on, Made.place_or, StockList.stock_has}
use Rattle.office_tables_shelf.specs.CabinetRows.{inspection_key, inspection_columns, order_key, order_columns, used_key, used_columns, delivery_key, delivery_columns, part_key, part_columns}
use Rattle.office_tables_shelf.specs.{Cells.TableRows, Cells.tree_rows, Change.changed, Change.changed_by, Content.Content, declared.rows.RowChange.RowChange, declared.rows.RowChange.TheVariants.PutOrder}
use Rattle.office_tables_shelf.proofs.{CabinetLemmas.part_order, KeyCells.record_order, KeyCells.line_order, KeyCells.delivery_order, StoredMaps.insert_stored}
use Rattle.office_machine.specs.Step.{cabinet_of}
use Rattle.office_desk_cabinet.specs.RegisterStands.{inspection_cells, order_cells, line_cells, delivery_cells, RegisterStands}
use Rattle.office_desk_cabinet.specs.Telling.{row_changes_of}

-- the rows that a record adds where it is new
abbrev pub rows_on : (c : RecordCommand) → Standing c → List RowChange
rows_on c there = row_changes_of (cabinet_of c) (changes_on c there)

-- where the number of one part is put, and is that of the next register, and the others are as before, the rows are its stock
stock_put : (r next : Register) (code : List ℕ) (hand : ℕ) (rows : TableRows) → rows ≡ tree_rows part_key part_columns (stock_of r)
    → ((other : List ℕ) → hand_told other (hand_of r other) (PutPart code hand) ≡ hand_of next other)
    → insert rows (part_key code) (part_columns hand) ≡ tree_rows part_key part_columns (stock_of next)
stock_put r next code hand rows stand hands =
    ap (λ (held : TableRows). insert held (part_key code) (part_columns hand)) stand
    ∙ sym (insert_stored nat_list_cmp_total part_key part_columns part_order (stock_by_code r) code hand)
    ∙ ap (λ (stock : FinMap (slice_cmp nat_cmp) ℕ). tree_rows part_key part_columns (entries stock))
    (same_map nat_list_cmp_total (slice_cmp-IsAntisymmetric nat_cmp-IsAntisymmetric) _ _ (λ other.
    get-insert nat_list_cmp_total (stock_by_code r) code hand other
    ∙ (λ i. cond (codes_tie other code i) (Some hand) (stock_has r other i)) ∙ hands other ∙ sym (stock_has next other)))

order_put : (tables : Content) (r : Register) (id : ℕ) (order : Order) → RegisterStands tables r
    → RegisterStands (changed tables (PutOrder id order)) (record r { orders = insert r.orders (id, order.number) order })
order_put tables r id order stand = record {
  inspection = stand.inspection;
  work_order = ap (λ (rows : TableRows). insert rows (order_key id order.number) (order_columns order)) stand.work_order
      ∙ sym (insert_stored record_total order_cells order_columns record_order r.orders (id, order.number) order);
  used_part = stand.used_part;
  delivery = stand.delivery;
  part = stand.part;
}

pub stand_changed : (tables : Content) (r : Register) (c : RecordCommand) (there : Standing c) → RegisterStands tables r
    → ChangesMake (place_or 0 c) r (changes_on c there) (with_record r c) → RegisterStands (changed_by tables (rows_on c there)) (with_record r c)
stand_changed tables r (Inspect id asked) there stand makes = record {
  inspection = ap (λ (rows : TableRows). insert rows (inspection_key id asked.number) (inspection_columns asked)) stand.inspection
      ∙ sym (insert_stored record_total inspection_cells inspection_columns record_order r.inspections (id, asked.number) asked);
  work_order = stand.work_order;
  used_part = stand.used_part;
  delivery = stand.delivery;
  part = stand.part;
}
stand_changed tables r (OpenOrder id asked) there stand makes = order_put tables r id (record_of asked) stand
stand_changed tables r (UsePart id asked) there stand makes = record {
  inspection = stand.inspection;
  work_order = stand.work_order;
  used_part = ap (λ (rows : TableRows). insert rows (used_key id asked.order asked.line) (used_columns asked)) stand.used_part
      ∙ sym (insert_stored line_total line_cells used_columns line_order r.lines (id, (asked.order, asked.line)) asked);
  delivery = stand.delivery;
  part = stock_put r (with_record r (UsePart id asked)) asked.part _ tables.part stand.part makes.hands;
}
stand_changed tables r (CloseOrder id n asked) None stand makes = subst (RegisterStands tables) makes.records stand
stand_changed tables r (CloseOrder id n asked) (Some order) stand makes =
    subst (RegisterStands (changed tables (PutOrder id (with_closing order asked)))) makes.records (order_put tables r id (with_closing order asked) stand)
stand_changed tables r (Receive asked) there stand makes = record {
  inspection = stand.inspection;
  work_order = stand.work_order;
  used_part = stand.used_part;
  delivery = ap (λ (rows : TableRows). insert rows (delivery_key asked.part asked.number) (delivery_columns asked)) stand.delivery
      ∙ sym (insert_stored delivery_total delivery_cells delivery_columns delivery_order r.deliveries (asked.part, asked.number) asked);
  part = stock_put r (with_record r (Receive asked)) asked.part _ tables.part stand.part makes.hands;
}

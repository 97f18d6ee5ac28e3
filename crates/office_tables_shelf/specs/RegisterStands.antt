-- Which register the tables stand for.
use Rattle.std.specs.Prelude.{◌≡◌, List}
use Rattle.std.specs.FinMap.{entries}
use Rattle.cabinet_core.specs.Register.{Register, RecordKey, LineKey, DeliveryKey}
use Rattle.cabinet_core.specs.{Sound.IsSoundRegister, Stock.stock_of}
use Rattle.office_tables_shelf.specs.{Cells.Cell, Cells.tree_rows, Content.Content}
use Rattle.office_tables_shelf.specs.CabinetRows.{inspection_key, inspection_columns, order_key, order_columns, used_key, used_columns, delivery_key, delivery_columns, part_key, part_columns}

-- the key cells of an inspection, by its key in the register
abbrev pub inspection_cells : RecordKey → List Cell
inspection_cells key = inspection_key key.0 key.1

-- the key cells of an order, by its key in the register
abbrev pub order_cells : RecordKey → List Cell
order_cells key = order_key key.0 key.1

-- the key cells of a used part, by its key in the register
abbrev pub line_cells : LineKey → List Cell
line_cells key = used_key key.0 key.1.0 key.1.1

-- the key cells of a delivery, by its key in the register
abbrev pub delivery_cells : DeliveryKey → List Cell
delivery_cells key = delivery_key key.0 key.1

-- the tables hold the records of the register, and no others; each part that was delivered, and no other, has a row with what is on hand
pub record RegisterStands (tables : Content) (r : Register) : Type 0 where
  pub inspection : tables.inspection ≡ tree_rows inspection_cells inspection_columns (entries r.inspections)
  pub work_order : tables.work_order ≡ tree_rows order_cells order_columns (entries r.orders)
  pub used_part : tables.used_part ≡ tree_rows line_cells used_columns (entries r.lines)
  pub delivery : tables.delivery ≡ tree_rows delivery_cells delivery_columns (entries r.deliveries)
  pub part : tables.part ≡ tree_rows part_key part_columns (stock_of r)

-- the tables stand for a sound register
pub record RegisterStandsSound (tables : Content) (r : Register) : Type 0 where
  pub stand : RegisterStands tables r
  pub sound : IsSoundRegister r

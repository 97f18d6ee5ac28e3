-- The places where a row of the register stands, and what is read there, of whichever kind it is.
use Rattle.std.specs.Prelude.{◌≡◌, ℕ, List, Option, Some, None, Result, Err, IfOk}
use Rattle.cabinet_core.specs.Within.{IsInspectionWithin, IsOrderWithin, IsUsedLineWithin, IsDeliveryWithin}
use Rattle.cabinet_core.specs.declared.record.{Inspection.Inspection as InspectionRecord, Order.Order as OrderRecord, UsedLine.UsedLine, Delivery.Delivery as DeliveryRecord}
use Rattle.office_tables_shelf.specs.{CabinetReads.IsHand, Cells.Cell, Content.Content, Reads.ReadsRow, Reads.HasDamagedUnder, declared.register.RegisterKey.RegisterKey, declared.register.RegisterRecord.RegisterRecord, declared.rows.Table.Table, declared.shelf.ShelfFault.ShelfFault, declared.shelf.ShelfFault.TheVariants.Damaged}
use Rattle.office_tables_shelf.specs.CabinetRows.{part_key, part_columns, delivery_key, delivery_columns, inspection_key, inspection_columns, used_key, used_columns, order_key, order_columns}
use Rattle.office_tables_shelf.specs.declared.register.RegisterKey.TheVariants as key
use Rattle.office_tables_shelf.specs.declared.register.RegisterRecord.TheVariants as kind
use Rattle.office_tables_shelf.specs.declared.rows.Table.TheVariants as table

-- where a row of the register stands: an inspection or an order by intersection and number, a used part by intersection, order and line, a part by
-- its code, a delivery by its part's code and its number
pub data Place : Type 0 where
  Inspection : ℕ → ℕ → Place
  Order : ℕ → ℕ → Place
  Line : ℕ → ℕ → ℕ → Place
  Part : List ℕ → Place
  Delivery : List ℕ → ℕ → Place

-- the table of a place
abbrev pub table_at : Place → Table
table_at (Inspection id n) = table.Inspection
table_at (Order id n) = table.WorkOrder
table_at (Line id order line) = table.UsedPart
table_at (Part code) = table.Part
table_at (Delivery code n) = table.Delivery

-- the key cells of the row at a place
abbrev pub key_cells : Place → List Cell
key_cells (Inspection id n) = inspection_key id n
key_cells (Order id n) = order_key id n
key_cells (Line id order line) = used_key id order line
key_cells (Part code) = part_key code
key_cells (Delivery code n) = delivery_key code n

-- the kind of record that stands at a place; that of a part is how many are on hand
abbrev pub RecordAt : Place → Type 0
RecordAt (Inspection id n) = InspectionRecord
RecordAt (Order id n) = OrderRecord
RecordAt (Line id order line) = UsedLine
RecordAt (Part code) = ℕ
RecordAt (Delivery code n) = DeliveryRecord

-- the key cells of a record at a place, by the fields of the record where it has them, else by the place
abbrev pub own_key : (place : Place) → RecordAt place → List Cell
own_key (Inspection id n) = λ inspection. inspection_key id inspection.number
own_key (Order id n) = λ order. order_key id order.number
own_key (Line id order line) = λ used. used_key id used.order used.line
own_key (Part code) = λ _. part_key code
own_key (Delivery code n) = λ delivery. delivery_key delivery.part delivery.number

-- the cells of a record beside its key
abbrev pub columns_at : (place : Place) → RecordAt place → List Cell
columns_at (Inspection id n) = inspection_columns
columns_at (Order id n) = order_columns
columns_at (Line id order line) = used_columns
columns_at (Part code) = part_columns
columns_at (Delivery code n) = delivery_columns

-- a record of the kind at a place is within its limits
abbrev pub WithinAt : (place : Place) → RecordAt place → Type 0
WithinAt (Inspection id n) = IsInspectionWithin
WithinAt (Order id n) = IsOrderWithin
WithinAt (Line id order line) = IsUsedLineWithin
WithinAt (Part code) = IsHand
WithinAt (Delivery code n) = IsDeliveryWithin

-- the cells that stand at a place are those of the record, which names its own key; or none stand there, and there is no record
abbrev pub ReadsAt : Content → (place : Place) → Option (RecordAt place) → Type 0
ReadsAt tables place = ReadsRow (table_at place) (own_key place) (columns_at place) tables (key_cells place)

-- cells stand at a place that are those of no record within its limits
abbrev pub DamagedAt : Content → Place → Type 0
DamagedAt tables place = HasDamagedUnder (table_at place) (WithinAt place) (own_key place) (columns_at place) tables (key_cells place)

-- ---- keys and records in code

-- the place that a key names
abbrev pub place_of : RegisterKey → Place
place_of (key.Inspection id n) = Inspection id n
place_of (key.Order id n) = Order id n
place_of (key.Line id order line) = Line id order line
place_of (key.Part code) = Part code.now
place_of (key.Delivery code n) = Delivery code.now n

-- what was found, where it is of the kind of a place
abbrev pub found_at : (place : Place) → Option RegisterRecord → Option (RecordAt place)
found_at (Inspection id n) (Some (kind.Inspection inspection)) = Some inspection
found_at (Order id n) (Some (kind.Order order)) = Some order
found_at (Line id order line) (Some (kind.Line used)) = Some used
found_at (Part code) (Some (kind.Part hand)) = Some hand
found_at (Delivery code n) (Some (kind.Delivery delivery)) = Some delivery
found_at _ _ = None

-- a record of the kind of a place, within its limits
abbrev pub IsOfPlace : Place → RegisterRecord → Type 0
IsOfPlace (Inspection id n) (kind.Inspection inspection) = IsInspectionWithin inspection
IsOfPlace (Order id n) (kind.Order order) = IsOrderWithin order
IsOfPlace (Line id order line) (kind.Line used) = IsUsedLineWithin used
IsOfPlace (Part code) (kind.Part hand) = IsHand hand
IsOfPlace (Delivery code n) (kind.Delivery delivery) = IsDeliveryWithin delivery
IsOfPlace _ _ = ⊥

-- ---- what a call of a shelf answers of a place

-- a call that answers gives the record that stands at a place, or none where none stands there
abbrev pub FindsAt : {E : Type 0} → Content → Place → Result (Option RegisterRecord) E → Type 0
FindsAt tables place result = IfOk result (λ found. ReadsAt tables place (found_at place found))

-- a call that answers gives the record that stands at a place, or none where none stands there, if the database is open
abbrev pub GivesAt : Type 0 → Content → Place → Result (Option RegisterRecord) ShelfFault → Type 0
GivesAt is_honest tables place result =
    IfOk result (λ found. is_honest → ReadsAt tables place (found_at place found))

-- a call that reports a damaged row met one that stands at a place, where the database is open
abbrev pub BlamesAt : {A : Type 0} → Type 0 → Content → Place → Result A ShelfFault → Type 0
BlamesAt is_honest tables place result =
    result ≡ Err Damaged → is_honest → DamagedAt tables place

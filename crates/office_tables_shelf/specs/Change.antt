-- What a change of a row makes of the tables, and of the count of writes.
use Rattle.std.specs.Prelude.{◌≡◌, ℕ, List, [], ◌∷◌, None}
use Rattle.std.specs.FinMap.{get}
use Rattle.signal_records.specs.Row.{key_of}
use Rattle.office_tables_shelf.specs.{Cells.Cell, declared.rows.RowChange.RowChange, declared.rows.Table.Table}
use Rattle.office_tables_shelf.specs.Content.{Content, rows_at, put_in, remove_in, drop_in}
use Rattle.office_tables_shelf.specs.Rows.{intersection_key, intersection_columns, timing_key, timing_columns, draft_key, draft_columns}
use Rattle.office_tables_shelf.specs.CabinetRows.{inspection_key, inspection_columns, order_key, order_columns, used_key, used_columns, part_key, part_columns, delivery_key, delivery_columns}
use Rattle.office_tables_shelf.specs.declared.rows.RowChange.TheVariants.{AddIntersection, PutIntersection, AddTiming, PutTiming, RemoveTiming, AddDraft, PutDraft, RemoveDraft, DropDraft, AddInspection, AddOrder, PutOrder, AddLine, PutPart, AddDelivery}
use Rattle.office_tables_shelf.specs.declared.rows.Table.TheVariants as table

-- the tables after one change
abbrev pub changed : Content → RowChange → Content
changed tables (AddIntersection id row) = put_in tables table.Intersection (intersection_key id) (intersection_columns row)
changed tables (PutIntersection id row) = put_in tables table.Intersection (intersection_key id) (intersection_columns row)
changed tables (AddTiming id row) =
    put_in tables table.Timing (timing_key id (key_of row)) (timing_columns row)
changed tables (PutTiming id row) = put_in tables table.Timing (timing_key id (key_of row)) (timing_columns row)
changed tables (RemoveTiming id key) = remove_in tables table.Timing (timing_key id key)
changed tables (AddDraft id change) = put_in tables table.Draft (draft_key id change) (draft_columns change)
changed tables (PutDraft id change) = put_in tables table.Draft (draft_key id change) (draft_columns change)
changed tables (RemoveDraft id key) = remove_in tables table.Draft (timing_key id key)
changed tables (DropDraft id rows) = drop_in tables table.Draft id
changed tables (AddInspection id inspection) = put_in tables table.Inspection (inspection_key id inspection.number) (inspection_columns inspection)
changed tables (AddOrder id order) = put_in tables table.WorkOrder (order_key id order.number) (order_columns order)
changed tables (PutOrder id order) = put_in tables table.WorkOrder (order_key id order.number) (order_columns order)
changed tables (AddLine id line) = put_in tables table.UsedPart (used_key id line.order line.line) (used_columns line)
changed tables (PutPart code hand) = put_in tables table.Part (part_key code) (part_columns hand)
changed tables (AddDelivery delivery) = put_in tables table.Delivery (delivery_key delivery.part delivery.number) (delivery_columns delivery)

-- the tables after changes, in their order
abbrev pub changed_by : Content → List RowChange → Content
changed_by tables [] = tables
changed_by tables (change ∷ changes) = changed_by (changed tables change) changes

-- the table that a change writes
abbrev pub table_of : RowChange → Table
table_of (AddIntersection id row) = table.Intersection
table_of (PutIntersection id row) = table.Intersection
table_of (AddTiming id row) = table.Timing
table_of (PutTiming id row) = table.Timing
table_of (RemoveTiming id key) = table.Timing
table_of (AddDraft id change) = table.Draft
table_of (PutDraft id change) = table.Draft
table_of (RemoveDraft id key) = table.Draft
table_of (DropDraft id rows) = table.Draft
table_of (AddInspection id inspection) = table.Inspection
table_of (AddOrder id order) = table.WorkOrder
table_of (PutOrder id order) = table.WorkOrder
table_of (AddLine id line) = table.UsedPart
table_of (PutPart code hand) = table.Part
table_of (AddDelivery delivery) = table.Delivery

-- how many rows of its table a change writes: one, and to drop a draft as many as it names
abbrev pub row_writes : RowChange → ℕ
row_writes (DropDraft id rows) = rows
row_writes _ = 1

-- ---- rows that are added

-- nothing stands under the key
abbrev pub IsFree : Content → Table → List Cell → Type 0
IsFree tables t key = get (rows_at tables t) key ≡ None

-- where the change adds a row, none stands under its key
abbrev pub AddsNew : Content → RowChange → Type 0
AddsNew tables (AddIntersection id row) = IsFree tables table.Intersection (intersection_key id)
AddsNew tables (AddTiming id row) = IsFree tables table.Timing (timing_key id (key_of row))
AddsNew tables (AddDraft id change) = IsFree tables table.Draft (draft_key id change)
AddsNew tables (AddInspection id inspection) = IsFree tables table.Inspection (inspection_key id inspection.number)
AddsNew tables (AddOrder id order) = IsFree tables table.WorkOrder (order_key id order.number)
AddsNew tables (AddLine id line) = IsFree tables table.UsedPart (used_key id line.order line.line)
AddsNew tables (AddDelivery delivery) = IsFree tables table.Delivery (delivery_key delivery.part delivery.number)
AddsNew tables _ = Unit {0}

-- each of some changes in turn that adds a row finds none under its key, in the tables that the changes before it left
abbrev pub AddNew : Content → List RowChange → Type 0
AddNew tables [] = Unit {0}
AddNew tables (change ∷ changes) = AddsNew tables change × AddNew (changed tables change) changes

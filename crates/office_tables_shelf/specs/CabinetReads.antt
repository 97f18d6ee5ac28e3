-- What the lists of the cabinet's tables give, and when one of their rows is no record.
use Rattle.std.specs.Prelude.{◌≡◌, ℕ, ◌==◌, cond, List, [], ◌∷◌, map, None, Some}
use Rattle.std.specs.{Int.IsInRange, FinMap.entries}
use Rattle.office_tables_shelf.specs.{Content.Content, Reads.HasDamagedRow, Shelf.rows_of}
use Rattle.cabinet_core.specs.{Part.IsPartCode, Within.IsInspectionWithin, Within.IsOrderWithin, Within.IsUsedLineWithin, declared.record.Inspection.Inspection, declared.record.Order.Order, declared.record.UsedLine.UsedLine}
use Rattle.office_tables_shelf.specs.CabinetRows.{part_key, part_columns, inspection_key, inspection_columns, used_key, used_columns, order_key, order_columns}
use Rattle.office_tables_shelf.specs.declared.rows.Table.TheVariants as table

-- ---- parts

-- a count of parts that can be on hand: 0 to 999999999
abbrev pub IsHand : ℕ → Type 0
IsHand = IsInRange 0 999_999_999

-- the parts, in the order of their codes, are those of the list
abbrev pub ListsParts : Content → List (List ℕ × ℕ) → Type 0
ListsParts tables parts = map (λ part. (part_key part.0, part_columns part.1)) parts ≡ entries tables.part

-- a part's code, with a count that can be on hand
abbrev pub IsPartWithin : List ℕ × ℕ → Type 0
IsPartWithin part = IsPartCode part.0 × IsHand part.1

-- a row of the part table is damaged: its cells are those of no part's code with a count that can be on hand
abbrev pub HasDamagedPart : Content → Type 0
HasDamagedPart tables =
    HasDamagedRow table.Part IsPartWithin (λ part. part_key part.0) (λ part. part_columns part.1)
    tables None

-- ---- the records of an intersection

-- the inspections of an intersection that the tables hold, in the order of their numbers, are those of the list
abbrev pub ListsInspections : Content → ℕ → List Inspection → Type 0
ListsInspections tables id inspections = map (λ inspection. (inspection_key id inspection.number, inspection_columns inspection)) inspections ≡ rows_of id tables.inspection

-- a row of the inspections of an intersection is damaged: it is no inspection within its limits
abbrev pub HasDamagedInspection : Content → ℕ → Type 0
HasDamagedInspection tables id =
    HasDamagedRow table.Inspection IsInspectionWithin
    (λ inspection. inspection_key id inspection.number) inspection_columns tables (Some id)

-- the used parts of an intersection that the tables hold, in the order of orders and lines, are those of the list
abbrev pub ListsUsed : Content → ℕ → List UsedLine → Type 0
ListsUsed tables id lines = map (λ used. (used_key id used.order used.line, used_columns used)) lines ≡ rows_of id tables.used_part

-- a row of the used parts of an intersection is damaged: it is no used part within its limits
abbrev pub HasDamagedUsed : Content → ℕ → Type 0
HasDamagedUsed tables id =
    HasDamagedRow table.UsedPart IsUsedLineWithin (λ used. used_key id used.order used.line)
    used_columns tables (Some id)

-- the orders of an intersection that the tables hold, in the order of their numbers, are those of the list
abbrev pub ListsOrders : Content → ℕ → List Order → Type 0
ListsOrders tables id orders = map (λ order. (order_key id order.number, order_columns order)) orders ≡ rows_of id tables.work_order

-- a row of the orders of an intersection is damaged: it is no order within its limits
abbrev pub HasDamagedOrder : Content → ℕ → Type 0
HasDamagedOrder tables id =
    HasDamagedRow table.WorkOrder IsOrderWithin (λ order. order_key id order.number) order_columns
    tables (Some id)

-- ---- the records of all intersections

-- a record beside the number of its intersection, both within their limits
abbrev pub IsOfOne : {X : Type 0} → (X → Type 0) → ℕ × X → Type 0
IsOfOne IsWithin e = IsInRange 1 9999 e.0 × IsWithin e.1

-- the entries of one intersection, in their order
abbrev pub of_one : {X : Type 0} → ℕ → List (ℕ × X) → List X
of_one id [] = []
of_one id (e ∷ es) = cond (e.0 == id) (e.1 ∷ of_one id es) (of_one id es)

-- a row of the inspection table is damaged: it is no inspection of an intersection within its limits
abbrev pub HasAnyDamagedInspection : Content → Type 0
HasAnyDamagedInspection tables =
    HasDamagedRow table.Inspection (IsOfOne IsInspectionWithin)
    (λ e. inspection_key e.0 e.1.number) (λ e. inspection_columns e.1) tables None

-- a row of the order table is damaged: it is no order on an intersection within its limits
abbrev pub HasAnyDamagedOrder : Content → Type 0
HasAnyDamagedOrder tables =
    HasDamagedRow table.WorkOrder (IsOfOne IsOrderWithin) (λ e. order_key e.0 e.1.number)
    (λ e. order_columns e.1) tables None

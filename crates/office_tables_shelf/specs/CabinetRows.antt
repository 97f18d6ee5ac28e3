-- How the rows of the cabinet's tables are stored, cell by cell: the key of a row, and its other columns.
use Rattle.std.specs.Prelude.{ℕ, pos, List, [], ◌∷◌, Option, Some, None}
use Rattle.office_tables_shelf.specs.Cells.{Cell, null, number, text}
use Rattle.cabinet_core.specs.declared.record.{Inspection.Inspection, Closing.Closing, Order.Order, UsedLine.UsedLine, Delivery.Delivery}

-- ---- parts, by their codes

-- the key cells of a part's row: its code
abbrev pub part_key : List ℕ → List Cell
part_key code = text code ∷ []

-- the other cell of a part's row: how many pieces are on hand
abbrev pub part_columns : ℕ → List Cell
part_columns hand = number (pos hand) ∷ []

-- ---- deliveries, by the part and their numbers

-- the key cells of a delivery's row: its part and its number
abbrev pub delivery_key : List ℕ → ℕ → List Cell
delivery_key part n = text part ∷ number (pos n) ∷ []

-- the other cells of a delivery's row: its day, as days since 1970-01-01, and how many pieces it brought
abbrev pub delivery_columns : Delivery → List Cell
delivery_columns delivery = number (pos delivery.day) ∷ number (pos delivery.count) ∷ []

-- ---- inspections, by the intersection and their numbers

-- the key cells of an inspection's row: its intersection and its number
abbrev pub inspection_key : ℕ → ℕ → List Cell
inspection_key id n = number (pos id) ∷ number (pos n) ∷ []

-- the other cells of an inspection's row: its day, as days since 1970-01-01, its clerk and its text
abbrev pub inspection_columns : Inspection → List Cell
inspection_columns inspection = number (pos inspection.day) ∷ text inspection.clerk ∷ text inspection.text ∷ []

-- ---- used parts, by the intersection, the order and the line

-- the key cells of a used part's row: its intersection, order and line
abbrev pub used_key : ℕ → ℕ → ℕ → List Cell
used_key id order line = number (pos id) ∷ number (pos order) ∷ number (pos line) ∷ []

-- the other cells of a used part's row: the part's code, and how many pieces were used
abbrev pub used_columns : UsedLine → List Cell
used_columns used = text used.part ∷ number (pos used.count) ∷ []

-- ---- orders, by the intersection and their numbers

-- the key cells of an order's row: its intersection and its number
abbrev pub order_key : ℕ → ℕ → List Cell
order_key id n = number (pos id) ∷ number (pos n) ∷ []

-- the cell of the day on which an order was closed, as days since 1970-01-01: null while it is open
abbrev pub closed_cell : Option Closing → Cell
closed_cell None = null
closed_cell (Some closing) = number (pos closing.day)

-- the cell of the clerk who closed an order: null while it is open
abbrev pub closer_cell : Option Closing → Cell
closer_cell None = null
closer_cell (Some closing) = text closing.closer

-- the other cells of an order's row: the day on which it was opened, its clerk and its text, then when and by whom it was closed
abbrev pub order_columns : Order → List Cell
order_columns order =
    number (pos order.opened) ∷ text order.clerk ∷ text order.text ∷ closed_cell order.closing ∷ closer_cell order.closing ∷ []

-- The trees of a database as the content of a shelf.
use Rattle.std.specs.Prelude.{◌≡◌, ◌≢◌, ◌<◌, ℕ, Bool, true, false, List, length, map, Option, None, Some, Result, Err, IfOk}
use Rattle.std.specs.List.{list_all}
use Rattle.sqlite.specs.{declared.types.Value.Value, declared.types.Value.TheVariants.Null, declared.types.Value.TheVariants.Int, declared.types.Value.TheVariants.Text, Order.Row, Order.column, State.State, Tree.Trees}
use Rattle.office_tables_shelf.specs.Cells.{Cell, TableRows, rows_by, null, number, text, odd}
use Rattle.office_tables_shelf.specs.{Content.Content, declared.shelf.ShelfFault.ShelfFault, declared.shelf.ShelfFault.TheVariants.Damaged}
use Rattle.office_tables_statements.specs.Layout.{Layout, layout_at, values_at}
use Rattle.office_tables_shelf.specs.declared.rows.Table.TheVariants as table

-- a value of SQL as a cell: a real number and a blob are odd, which no office stores
abbrev pub cell_of : Value → Cell
cell_of Null = null
cell_of (Int n) = number n
cell_of (Text t) = text t
cell_of _ = odd

-- a text as a cell, null where there is none
abbrev pub text_or_null : Option (List ℕ) → Cell
text_or_null None = null
text_or_null (Some t) = text t

-- the values of a row of SQL as cells
abbrev pub cells : Row → List Cell
cells values = map cell_of values

-- the values of a row of SQL at some places, as cells
abbrev pub cells_at : List ℕ → Row → List Cell
cells_at places row = cells (values_at places row)

-- what is read of the column at a place: the value whose cell it shows, which is within its limits; damage is told only of a column that shows no such cell
pub record ReadsColumn {X : Type 0} (cell : X → Cell) (is_within : X → Type 0) (row : Row) (at : ℕ) (result : Result X ShelfFault) : Type 0 where
  pub ok : IfOk result (λ x. cell_of (column row at) ≡ cell x)
  pub within : IfOk result is_within
  pub damaged : result ≡ Err Damaged → at < length row → (x : X) → is_within x → cell_of (column row at) ≢ cell x

-- the stored rows of a table, by the cells of their keys, as it is laid out
abbrev pub rows_in : Layout → List Row → TableRows
rows_in t = rows_by (cells_at t.keys) (cells_at t.columns)

-- the rows that the trees hold of a table, by the cells of their keys
abbrev pub rows_stored : Layout → Trees → TableRows
rows_stored t trees = rows_in t (trees t.tree)

-- what trees hold of the office's eight tables, as they are laid out
abbrev pub content_of : Trees → Content
content_of trees = record {
  intersection = rows_stored (layout_at table.Intersection) trees;
  timing = rows_stored (layout_at table.Timing) trees;
  draft = rows_stored (layout_at table.Draft) trees;
  inspection = rows_stored (layout_at table.Inspection) trees;
  work_order = rows_stored (layout_at table.WorkOrder) trees;
  part = rows_stored (layout_at table.Part) trees;
  delivery = rows_stored (layout_at table.Delivery) trees;
  used_part = rows_stored (layout_at table.UsedPart) trees;
}

-- what the tables of a connection hold now
abbrev pub content_now : State → Content
content_now s = content_of s.now.trees

-- the value is an integer or a text
abbrev pub is_sound : Value → Bool
is_sound (Int n) = true
is_sound (Text t) = true
is_sound _ = false

-- the values of the row at these places are each an integer or a text
abbrev pub are_sound : List ℕ → Row → Bool
are_sound places row = list_all (λ at. is_sound (column row at)) places

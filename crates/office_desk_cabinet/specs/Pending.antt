-- Rows that come to the same as those that are pending, with one row for each part.
use Rattle.std.specs.Prelude.{◌≡◌, ◌≤◌, ℕ, Bool, true, false, List}
use Rattle.std.specs.FinMap.{len}
use Rattle.office_tables_shelf.specs.{Change.AddNew, Change.changed_by, Content.Content, Content.no_content, Counts.writes_in, declared.rows.RowChange.RowChange, declared.rows.RowChange.TheVariants.PutPart, declared.rows.Table.Table}
use Rattle.office_tables_shelf.specs.declared.rows.Table.TheVariants as table

-- a change of another table than that of the parts
abbrev pub is_other : RowChange → Bool
is_other (PutPart code hand) = false
is_other _ = true

-- the row of a part that says how many are on hand
abbrev pub part_row : List ℕ × ℕ → RowChange
part_row part = PutPart part.0 part.1

-- rows that make what the pending ones make, write no more of any table, of the parts one for each that is put, and add
-- only what is new where the pending ones do
pub record ComesTo (pending rows : List RowChange) : Type 0 where
  pub makes : (tables : Content) → changed_by tables rows ≡ changed_by tables pending
  pub writes : (t : Table) → writes_in t rows ≤ writes_in t pending
  pub once : writes_in table.Part rows ≡ len (changed_by no_content pending).part
  pub news : (tables : Content) → AddNew tables pending → AddNew tables rows

-- A row is told by the cell of its text.
use Rattle.std.proofs.Common.{◌≡◌, [], ◌∷◌}
use Rattle.signal_records.specs.{declared.record.Row.Row, Within.current_limits, Within.IsRowWithin}
use Rattle.signal_records.proofs.RowLaws.{are_current}
use Rattle.office_tables_shelf.specs.{Cells.Cell, Cells.text, Rows.body_of, Rows.timing_columns}
use Rattle.office_tables_shelf.proofs.RowLemmas.{same_row}

pub same_stored : (cell : Cell) (a b : Row) → IsRowWithin current_limits a → IsRowWithin current_limits b → cell ∷ [] ≡ timing_columns a → cell ≡ text (body_of b) → a ≡ b
same_stored cell a b one two first second = let same : body_of a ≡ body_of b = cc in same_row current_limits a b are_current one two same

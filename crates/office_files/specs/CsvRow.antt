-- What the records of a file spell.
use Rattle.std.specs.Prelude.{ℕ, ◌+◌, List, [], ◌∷◌, Result, Ok, Err}
use Rattle.signal_records.specs.declared.fault.RowFault.{RowFault}
use Rattle.office_files.specs.CsvFault.{bad_row}
use Rattle.office_files.specs.declared.fault.CsvFault.{CsvFault}
use Rattle.office_files.specs.declared.fault.CsvFault.TheVariants as file

-- what the record with this number and the records after it spell: its own fault, else theirs, else its value before theirs
abbrev pub add_row : {T : Type 0} → ℕ → Result T RowFault → Result (List T) CsvFault → Result (List T) CsvFault
add_row at (Err fault) rest = Err (file.Row (bad_row at fault))
add_row at (Ok row) (Ok rows) = Ok (row ∷ rows)
add_row at (Ok row) (Err fault) = Err fault

-- what records spell, the first of which has this number, or the fault of the first that spells nothing
unfoldable pub rows_from : {T : Type 0} → (List (List ℕ) → Result T RowFault) → ℕ → List (List (List ℕ)) → Result (List T) CsvFault
rows_from reading at [] = Ok []
rows_from reading at (fields ∷ records) = add_row at (reading fields) (rows_from reading (at + 1) records)

-- what the records of a file spell, or the fault of the first that spells nothing; they are counted from 1
abbrev pub csv_rows : {T : Type 0} → (List (List ℕ) → Result T RowFault) → List (List (List ℕ)) → Result (List T) CsvFault
csv_rows reading records = rows_from reading 1 records

-- What is wrong with a CSV file.
use Rattle.std.specs.Prelude.{◌≢◌, ℕ, Result, Ok, Err}
use Rattle.signal_records.specs.declared.fault.RowFault.{RowFault}
use Rattle.signal_records.specs.declared.fault.RowFault.TheVariants as row
use Rattle.office_files.specs.declared.fault.BadRow.{BadRow}
use Rattle.office_files.specs.declared.fault.CsvFault.{CsvFault}
use Rattle.office_files.specs.declared.fault.CsvFault.TheVariants as file

-- a bad record, by its number, counted from 1, and its fault
abbrev pub bad_row : ℕ → RowFault → BadRow
bad_row at fault = record { at = at; fault = fault }

-- the fault of a file whose record with this number has the fault: the bad record, or want of memory
abbrev pub fault_at : ℕ → RowFault → CsvFault
fault_at at row.NoMemory = file.NoMemory
fault_at at fault = file.Row (bad_row at fault)

-- what was read from the record with this number, or its fault as the file's
abbrev pub told_at : {T : Type 0} → ℕ → Result T RowFault → Result T CsvFault
told_at at (Ok row) = Ok row
told_at at (Err fault) = Err (fault_at at fault)

-- if the fault of a file names a bad record, that record's fault is not NoMemory
abbrev pub NamesFault : CsvFault → Type 0
NamesFault (file.Row bad) = bad.fault ≢ row.NoMemory
NamesFault file.NoMemory = Unit

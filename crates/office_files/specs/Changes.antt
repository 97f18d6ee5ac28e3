-- The changes that a CSV file spells.
use Rattle.std.specs.Prelude.{ℕ, List, map, All, Result}
use Rattle.signal_records.specs.declared.record.Change.{Change}
use Rattle.signal_records.specs.Reading.{change_at}
use Rattle.signal_records.specs.Spelling.{change_spelling}
use Rattle.signal_records.specs.Within.{current_limits, IsChangeWithin}
use Rattle.office_files.specs.declared.fault.CsvFault.{CsvFault}
use Rattle.office_files.specs.Csv.{csv_records}
use Rattle.office_files.specs.CsvRow.{csv_rows}

-- the changes of a timing set that a CSV file spells, in order, or the first bad record: each record is a row, or the removal of a key
abbrev pub changes_of : List ℕ → Result (List Change) CsvFault
changes_of text = csv_rows (change_at current_limits) (csv_records text)

-- the one spelling of each change, as a record
abbrev pub spellings : List Change → List (List (List ℕ))
spellings changes = map (change_spelling current_limits) changes

-- each change has its numbers in today's ranges
abbrev pub AreWithin : List Change → Type 0
AreWithin changes = All (IsChangeWithin current_limits) changes

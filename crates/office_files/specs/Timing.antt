-- The CSV files of a timing set and of changes.
use Rattle.std.specs.Prelude.{ℕ, List, map}
use Rattle.std.specs.FinMap.{values}
use Rattle.signal_records.specs.declared.record.Change.{Change}
use Rattle.signal_records.specs.declared.record.Change.TheVariants.{Put}
use Rattle.signal_records.specs.Spelling.{spelling}
use Rattle.signal_records.specs.TimingSet.{Rows}
use Rattle.signal_records.specs.Within.{current_limits}
use Rattle.office_files.specs.Changes.{spellings}
use Rattle.office_files.specs.Csv.{csv_text}

-- the CSV file of a timing set: its rows in key order, a record for each
abbrev pub timing_csv_text : Rows → List ℕ
timing_csv_text set = csv_text (map (spelling current_limits) (values set))

-- the changes that put the rows of a timing set, in key order
abbrev pub puts_of : Rows → List Change
puts_of set = map Put (values set)

-- the CSV file of changes of a timing set: a record for each, in order
abbrev pub changes_csv_text : List Change → List ℕ
changes_csv_text changes = csv_text (spellings changes)

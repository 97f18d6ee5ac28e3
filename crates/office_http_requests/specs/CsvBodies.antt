-- The CSV text of a body, and what its records spell.
use Rattle.std.specs.Prelude.{ℕ, List, Result}
use Rattle.serde_json.specs.Data.{Data}
use Rattle.cabinet_core.specs.declared.command.RecordCommand.{RecordCommand}
use Rattle.signal_records.specs.declared.record.Change.{Change}
use Rattle.office_files.specs.Changes.{changes_of}
use Rattle.office_files.specs.Records.{commands_of}
use Rattle.office_http_requests.specs.FaultsInOrder.{◌>>=◌, or_bad_row, or_field}
use Rattle.office_http_requests.specs.Bodies.{text_in}
use Rattle.office_http_requests.specs.declared.fault.AskFault.{AskFault}
use Rattle.office_http_requests.specs.declared.field.Field.TheVariants.{Csv}

-- the text under the key `csv`, or that field's fault
abbrev pub csv_in : Data → Result (List ℕ) AskFault
csv_in body = or_field Csv (text_in body Csv)

-- the changes that the records of the CSV text under the key `csv` spell, or the fault: of that field,
-- or of the first bad record
unfoldable pub csv_changes_in : Data → Result (List Change) AskFault
csv_changes_in body = do
  csv ← csv_in body
  or_bad_row (changes_of csv)

-- the commands of the register that the records of the CSV text under the key `csv` spell, or the
-- fault: of that field, or of the first bad record
unfoldable pub csv_records_in : Data → Result (List RecordCommand) AskFault
csv_records_in body = do
  csv ← csv_in body
  or_bad_row (commands_of csv)

-- The commands that a CSV file spells, and the file of a cabinet.
use Rattle.std.specs.Prelude.{ℕ, ◌==◌, List, [], ◌∷◌, ◌++◌, map, flat_map, Bool, All, Option, Some, None, Result}
use Rattle.std.specs.List.{filter}
use Rattle.std.specs.List.Sorted.{IsNonDecreasingBy}
use Rattle.cabinet_core.specs.Places.{inspection_place, order_place, line_place}
use Rattle.cabinet_core.specs.declared.record.Opening.{Opening}
use Rattle.cabinet_core.specs.declared.record.Order.{Order}
use Rattle.cabinet_core.specs.declared.record.UsedLine.{UsedLine}
use Rattle.cabinet_core.specs.declared.record.Closing.{Closing}
use Rattle.cabinet_core.specs.declared.record.CabinetView.{CabinetView}
use Rattle.cabinet_core.specs.declared.command.RecordCommand.{RecordCommand}
use Rattle.cabinet_core.specs.declared.command.RecordCommand.TheVariants as command
use Rattle.office_files.specs.declared.fault.CsvFault.{CsvFault}
use Rattle.office_files.specs.Csv.{csv_records, csv_text}
use Rattle.office_files.specs.CsvRow.{csv_rows}
use Rattle.office_files.specs.RecordReading.{record_at}
use Rattle.office_files.specs.RecordSpelling.{record_spelling}
use Rattle.cabinet_core.specs.Within.{IsRecordWithin}

-- the commands of the register that a CSV file spells, one in each record, or the first bad record
abbrev pub commands_of : List ℕ → Result (List RecordCommand) CsvFault
commands_of text = csv_rows record_at (csv_records text)

-- commands whose numbers, days and texts are within their limits
abbrev pub AreRecordsWithin : List RecordCommand → Type 0
AreRecordsWithin commands = All IsRecordWithin commands

-- the opening by which an order was opened
abbrev pub opening_of : Order → Opening
opening_of order = record { number = order.number; day = order.opened; clerk = order.clerk; text = order.text }

-- the used part belongs to the order with this number
abbrev pub is_line_of : ℕ → UsedLine → Bool
is_line_of order line = line.order == order

-- the closing of an order as a command, if there is one
abbrev pub close_commands : ℕ → ℕ → Option Closing → List RecordCommand
close_commands id order None = []
close_commands id order (Some closing) = command.CloseOrder id order closing ∷ []

-- the commands that made an order as it is: its opening, its own lines among these, and its closing if it is closed
abbrev pub order_commands : ℕ → List UsedLine → Order → List RecordCommand
order_commands id lines order =
    command.OpenOrder id (opening_of order) ∷ (map (command.UsePart id) (filter (is_line_of order.number) lines) ++ close_commands id order.number order.closing)

-- the view is in the order of its file: inspections and orders by their numbers, used parts by their orders, and in
-- an order by their lines
pub record IsInFileOrder (view : CabinetView) : Type 0 where
  pub inspections : IsNonDecreasingBy inspection_place view.inspections
  pub orders : IsNonDecreasingBy order_place view.orders
  pub lines : IsNonDecreasingBy line_place view.lines

-- the commands that made a cabinet as it is: its inspections, and then order by order
abbrev pub view_commands : ℕ → CabinetView → List RecordCommand
view_commands id view = map (command.Inspect id) view.inspections ++ flat_map
    (order_commands id view.lines) view.orders

-- the CSV file of a cabinet: a record for each command that made it as it is
abbrev pub records_csv_text : ℕ → CabinetView → List ℕ
records_csv_text id view = csv_text (map record_spelling (view_commands id view))

-- The commands of the register that requests ask: fields of the path from the left, then keys of the body by name.
use Rattle.std.specs.Prelude.{ℕ, List, Result, Ok}
use Rattle.serde_json.specs.Data.{Data}
use Rattle.cabinet_core.specs.declared.command.RecordCommand.{RecordCommand}
use Rattle.cabinet_core.specs.declared.command.RecordCommand.TheVariants as command
use Rattle.cabinet_core.specs.declared.record.Closing.{Closing}
use Rattle.cabinet_core.specs.declared.record.Delivery.{Delivery}
use Rattle.cabinet_core.specs.declared.record.Inspection.{Inspection}
use Rattle.cabinet_core.specs.declared.record.Opening.{Opening}
use Rattle.cabinet_core.specs.declared.record.UsedLine.{UsedLine}
use Rattle.office_http_requests.specs.declared.fault.AskFault.{AskFault}
use Rattle.office_http_requests.specs.declared.field.Field.TheVariants.{Clerk, Count, Line, Number, Text}
use Rattle.office_http_requests.specs.FaultsInOrder.{◌>>=◌}
use Rattle.office_http_requests.specs.Bodies.{body_of, day_in, part_in, ranged_in, words_in}
use Rattle.office_http_requests.specs.Paths.{id_at, order_at}
use Rattle.office_http_requests.specs.declared.kind.RecordKind.{RecordKind}
use Rattle.office_http_requests.specs.declared.kind.RecordKind.TheVariants.{Inspect, OpenOrder, UsePart, CloseOrder, Receive}

-- the inspection that a body describes, or the fault of the first bad key by name
unfoldable pub inspection_in : Data → Result Inspection AskFault
inspection_in body = do
  clerk ← words_in 40 body Clerk
  day ← day_in body
  number ← ranged_in 1 999_999 body Number
  text ← words_in 500 body Text
  Ok (record { number = number; day = day; clerk = clerk; text = text })

-- the opening of an order that a body describes, or the fault of the first bad key by name
unfoldable pub opening_in : Data → Result Opening AskFault
opening_in body = do
  clerk ← words_in 40 body Clerk
  day ← day_in body
  number ← ranged_in 1 999_999 body Number
  text ← words_in 500 body Text
  Ok (record { number = number; day = day; clerk = clerk; text = text })

-- the part that a body describes, used for the order of this number, or the fault of the first bad key by name
unfoldable pub used_in : ℕ → Data → Result UsedLine AskFault
used_in order body = do
  count ← ranged_in 1 999_999_999 body Count
  line ← ranged_in 1 99 body Line
  part ← part_in body
  Ok (record { order = order; line = line; part = part; count = count })

-- the closing of an order that a body describes, or the fault of the first bad key by name
unfoldable pub closing_in : Data → Result Closing AskFault
closing_in body = do
  clerk ← words_in 40 body Clerk
  day ← day_in body
  Ok (record { day = day; closer = clerk })

-- the delivery that a body describes, or the fault of the first bad key by name
unfoldable pub delivery_in : Data → Result Delivery AskFault
delivery_in body = do
  count ← ranged_in 1 999_999_999 body Count
  day ← day_in body
  number ← ranged_in 1 999_999 body Number
  part ← part_in body
  Ok (record { part = part; number = number; day = day; count = count })

-- the command Receive, by the body alone, since its path has no fields, or the first fault
unfoldable pub received_in : List ℕ → Result RecordCommand AskFault
received_in bytes = do
  body ← body_of bytes
  delivery ← delivery_in body
  Ok (command.Receive delivery)

-- the command of a kind, by a path and the bytes of a body, or the first fault
unfoldable pub record_asked : RecordKind → List ℕ → List ℕ → Result RecordCommand AskFault
record_asked Inspect path bytes = do
  id ← id_at path
  body ← body_of bytes
  inspection ← inspection_in body
  Ok (command.Inspect id inspection)
record_asked OpenOrder path bytes = do
  id ← id_at path
  body ← body_of bytes
  opening ← opening_in body
  Ok (command.OpenOrder id opening)
record_asked UsePart path bytes = do
  id ← id_at path
  order ← order_at path
  body ← body_of bytes
  line ← used_in order body
  Ok (command.UsePart id line)
record_asked CloseOrder path bytes = do
  id ← id_at path
  order ← order_at path
  body ← body_of bytes
  closing ← closing_in body
  Ok (command.CloseOrder id order closing)
record_asked Receive path bytes = received_in bytes

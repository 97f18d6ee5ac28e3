-- One step of the register: what becomes of a command, and the register after it. That the command's intersection
-- exists is for the office to test.
use Rattle.std.specs.Prelude.{ℕ, Option, Some, None}
use Rattle.std.specs.FinMap.{get, insert}
use Rattle.cabinet_core.specs.Cabinet.{Line, added, same, refused, inspect_line, open_line, use_line, close_line, receive_line, record_of, with_closing}
use Rattle.cabinet_core.specs.Register.{Register}
use Rattle.cabinet_core.specs.Stock.{hand_of}
use Rattle.cabinet_core.specs.declared.command.RecordCommand.{RecordCommand}
use Rattle.cabinet_core.specs.declared.command.RecordCommand.TheVariants.{Inspect, OpenOrder, UsePart, CloseOrder, Receive}
use Rattle.cabinet_core.specs.declared.record.Closing.{Closing}
use Rattle.cabinet_core.specs.declared.record.Delivery.{Delivery}
use Rattle.cabinet_core.specs.declared.record.Inspection.{Inspection}
use Rattle.cabinet_core.specs.declared.record.Order.{Order}
use Rattle.cabinet_core.specs.declared.record.UsedLine.{UsedLine}

-- what a command is decided on: the records under its keys, if there are any, and how many of its part are on hand
abbrev pub Standing : RecordCommand → Type 0
Standing (Inspect id inspection) = Option Inspection
Standing (OpenOrder id opening) = Option Order
Standing (UsePart id line) = Option UsedLine × Option Order × Option ℕ
Standing (CloseOrder id order closing) = Option Order
Standing (Receive delivery) = Option Delivery × Option ℕ

-- what a register has under a command's keys, and how many of the command's part are on hand
abbrev pub standing_in : Register → (command : RecordCommand) → Standing command
standing_in r (Inspect id inspection) = get r.inspections (id, inspection.number)
standing_in r (OpenOrder id opening) = get r.orders (id, opening.number)
standing_in r (UsePart id line) =
    (get r.lines (id, (line.order, line.line)), get r.orders (id, line.order), hand_of r line.part)
standing_in r (CloseOrder id order closing) = get r.orders (id, order)
standing_in r (Receive delivery) =
    (get r.deliveries (delivery.part, delivery.number), hand_of r delivery.part)

-- the line of a command in the table, by what it is decided on
abbrev pub line_on : (command : RecordCommand) → Standing command → Line
line_on (Inspect id inspection) there = inspect_line there inspection
line_on (OpenOrder id opening) there = open_line there opening
line_on (UsePart id line) (there, order, hand) = use_line there order hand line
line_on (CloseOrder id order closing) there = close_line there closing
line_on (Receive delivery) (there, hand) = receive_line there hand delivery

-- the line of a command in the table, by what a register has under its keys
abbrev pub line_at : Register → RecordCommand → Line
line_at r command = line_on command (standing_in r command)

-- the register with an order closed, if the order exists
abbrev pub with_closed : Register → ℕ → ℕ → Closing → Option Order → Register
with_closed r id number closing None = r
with_closed r id number closing (Some order) = record r { orders = insert r.orders (id, number) (with_closing order closing) }

-- the register with what the command records
abbrev pub with_record : Register → RecordCommand → Register
with_record r (Inspect id inspection) = record r { inspections = insert r.inspections (id, inspection.number) inspection }
with_record r (OpenOrder id opening) = record r { orders = insert r.orders (id, opening.number) (record_of opening) }
with_record r (UsePart id line) = record r { lines = insert r.lines (id, (line.order, line.line)) line }
with_record r (CloseOrder id order closing) = with_closed r id order closing (get r.orders (id, order))
with_record r (Receive delivery) = record r { deliveries = insert r.deliveries (delivery.part, delivery.number) delivery }

-- the register after a line: only an added record changes it
abbrev pub after_line : Line → Register → Register → Register
after_line added next r = next
after_line same next r = r
after_line (refused why) next r = r

-- the register after a command
abbrev pub after_record : Register → RecordCommand → Register
after_record r command = after_line (line_at r command) (with_record r command) r

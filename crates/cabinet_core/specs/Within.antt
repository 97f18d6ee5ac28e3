-- Records, and the commands that bring them, within their limits.
use Rattle.std.specs.Prelude.{IfSome}
use Rattle.std.specs.Int.{IsInRange}
use Rattle.signal_values.specs.Words.{AreWords}
use Rattle.cabinet_core.specs.Day.{IsDay}
use Rattle.cabinet_core.specs.Part.{IsPartCode}
use Rattle.cabinet_core.specs.declared.record.Inspection.{Inspection}
use Rattle.cabinet_core.specs.declared.command.RecordCommand.{RecordCommand}
use Rattle.cabinet_core.specs.declared.command.RecordCommand.TheVariants.{Inspect, OpenOrder, UsePart, CloseOrder, Receive}
use Rattle.cabinet_core.specs.declared.record.Opening.{Opening}
use Rattle.cabinet_core.specs.declared.record.Closing.{Closing}
use Rattle.cabinet_core.specs.declared.record.Order.{Order}
use Rattle.cabinet_core.specs.declared.record.UsedLine.{UsedLine}
use Rattle.cabinet_core.specs.declared.record.Delivery.{Delivery}

-- an inspection is within its limits: number 1 to 999,999, clerk to 40 bytes, text to 500
pub record IsInspectionWithin (inspection : Inspection) : Type 0 where
  pub number : IsInRange 1 999_999 inspection.number
  pub day : IsDay inspection.day
  pub clerk : AreWords 40 inspection.clerk
  pub text : AreWords 500 inspection.text

-- an opening is within its limits: number 1 to 999,999, clerk to 40 bytes, text to 500
pub record IsOpeningWithin (opening : Opening) : Type 0 where
  pub number : IsInRange 1 999_999 opening.number
  pub day : IsDay opening.day
  pub clerk : AreWords 40 opening.clerk
  pub text : AreWords 500 opening.text

-- a closing is within its limits: clerk to 40 bytes
pub record IsClosingWithin (closing : Closing) : Type 0 where
  pub day : IsDay closing.day
  pub closer : AreWords 40 closing.closer

-- an order, open or closed, is within its limits: number 1 to 999,999, clerks to 40 bytes, text to 500
pub record IsOrderWithin (order : Order) : Type 0 where
  pub number : IsInRange 1 999_999 order.number
  pub opened : IsDay order.opened
  pub clerk : AreWords 40 order.clerk
  pub text : AreWords 500 order.text
  pub closing : IfSome order.closing IsClosingWithin

-- a used part is within its limits: order 1 to 999,999, line 1 to 99, pieces 1 to 999,999,999
pub record IsUsedLineWithin (used : UsedLine) : Type 0 where
  pub order : IsInRange 1 999_999 used.order
  pub line : IsInRange 1 99 used.line
  pub part : IsPartCode used.part
  pub count : IsInRange 1 999_999_999 used.count

-- a delivery is within its limits: number 1 to 999,999, pieces 1 to 999,999,999
pub record IsDeliveryWithin (delivery : Delivery) : Type 0 where
  pub part : IsPartCode delivery.part
  pub number : IsInRange 1 999_999 delivery.number
  pub day : IsDay delivery.day
  pub count : IsInRange 1 999_999_999 delivery.count

-- a command is within its limits, with the number of its intersection, if it is about one: 1 to 9999
abbrev pub IsRecordWithin : RecordCommand → Type 0
IsRecordWithin (Inspect id r) = IsInRange 1 9999 id × IsInspectionWithin r
IsRecordWithin (OpenOrder id r) = IsInRange 1 9999 id × IsOpeningWithin r
IsRecordWithin (UsePart id r) = IsInRange 1 9999 id × IsUsedLineWithin r
IsRecordWithin (CloseOrder id order r) = IsInRange 1 9999 id × (IsInRange 1 999_999 order × IsClosingWithin r)
IsRecordWithin (Receive r) = IsDeliveryWithin r

-- When a register is sound: its records are within their limits, each under its own key, and its stock covers what was used.
use Rattle.std.specs.Prelude.{◌≡◌, ℕ, ◌≤◌, List, IfSome, IsSome}
use Rattle.std.specs.FinMap.{get}
use Rattle.std.specs.Int.{IsInRange}
use Rattle.cabinet_core.specs.Register.{Register, RecordKey, LineKey, DeliveryKey}
use Rattle.cabinet_core.specs.Stock.{IsStocked}
use Rattle.cabinet_core.specs.Within.{IsInspectionWithin, IsOrderWithin, IsUsedLineWithin, IsDeliveryWithin}
use Rattle.cabinet_core.specs.declared.record.Inspection.{Inspection}
use Rattle.cabinet_core.specs.declared.record.Order.{Order}
use Rattle.cabinet_core.specs.declared.record.UsedLine.{UsedLine}
use Rattle.cabinet_core.specs.declared.record.Delivery.{Delivery}

-- an inspection is of an intersection 1 to 9999, within its limits, and under its own number
pub record IsInspectionAt (key : RecordKey) (inspection : Inspection) : Type 0 where
  pub of : IsInRange 1 9999 key.0
  pub number : inspection.number ≡ key.1
  pub within : IsInspectionWithin inspection

-- an order is within its limits and under its own number, and was not closed before it was opened
pub record IsOrderAt (key : RecordKey) (order : Order) : Type 0 where
  pub number : order.number ≡ key.1
  pub within : IsOrderWithin order
  pub closed_after : IfSome order.closing (λ closing. order.opened ≤ closing.day)

-- a used part is within its limits and under its own order and line, and the order exists
pub record IsLineAt (r : Register) (key : LineKey) (line : UsedLine) : Type 0 where
  pub of : line.order ≡ key.1.0
  pub number : line.line ≡ key.1.1
  pub within : IsUsedLineWithin line
  pub order : IsSome (get r.orders (key.0, key.1.0))

-- a delivery is within its limits and under its own part and number
pub record IsDeliveryAt (key : DeliveryKey) (delivery : Delivery) : Type 0 where
  pub part : delivery.part ≡ key.0
  pub number : delivery.number ≡ key.1
  pub within : IsDeliveryWithin delivery

-- a sound register: each record is within its limits under its own key, and the stock of each part covers what was used
pub record IsSoundRegister (r : Register) : Type 0 where
  pub inspections : (key : RecordKey) → IfSome (get r.inspections key) (IsInspectionAt key)
  pub orders : (key : RecordKey) → IfSome (get r.orders key) (IsOrderAt key)
  pub lines : (key : LineKey) → IfSome (get r.lines key) (IsLineAt r key)
  pub deliveries : (key : DeliveryKey) → IfSome (get r.deliveries key) (IsDeliveryAt key)
  pub stock : (code : List ℕ) → IsStocked r code

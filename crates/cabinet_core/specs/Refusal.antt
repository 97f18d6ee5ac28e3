-- The table of the register's refusals.
use Rattle.std.specs.Prelude.{ℕ, List, codes}
use Rattle.cabinet_core.specs.declared.refusal.CabinetRefusal.{CabinetRefusal}
use Rattle.cabinet_core.specs.declared.refusal.CabinetRefusal.TheVariants.{InspectionDiffers, OrderDiffers, UnknownOrder, OrderClosed, DayBeforeOpening, NoStock, StockFull, DeliveryDiffers, LineDiffers, CloseDiffers, NoMemory}

-- a refusal's number and name; NoMemory has those of Unavailable, the office's answer to it
abbrev pub line_of : CabinetRefusal → ℕ × List ℕ
line_of InspectionDiffers = (20, codes "InspectionDiffers")
line_of OrderDiffers = (21, codes "OrderDiffers")
line_of UnknownOrder = (22, codes "UnknownOrder")
line_of OrderClosed = (23, codes "OrderClosed")
line_of DayBeforeOpening = (24, codes "DayBeforeOpening")
line_of NoStock = (25, codes "NoStock")
line_of StockFull = (26, codes "StockFull")
line_of DeliveryDiffers = (27, codes "DeliveryDiffers")
line_of LineDiffers = (28, codes "LineDiffers")
line_of CloseDiffers = (29, codes "CloseDiffers")
line_of NoMemory = (90, codes "Unavailable")

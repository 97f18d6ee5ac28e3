-- What a command of the register may write, and which refusals the table has for it.
use Rattle.std.specs.Prelude.{◌≡◌, ◌⊎◌, ℕ, List, [], ◌∷◌}
use Rattle.cabinet_core.specs.Cabinet.{Line, added, same, refused}
use Rattle.cabinet_core.specs.declared.{command.RecordCommand.RecordCommand, refusal.CabinetRefusal.CabinetRefusal}
use Rattle.cabinet_core.specs.declared.command.RecordCommand.TheVariants.{Inspect, OpenOrder, UsePart, CloseOrder, Receive}
use Rattle.cabinet_core.specs.declared.refusal.CabinetRefusal.TheVariants.{InspectionDiffers, OrderDiffers, UnknownOrder, OrderClosed, DayBeforeOpening, NoStock, StockFull, DeliveryDiffers, LineDiffers, CloseDiffers}
use Rattle.office_tables_shelf.specs.declared.rows.Table.{Table}
use Rattle.office_tables_shelf.specs.declared.rows.Table.TheVariants as table

-- the most rows of each table that a command of the register writes
abbrev pub most_record_writes : RecordCommand → Table → ℕ
most_record_writes (Inspect id inspection) table.Inspection = 1
most_record_writes (OpenOrder id opening) table.WorkOrder = 1
most_record_writes (CloseOrder id order closing) table.WorkOrder = 1
most_record_writes (UsePart id line) table.UsedPart = 1
most_record_writes (UsePart id line) table.Part = 1
most_record_writes (Receive delivery) table.Part = 1
most_record_writes (Receive delivery) table.Delivery = 1
most_record_writes _ _ = 0

-- the refusals that the table has for a command
abbrev pub refusals_of : RecordCommand → List CabinetRefusal
refusals_of (Inspect id inspection) = InspectionDiffers ∷ []
refusals_of (OpenOrder id opening) = OrderDiffers ∷ []
refusals_of (UsePart id line) = LineDiffers ∷ UnknownOrder ∷ OrderClosed ∷ NoStock ∷ []
refusals_of (CloseOrder id order closing) = UnknownOrder ∷ CloseDiffers ∷ DayBeforeOpening ∷ []
refusals_of (Receive delivery) = DeliveryDiffers ∷ StockFull ∷ []

-- this value is one of the list
abbrev pub IsOneOf : {X : Type 0} → List X → X → Type 0
IsOneOf [] x = ⊥
IsOneOf (y ∷ ys) x = (x ≡ y) ⊎ IsOneOf ys x

-- the line is no refusal, or one that the table has for the command
abbrev pub IsNamed : RecordCommand → Line → Type 0
IsNamed c added = Unit {0}
IsNamed c same = Unit {0}
IsNamed c (refused why) = IsOneOf (refusals_of c) why

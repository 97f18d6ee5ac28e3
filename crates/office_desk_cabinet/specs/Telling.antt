-- How a decision of the register is told, with its changes as rows.
use Rattle.std.specs.Prelude.{◌≡◌, ◌≢◌, ℕ, List, [], Option, Some, None, Result, Ok, Err, Vec}
use Rattle.std.specs.{List.filter_map, Option.option_map}
use Rattle.cabinet_core.specs.declared.{decide.CabinetChange.CabinetChange, decide.Recorded.Recorded, record.Closing.Closing, record.Order.Order, refusal.CabinetRefusal.CabinetRefusal}
use Rattle.office_tables_shelf.specs.declared.{rows.RowChange.RowChange, shelf.ShelfFault.ShelfFault, shelf.ShelfFault.TheVariants.NoMemory}
use Rattle.office_tables_shelf.specs.declared.rows.RowChange.TheVariants.{AddInspection, AddOrder, PutOrder, AddLine, PutPart, AddDelivery}
use Rattle.office_desk_cabinet.specs.declared.deciding.Taken.{Taken, TheVariants.Added, TheVariants.Same, TheVariants.Refused}
use Rattle.cabinet_core.specs.declared.decide.CabinetChange.TheVariants as change
use Rattle.cabinet_core.specs.declared.decide.Recorded.TheVariants as recorded
use Rattle.cabinet_core.specs.declared.refusal.CabinetRefusal.TheVariants as refusal
use Rattle.office_machine.specs.declared.refusal.Refusal.TheVariants as office

-- an order as a row: where it is open it is new, and where it is closed it was there open
abbrev pub order_row_of : ℕ → Order → Option Closing → RowChange
order_row_of id order None = AddOrder id order
order_row_of id order (Some closing) = PutOrder id order

-- a change of the register as a row; parts and deliveries are of no intersection, and any other change is no row where there is none
abbrev pub row_change_of : Option ℕ → CabinetChange → Option RowChange
row_change_of about (change.PutInspection inspection) = option_map (λ id. AddInspection id inspection) about
row_change_of about (change.PutOrder order) = option_map (λ id. order_row_of id order order.closing) about
row_change_of about (change.PutLine line) = option_map (λ id. AddLine id line) about
row_change_of about (change.PutPart code hand) = Some (PutPart code hand)
row_change_of about (change.PutDelivery delivery) = Some (AddDelivery delivery)

-- changes of the register as rows, in their order
abbrev pub row_changes_of : Option ℕ → List CabinetChange → List RowChange
row_changes_of about = filter_map (row_change_of about)

-- how a decision is told: what it adds as these rows, and a refusal as it is, which is never for want of memory; that is a fault, and only such a refusal, or
-- what adds rows, may meet it
abbrev pub Tells : {A : Type 0} → Option ℕ → Result Recorded CabinetRefusal → Result (Taken × Vec RowChange A) ShelfFault → Type 0
Tells about (Ok (recorded.Added changes)) (Ok told) = (told.0 ≡ Added) × (told.1.items ≡ row_changes_of about changes.items)
Tells about (Ok recorded.Same) (Ok told) = (told.0 ≡ Same) × (told.1.items ≡ [])
Tells about (Err why) (Ok told) = (why ≢ refusal.NoMemory) × (told.0 ≡ Refused (office.Cabinet why)) × (told.1.items ≡ [])
Tells about (Ok (recorded.Added changes)) (Err fault) = fault ≡ NoMemory
Tells about (Ok recorded.Same) (Err fault) = ⊥
Tells about (Err why) (Err fault) = (why ≡ refusal.NoMemory) × (fault ≡ NoMemory)

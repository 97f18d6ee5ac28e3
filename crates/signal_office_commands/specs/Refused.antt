-- How the program reports what the office refused, and why a file was not read.
use Rattle.std.specs.Prelude.{◌≡◌, ◌⊎◌, ℕ, ◌==◌, List, [], ◌∷◌, Option, Some, None, Result, Err, find, map}
use Rattle.cabinet_core.specs.declared.refusal.CabinetRefusal.TheVariants as cabinet
use Rattle.office_files.specs.declared.fault.CsvFault.{CsvFault}
use Rattle.office_files.specs.declared.fault.CsvFault.TheVariants as file
use Rattle.office_machine.specs.Refusal.{line_of}
use Rattle.office_machine.specs.declared.refusal.Refusal.{Refusal}
use Rattle.office_machine.specs.declared.refusal.Refusal.TheVariants as refusal
use Rattle.signal_office_faults.specs.declared.fault.Fault.{Fault}
use Rattle.signal_office_faults.specs.declared.fault.Fault.TheVariants as told

-- the refusals that a record of the register may get, besides Unavailable and Damaged
abbrev pub of_records : List Refusal
of_records =
    refusal.UnknownIntersection ∷ map (λ why. refusal.Cabinet why) (
    cabinet.InspectionDiffers ∷ cabinet.OrderDiffers ∷ cabinet.UnknownOrder
    ∷ cabinet.OrderClosed ∷ cabinet.DayBeforeOpening ∷ cabinet.NoStock ∷ cabinet.StockFull
    ∷ cabinet.DeliveryDiffers ∷ cabinet.LineDiffers ∷ cabinet.CloseDiffers ∷ [])

-- the first of some refusals that has this number, if any has it
abbrev pub with_number : ℕ → List Refusal → Option Refusal
with_number number = find (λ r. (line_of r).number == number)

-- the refusal with this number, if it is one that a record of the register may get
abbrev pub record_refusal : ℕ → Option Refusal
record_refusal number = with_number number of_records

-- the fault of an import that was refused for its record `at`, counted from 1: that record and its refusal; or the refused import as it is, where no refusal of
-- a record has the number `cause`
abbrev pub fault_of_record : ℕ → ℕ → Option Refusal → Fault
fault_of_record at cause None = told.Refused (refusal.ImportRow at cause)
fault_of_record at cause (Some why) = told.Record at why

-- the fault that reports a refusal of the office
abbrev pub fault_of : Refusal → Fault
fault_of refusal.UnknownIntersection = told.UnknownIntersection
fault_of refusal.Damaged = told.Damaged
fault_of refusal.Unavailable = told.Store
fault_of (refusal.ImportRow at cause) = fault_of_record at cause (record_refusal cause)
fault_of other = told.Refused other

-- the fault tells why a CSV file was not read: its first bad record, as the reader gives it, or want of memory
abbrev pub IsUnread : {A : Type 0} → Result A CsvFault → Fault → Type 0
IsUnread read fault =
    (why : CsvFault) × (fault ≡ told.Csv why) × ((why ≡ file.NoMemory) ⊎ (read ≡ Err why))

-- What a request asks, as a chain of steps, each of which may find a fault.
use Rattle.std.specs.Prelude.{◌≡◌, ◌≢◌, Option, Some, None, Result, Ok, Err}
use Rattle.office_files.specs.declared.fault.CsvFault.{CsvFault}
use Rattle.office_http_requests.specs.AskFault.{ask_fault}
use Rattle.office_http_requests.specs.declared.fault.AskFault.{AskFault}
use Rattle.office_http_requests.specs.declared.fault.AskFault.TheVariants.{NoRoute, Field as FieldFault, NoMemory}
use Rattle.office_http_requests.specs.declared.field.Field.{Field}

-- what a CSV text or rows spell, or their fault as one of the request: a bad record, or want of memory
abbrev pub or_bad_row : {A : Type 0} → Result A CsvFault → Result A AskFault
or_bad_row (Ok x) = Ok x
or_bad_row (Err fault) = Err (ask_fault fault)

-- the result is the wanted one, or says that there was no memory
abbrev pub Gives : {A : Type 0} → Result A AskFault → Result A AskFault → Type 0
Gives (Ok x) wanted = wanted ≡ Ok x
Gives (Err fault) wanted = fault ≢ NoMemory → wanted ≡ Err fault

infixl 10 ◌>>=◌
-- a step, and the next on the value that it gave; a fault of the first ends both
abbrev pub ◌>>=◌ : {A B : Type 0} → Result A AskFault → (A → Result B AskFault) → Result B AskFault
Ok x >>= next = next x
Err fault >>= next = Err fault

-- the value, or the fault where there is none
abbrev pub or_fault : {A : Type 0} → AskFault → Option A → Result A AskFault
or_fault fault None = Err fault
or_fault fault (Some x) = Ok x

-- a value of a path, or the fault NoRoute where the path lacks it
abbrev pub or_no_route : {A : Type 0} → Option A → Result A AskFault
or_no_route found = or_fault NoRoute found

-- the value of a field, or its fault where there is none
abbrev pub or_field : {A : Type 0} → Field → Option A → Result A AskFault
or_field field found = or_fault (FieldFault field) found

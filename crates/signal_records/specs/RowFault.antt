-- The number and the name of a fault, and the field that it names.
use Rattle.std.specs.Prelude.{ℕ, Bool, true, false, List, codes, Option, Some, None}
use Rattle.signal_records.specs.declared.fault.RowFault.{RowFault}
use Rattle.signal_records.specs.declared.fault.RowFault.TheVariants as fault

-- the number of a fault, as answers show it
abbrev pub fault_number : RowFault → ℕ
fault_number fault.Kind = 1
fault_number fault.Count = 2
fault_number (fault.Number field) = 3
fault_number (fault.Range field) = 4
fault_number (fault.List field) = 5
fault_number fault.Mode = 6
fault_number fault.NoMemory = 7
fault_number (fault.Day field) = 8
fault_number (fault.Text field) = 9

-- the name of a fault, as bytes, as the program prints it
abbrev pub fault_name : RowFault → List ℕ
fault_name fault.Kind = codes "Kind"
fault_name fault.Count = codes "Count"
fault_name (fault.Number field) = codes "Number"
fault_name (fault.Range field) = codes "Range"
fault_name (fault.List field) = codes "List"
fault_name fault.Mode = codes "Mode"
fault_name fault.NoMemory = codes "NoMemory"
fault_name (fault.Day field) = codes "Day"
fault_name (fault.Text field) = codes "Text"

-- the field that a fault names, counted from 1, if it names one
abbrev pub fault_field : RowFault → Option ℕ
fault_field (fault.Number field) = Some field
fault_field (fault.Range field) = Some field
fault_field (fault.List field) = Some field
fault_field (fault.Day field) = Some field
fault_field (fault.Text field) = Some field
fault_field _ = None

-- a fault that a timing row can have: it has neither days nor texts
abbrev pub is_timing_fault : RowFault → Bool
is_timing_fault (fault.Day field) = false
is_timing_fault (fault.Text field) = false
is_timing_fault _ = true

-- Records with a later day than an import takes.
use Rattle.std.specs.Prelude.{◌≡◌, ◌⊎◌, ℕ, ◌+◌, Bool, nat_lt, false, List, Option, Some, None, Result, Ok, Err, ⊤}
use Rattle.std.specs.List.{position}
use Rattle.std.specs.Option.{option_map, option_map_or}
use Rattle.cabinet_core.specs.declared.command.RecordCommand.{RecordCommand}
use Rattle.cabinet_core.specs.declared.command.RecordCommand.TheVariants.{Inspect, OpenOrder, UsePart, CloseOrder, Receive}
use Rattle.office_files.specs.Records.{commands_of}
use Rattle.signal_office_commands.specs.Refused.{IsUnread}
use Rattle.signal_office_faults.specs.declared.fault.Fault.{Fault}
use Rattle.signal_office_faults.specs.declared.fault.Fault.TheVariants as fault

-- the day of a record, in days after 1970-01-01; a used part has none
abbrev pub record_day : RecordCommand → Option ℕ
record_day (Inspect id inspection) = Some inspection.day
record_day (OpenOrder id opening) = Some opening.day
record_day (UsePart id line) = None
record_day (CloseOrder id order closing) = Some closing.day
record_day (Receive delivery) = Some delivery.day

-- whether a record has a day that is later than this one
abbrev pub is_late : (until : ℕ) → RecordCommand → Bool
is_late until c = option_map_or (nat_lt until) (record_day c) false

-- the number of the first record with a day later than this one, counted from 1
abbrev pub first_late : (until : ℕ) → List RecordCommand → Option ℕ
first_late until records = option_map (λ index. index + 1) (position (is_late until) records)

-- If a day is given, no record of the file has a later one; or the fault has the number of the first that has, or says why the file is not read. Without a day,
-- nothing is read.
abbrev pub AreInTime : (until : Option ℕ) → (csv : List ℕ) → Result ⊤ Fault → Type 0
AreInTime None csv result = result ≡ Ok tt
AreInTime (Some until) csv (Ok tt) = (records : List RecordCommand) × (commands_of csv ≡ Ok records) × (first_late until records ≡ None)
AreInTime (Some until) csv (Err why) =
    ((records : List RecordCommand) × (at : ℕ) × (commands_of csv ≡ Ok records) × (first_late until records ≡ Some at) × (why ≡ fault.Late at))
    ⊎ IsUnread (commands_of csv) why

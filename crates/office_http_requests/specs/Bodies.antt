-- The body of a request: one JSON object, and the values under its keys.
use Rattle.std.specs.Prelude.{ℕ, List, Option, Some, None, Result, Ok, Err, option_and_then, if◌then◌else◌}
use Rattle.std.specs.Str.{is_utf8}
use Rattle.serde_json.specs.Data.{Data, object}
use Rattle.serde_json.specs.Read.{read}
use Rattle.serde_json.specs.Find.{get, as_number, as_str, as_u64}
use Rattle.serde_json.specs.View.{view}
use Rattle.serde_json.specs.declared.value.Value.{Value}
use Rattle.office_files.specs.RecordReading.{day_of, part_of, words_of}
use Rattle.office_http_requests.specs.declared.fault.AskFault.{AskFault}
use Rattle.office_http_requests.specs.declared.fault.AskFault.TheVariants.{Json}
use Rattle.office_http_requests.specs.declared.field.Field.{Field}
use Rattle.office_http_requests.specs.declared.field.Field.TheVariants.{Day, Id, Interval, Part}
use Rattle.office_http_requests.specs.FaultsInOrder.{or_fault, or_field}
use Rattle.office_http_requests.specs.Fields.{field_name}
use Rattle.signal_records.specs.Reading.{within}

-- bytes as JSON data, if they are UTF-8 and one JSON value
abbrev pub json_of : List ℕ → Option Data
json_of bytes = if is_utf8 bytes then read bytes else None

-- a value in JSON, if it is an object
abbrev pub object_in : Data → Option Data
object_in (object members) = Some (object members)
object_in _ = None

-- a body as a JSON object, or the fault Json
unfoldable pub body_of : List ℕ → Result Data AskFault
body_of bytes = or_fault Json (option_and_then object_in (json_of bytes))

-- a body that was read, as data, or its fault
abbrev pub data_of : Result Value AskFault → Result Data AskFault
data_of (Ok value) = Ok (view value)
data_of (Err fault) = Err fault

-- the number under a key: digits alone, below 2 ^ 64
abbrev pub number_in : Data → Field → Option ℕ
number_in body field = option_and_then as_u64 (option_and_then as_number (get (field_name field) body))

-- the text under a key, if one is there
abbrev pub text_in : Data → Field → Option (List ℕ)
text_in body field = option_and_then as_str (get (field_name field) body)

-- the number under a key, if it is from low to high, or the field's fault
unfoldable pub ranged_in : ℕ → ℕ → Data → Field → Result ℕ AskFault
ranged_in low high body field = or_field field (option_and_then (within low high) (number_in body field))

-- the number of an intersection, 1 to 9999, under the key `id`, or that field's fault
abbrev pub id_in : Data → Result ℕ AskFault
id_in body = ranged_in 1 9999 body Id

-- the days between two inspections, 1 to 3650, under the key `interval`, or that field's fault
abbrev pub interval_in : Data → Result ℕ AskFault
interval_in body = ranged_in 1 3650 body Interval

-- the words of at most so many bytes under a key, or the field's fault
unfoldable pub words_in : ℕ → Data → Field → Result (List ℕ) AskFault
words_in max body field = or_field field (option_and_then (words_of max) (text_in body field))

-- the day that the text under the key `day` spells, as days after 1970-01-01, or that field's fault
unfoldable pub day_in : Data → Result ℕ AskFault
day_in body = or_field Day (option_and_then day_of (text_in body Day))

-- the code of a part under the key `part`, or that field's fault
unfoldable pub part_in : Data → Result (List ℕ) AskFault
part_in body = or_field Part (option_and_then part_of (text_in body Part))

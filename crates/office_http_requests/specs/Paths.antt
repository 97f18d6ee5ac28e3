-- The segments of a path, and the fields that they spell.
use Rattle.std.specs.Prelude.{ℕ, zero, suc, List, Bool, ◌==◌, Result}
use Rattle.std.specs.List.{before_first, after_first}
use Rattle.office_files.specs.RecordReading.{day_of}
use Rattle.office_http_requests.specs.declared.fault.AskFault.{AskFault}
use Rattle.office_http_requests.specs.declared.field.Field.TheVariants.{Day, Id, Order}
use Rattle.office_http_requests.specs.FaultsInOrder.{or_field}
use Rattle.signal_records.specs.Reading.{number_spelled}

-- the byte of `/`
abbrev pub is_slash : ℕ → Bool
is_slash b = b == 47

-- a segment of a path, counted from 0; segment 0 is what comes before the first slash; empty if the path has fewer
abbrev pub segment : ℕ → List ℕ → List ℕ
segment zero path = before_first is_slash path
segment (suc index) path = segment index (after_first is_slash path)

-- the number of an intersection, 1 to 9999, in the third segment of a path, or the fault of the field `id`
unfoldable pub id_at : List ℕ → Result ℕ AskFault
id_at path = or_field Id (number_spelled 1 9999 (segment 2 path))

-- the number of an order, 1 to 999,999, in the fifth segment of a path, or the fault of the field `order`
unfoldable pub order_at : List ℕ → Result ℕ AskFault
order_at path = or_field Order (number_spelled 1 999_999 (segment 4 path))

-- the day that the third segment of a path spells, as days after 1970-01-01, or the fault of the field `day`
unfoldable pub day_at : List ℕ → Result ℕ AskFault
day_at path = or_field Day (day_of (segment 2 path))

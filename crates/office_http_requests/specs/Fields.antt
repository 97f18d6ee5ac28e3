-- The names of fields.
use Rattle.std.specs.Prelude.{ℕ, List, codes}
use Rattle.office_http_requests.specs.declared.field.Field.{Field}
use Rattle.office_http_requests.specs.declared.field.Field.TheVariants.{Clerk, Count, Csv, Day, Id, Interval, Line, Name, Number, Order, Part, Rows, Text}

-- the name of a field, as paths and bodies spell it
abbrev pub field_name : Field → List ℕ
field_name Clerk = codes "clerk"
field_name Count = codes "count"
field_name Csv = codes "csv"
field_name Day = codes "day"
field_name Id = codes "id"
field_name Interval = codes "interval"
field_name Line = codes "line"
field_name Name = codes "name"
field_name Number = codes "number"
field_name Order = codes "order"
field_name Part = codes "part"
field_name Rows = codes "rows"
field_name Text = codes "text"

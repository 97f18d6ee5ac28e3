-- The rows of a body, and the changes that they spell.
use Rattle.std.specs.Prelude.{◌≡◌, ℕ, List, [], ◌∷◌, map, Vec, Option, Some, None, option_map, option_and_then, Result}
use Rattle.std.specs.Borrow.{Bor}
use Rattle.std.specs.declared.alloc.Global.{Global}
use Rattle.serde_json.specs.Data.{Data, Items, no_items, item}
use Rattle.serde_json.specs.Find.{get, as_array, as_str}
use Rattle.signal_records.specs.Reading.{change_at, texts}
use Rattle.signal_records.specs.Within.{current_limits}
use Rattle.signal_records.specs.declared.record.Change.{Change}
use Rattle.office_files.specs.CsvRow.{csv_rows}
use Rattle.office_http_requests.specs.declared.fault.AskFault.{AskFault}
use Rattle.office_http_requests.specs.declared.field.Field.TheVariants.{Rows}
use Rattle.office_http_requests.specs.FaultsInOrder.{◌>>=◌, or_bad_row, or_field}
use Rattle.office_http_requests.specs.Fields.{field_name}

-- the items of an array, as a list
abbrev pub list_of : Items → List Data
list_of no_items = []
list_of (item d ds) = d ∷ list_of ds

-- the items of a value that is an array
abbrev pub list_in : Data → Option (List Data)
list_in d = option_map list_of (as_array d)

-- the values of all elements of a list, if each has one
abbrev pub each : {A B : Type 0} → (A → Option B) → List A → Option (List B)
each f [] = Some []
each f (x ∷ xs) = option_and_then (λ y. option_map (λ ys. y ∷ ys) (each f xs)) (f x)

-- the texts of an array, if all its values are texts
unfoldable pub texts_in : Data → Option (List (List ℕ))
texts_in d = option_and_then (each as_str) (list_in d)

-- the rows under the key `rows`, if they are an array of arrays of texts
unfoldable pub rows_in : Data → Option (List (List (List ℕ)))
rows_in body = option_and_then (each texts_in) (option_and_then list_in (get (field_name Rows) body))

-- the changes that rows spell, or the first bad row, as the records of a CSV file are read
abbrev pub changes_spelled : List (List (List ℕ)) → Result (List Change) AskFault
changes_spelled rows = or_bad_row (csv_rows (change_at current_limits) rows)

-- the changes that the rows of a body spell, or the fault: of the field `rows`, or of the first bad row
unfoldable pub changes_in : Data → Result (List Change) AskFault
changes_in body = do
  rows ← or_field Rows (rows_in body)
  changes_spelled rows

-- the fields of a row, as references to texts
abbrev pub RowRefs : Type 0
RowRefs = Vec (Bor (List ℕ)) Global

-- what the fields of rows contain
abbrev pub rows_seen : List RowRefs → List (List (List ℕ))
rows_seen rows = map (λ row. texts row.items) rows

-- what was found is references to the wanted texts, or nothing if no texts are wanted
abbrev pub ShowsTexts : Option RowRefs → Option (List (List ℕ)) → Type 0
ShowsTexts None wanted = wanted ≡ None
ShowsTexts (Some refs) wanted = wanted ≡ Some (texts refs.items)

-- what was found is rows of the wanted texts, or nothing if no rows are wanted
abbrev pub ShowsRows : Option (Vec RowRefs Global) → Option (List (List (List ℕ))) → Type 0
ShowsRows None wanted = wanted ≡ None
ShowsRows (Some rows) wanted = wanted ≡ Some (rows_seen rows.items)

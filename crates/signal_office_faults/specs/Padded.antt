-- The empty fields with which a spreadsheet pads records at their end, and the records without them.
use Rattle.std.specs.Prelude.{ℕ, Bool, true, false, if◌then◌else◌, not, List, [], ◌∷◌, codes, drop, filter, map, take, Option, Some, None}
use Rattle.std.specs.List.{list_all}
use Rattle.std.specs.Str.{bytes_eq}
use Rattle.office_files.specs.Csv.{csv_records, csv_text}
use Rattle.signal_office_faults.specs.declared.kinds.RecordKind.{RecordKind}
use Rattle.signal_office_faults.specs.declared.kinds.RowKind.{RowKind}
use Rattle.signal_office_faults.specs.declared.kinds.RowKind.TheVariants as row

-- the kind of a row, by its name
abbrev pub row_kind : List ℕ → RowKind
row_kind name =
    if bytes_eq name (codes "phase") then row.Phase
    else if bytes_eq name (codes "seq") then row.Seq
    else if bytes_eq name (codes "split") then row.Split
    else if bytes_eq name (codes "pattern") then row.Pattern
    else row.Other

-- the kind of a row or a key, by its fields, which begin with its name
abbrev pub kind_of_row : List (List ℕ) → RowKind
kind_of_row [] = row.Other
kind_of_row (name ∷ rest) = row_kind name

-- the kind of a record: it removes a key if its first field is `remove`
abbrev pub record_kind_of : List (List ℕ) → RecordKind
record_kind_of [] = record { kind = row.Other; removes = false }
record_kind_of (name ∷ rest) =
    if bytes_eq name (codes "remove") then record { kind = kind_of_row rest; removes = true }
    else record { kind = row_kind name; removes = false }

-- whether a field is empty
abbrev pub is_blank : List ℕ → Bool
is_blank [] = true
is_blank (b ∷ bs) = false

-- whether all fields of a list are empty
abbrev pub are_blank : List (List ℕ) → Bool
are_blank fields = list_all is_blank fields

-- how many fields the record of a phase has: 15 if any field after the ninth, of its pedestrian part, is not empty; else 9
abbrev pub phase_width : List (List ℕ) → ℕ
phase_width fields = if are_blank (drop 9 fields) then 9 else 15

-- how many fields a record of the register has, by the name of its kind; none where that is no kind of the register
abbrev pub register_width : List ℕ → Option ℕ
register_width kind =
    if bytes_eq kind (codes "inspection") then Some 6
    else if bytes_eq kind (codes "order") then Some 6
    else if bytes_eq kind (codes "use") then Some 6
    else if bytes_eq kind (codes "close") then Some 5
    else if bytes_eq kind (codes "delivery") then Some 5
    else None

-- how many fields a record of the register has, by its first field, its kind; none for other records
abbrev pub record_width : List (List ℕ) → Option ℕ
record_width [] = None
record_width (kind ∷ rest) = register_width kind

-- how many fields a record has, by its kind as a record of a plan and by its fields; none for an unknown kind
abbrev pub width_by : (removes : Bool) → RowKind → List (List ℕ) → Option ℕ
width_by false row.Phase fields = Some (phase_width fields)
width_by false row.Split fields = Some 6
width_by false row.Pattern fields = Some 6
width_by false row.Seq fields = Some 4
width_by true row.Seq fields = Some 4
width_by true row.Split fields = Some 4
width_by true row.Phase fields = Some 3
width_by true row.Pattern fields = Some 3
width_by true row.Other fields = None
width_by false row.Other fields = record_width fields

-- how many fields a record of a plan or of the register has, by its fields; none for an unknown kind
abbrev pub width_of : List (List ℕ) → Option ℕ
width_of fields = width_by (record_kind_of fields).removes (record_kind_of fields).kind fields

-- a record without the fields after its width, if all of these are empty; else, or without a width, all of its fields
abbrev pub kept_by : Option ℕ → List (List ℕ) → List (List ℕ)
kept_by None fields = fields
kept_by (Some width) fields = if are_blank (drop width fields) then take width fields else fields

-- a record without its padding: the fields that its kind has, if all after them are empty; else all of its fields
abbrev pub unpadded : List (List ℕ) → List (List ℕ)
unpadded fields = kept_by (width_of fields) fields

-- the records without those whose fields are all empty, each without its padding
abbrev pub unpadded_rows : List (List (List ℕ)) → List (List (List ℕ))
unpadded_rows rows = map unpadded (filter (λ fields. not (are_blank fields)) rows)

-- the file of records after a byte order mark: a reader drops that mark, and none of the first field
abbrev pub marked_text : List (List (List ℕ)) → List ℕ
marked_text rows = 0xEF ∷ 0xBB ∷ 0xBF ∷ csv_text rows

-- the file of the records of a file, without their padding
abbrev pub unpadded_text : List ℕ → List ℕ
unpadded_text text = marked_text (unpadded_rows (csv_records text))

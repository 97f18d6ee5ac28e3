-- The file of records grows by a record, and is read as those records.
use Rattle.std.proofs.Common.{length-append, append_assoc, slice_index, get_or, All, ◌≡◌, ℕ, zero, suc, ◌+◌, ◌<◌, ◌≤◌, ◌==◌, false, List, [], ◌∷◌, ◌++◌, length, map, inl, inr, take, Some, refl, sym, ap, ◌∙◌, arith}
use Rattle.std.proofs.lemmas.List.{take_more, append-nil, map-append}
use Rattle.std.proofs.lemmas.{Grind.flat_map-append, Bool.cases_Bool, Bool.ne_eqb}
use Rattle.std.proofs.lemmas.List.Elements.{All-nil, All-cons, All-head, All-tail, All-weaker}
use Rattle.std.specs.List.{list_any}
use Rattle.csv.specs.{Machine.next_record, Reading.default_config, Reading.strip_bom, Reading.records_from, Writing.default_writer}
use Rattle.csv.specs.Writing.{row_text, field_text, fields_text, escaped, is_blank, needs_byte}
use Rattle.csv.specs.declared.parser.State.TheVariants as st
use Rattle.csv.proofs.RoundTrip.{read-write}
use Rattle.office_files.specs.Csv.{csv_records, csv_text, file_writer}

-- a record begins with a small letter, as the word for its kind does
abbrev pub BeginsWithLetter : List (List ℕ) → Type 0
BeginsWithLetter [] = ⊥
BeginsWithLetter (kind ∷ fields) = (97 ≤ slice_index kind 0) × (slice_index kind 0 ≤ 122)

-- the file of one value more
pub csv_text_more : {T : Type 0} (spelling : T → List (List ℕ)) (values : List T) (i : ℕ) (value : T) → i < length values → value ≡ get_or values i value → csv_text (map spelling (take (i + 1) values)) ≡ csv_text (map spelling (take i values)) ++ row_text file_writer (spelling value)
csv_text_more spelling values i value low at =
    let next : take (i + 1) values ≡ take i values ++ value ∷ [] = take_more values i value low ∙ ap (λ s. take i values ++ s ∷ []) (sym at) in
    rw (next, map-append, flat_map-append, append-nil) refl

-- what is written grows by the record
pub written_more : (old new before after added : List ℕ) → Some old ≡ Some before → new ≡ old ++ added → after ≡ before ++ added → Some new ≡ Some after
written_more old new before after added e grown more = let same : old ≡ before = cc in rw (grown, same, more) refl

-- a writer that lets records differ in length writes each as the default one does
escaped-file : (field : List ℕ) → escaped file_writer field ≡ escaped default_writer field
unfolding escaped
escaped-file [] = refl
escaped-file (b ∷ field) = rw (escaped-file field) refl

field_text-file : (field : List ℕ) → field_text file_writer field ≡ field_text default_writer field
field_text-file field = rw (escaped-file field) refl

fields_text-file : (fields : List (List ℕ)) → fields_text file_writer fields ≡ fields_text default_writer fields
unfolding fields_text
fields_text-file [] = refl
fields_text-file (field ∷ fields) = rw (field_text-file field, fields_text-file fields) refl

is_blank-file : (fields : List (List ℕ)) → is_blank file_writer fields ≡ is_blank default_writer fields
unfolding is_blank
is_blank-file [] = refl
is_blank-file (field ∷ []) = rw (field_text-file field) refl
is_blank-file (field ∷ next ∷ fields) = refl

row_text-file : (fields : List (List ℕ)) → row_text file_writer fields ≡ row_text default_writer fields
row_text-file [] = rw (is_blank-file []) refl
row_text-file (field ∷ fields) =
    rw (field_text-file field, fields_text-file fields, is_blank-file (field ∷ fields)) refl

-- a record that was read has a field
abbrev pub HasField : List (List ℕ) → Type 0
HasField row = 1 ≤ length row

-- what a file of one row more reads as
next_record-row : (row : List (List ℕ)) (tail : List ℕ) → HasField row → next_record default_config st.StartRecord [] [] (row_text file_writer row ++ tail) ≡ Some (row, st.StartRecord, tail)
next_record-row [] tail h = absurd (omega arith)
next_record-row (field ∷ fields) tail h = rw (row_text-file (field ∷ fields)) (read-write (field ∷ fields) tail)

records_from-csv_text : (rows : List (List (List ℕ))) (n : ℕ) → length rows < n → All HasField rows → records_from default_config n st.StartRecord (csv_text rows) ≡ rows
unfolding records_from next_record
records_from-csv_text rows zero h each = absurd (omega arith)
records_from-csv_text [] (suc n) h each = refl
records_from-csv_text (row ∷ rows) (suc n) h each =
    let more = records_from-csv_text rows n (omega arith) (All-tail HasField row rows each) in
    rw (next_record-row row (csv_text rows) (All-head HasField row rows each), more) refl

-- each row takes some bytes
row_text-nonempty : (row : List (List ℕ)) → 1 ≤ length (row_text file_writer row)
row_text-nonempty row = omega (arith, length-append {A = ℕ})

length-csv_text : (rows : List (List (List ℕ))) → length rows ≤ length (csv_text rows)
length-csv_text [] = omega arith
length-csv_text (row ∷ rows) =
    let one = row_text-nonempty row in
    let more = length-csv_text rows in
    omega (arith, length-append (row_text file_writer row) (csv_text rows))

-- the file of records that have a field is read as them
pub read_rows : (rows : List (List (List ℕ))) → All HasField rows → records_from default_config (length (csv_text rows) + 1) st.StartRecord (csv_text rows) ≡ rows
read_rows rows each = records_from-csv_text rows (length (csv_text rows) + 1) (omega (arith, length-csv_text rows)) each

-- a field that begins with a letter is written with a letter or a quote first
field_text-first : (field : List ℕ) (rest : List ℕ) → 97 ≤ slice_index field 0 → slice_index field 0 ≤ 122 → slice_index (field_text file_writer field ++ rest) 0 ≤ 122
field_text-first [] rest low high = absurd (omega arith)
field_text-first (b ∷ field) rest low high = elim (cases_Bool (list_any (needs_byte file_writer) (b ∷ field))) [
  | inl needs ↦ rw needs (omega arith)
  | inr plain ↦ rw plain high
]

strip_bom-first : (text : List ℕ) → slice_index text 0 ≤ 122 → strip_bom text ≡ text
unfolding strip_bom
strip_bom-first (a ∷ b ∷ c ∷ rest) h =
    let no : (a == 0xEF) ≡ false = ne_eqb a 0xEF (λ e. absurd (omega arith)) in
    rw no refl
strip_bom-first _ h = refl

strip_bom-csv_text : (rows : List (List (List ℕ))) → All BeginsWithLetter rows → strip_bom (csv_text rows) ≡ csv_text rows
unfolding strip_bom
strip_bom-csv_text [] each = refl
strip_bom-csv_text ([] ∷ rows) each = elim (All-head BeginsWithLetter [] rows each) [ ]
strip_bom-csv_text ((field ∷ fields) ∷ rows) each =
    let letter = All-head BeginsWithLetter (field ∷ fields) rows each in
    strip_bom-first (csv_text ((field ∷ fields) ∷ rows)) (simp append_assoc (field_text-first field _ letter.0 letter.1))

has_field : (row : List (List ℕ)) → BeginsWithLetter row → HasField row
has_field [] h = elim h [ ]
has_field (field ∷ fields) h = omega arith

-- the file of rows that begin with a letter reads as those rows
csv_records-csv_text : (rows : List (List (List ℕ))) → All BeginsWithLetter rows → csv_records (csv_text rows) ≡ rows
csv_records-csv_text rows each =
    rw (strip_bom-csv_text rows each) (read_rows rows (All-weaker BeginsWithLetter HasField has_field rows each))

All-spellings : {T : Type 0} (spelling : T → List (List ℕ)) → ((value : T) → BeginsWithLetter (spelling value)) → (values : List T) → All BeginsWithLetter (map spelling values)
All-spellings spelling begins [] = All-nil BeginsWithLetter
All-spellings spelling begins (value ∷ values) = All-cons BeginsWithLetter (spelling value) (map spelling values) (begins value) (All-spellings spelling begins values)

-- where every value's spelling begins with a letter, the file of values reads as their spellings
pub csv_records-spellings : {T : Type 0} (spelling : T → List (List ℕ)) → ((value : T) → BeginsWithLetter (spelling value)) → (values : List T) → csv_records (csv_text (map spelling values)) ≡ map spelling values
csv_records-spellings spelling begins values = csv_records-csv_text (map spelling values) (All-spellings spelling begins values)

-- What the records of a file spell grows by a record, and ends at the first that spells nothing.
use Rattle.std.proofs.Common.{◌≡◌, ◌≢◌, ℕ, ◌+◌, ◌<◌, List, [], ◌∷◌, ◌++◌, length, map, take, drop, get_or, Result, Ok, Err, refl, sym, ap, ◌∙◌, arith, append_assoc}
use Rattle.std.proofs.lemmas.List.{take_more, map-append, take-append-drop, length-map, length-take-le}
use Rattle.signal_records.specs.{Reading.Gives, declared.fault.RowFault.RowFault}
use Rattle.office_files.specs.{declared.fault.CsvFault.CsvFault, CsvFault.bad_row, CsvFault.told_at, CsvRow.rows_from}
use Rattle.office_files.specs.CsvRow.{csv_rows, add_row}
use Rattle.office_files.specs.declared.fault.CsvFault.TheVariants as file
use Rattle.signal_records.specs.declared.fault.RowFault.TheVariants as row

-- a record and the rest of a file spell something where both do
pub record Added {T : Type 0} (row : Result T RowFault) (rest : Result (List T) CsvFault) (all : List T) : Type 0 where
  pub first : T
  pub others : List T
  pub row_is : row ≡ Ok first
  pub rest_is : rest ≡ Ok others
  pub all_is : all ≡ first ∷ others

pub added : {T : Type 0} (at : ℕ) (row : Result T RowFault) (rest : Result (List T) CsvFault) (all : List T) → add_row at row rest ≡ Ok all → Added row rest all
added at (Err e) rest all h = cc
added at (Ok x) (Err e) all h = cc
added at (Ok x) (Ok xs) all h = record { first = x; others = xs; row_is = refl; rest_is = refl; all_is = cc }

pub add_row-ok : {T : Type 0} (at : ℕ) (row : Result T RowFault) (rest : Result (List T) CsvFault) (x : T) (xs : List T) → row ≡ Ok x → rest ≡ Ok xs → add_row at row rest ≡ Ok (x ∷ xs)
add_row-ok at row rest x xs e f = rw (e, f) refl

add_row-err : {T : Type 0} (at : ℕ) (row : Result T RowFault) (rest : Result (List T) CsvFault) (x : T) (fault : CsvFault) → row ≡ Ok x → rest ≡ Err fault → add_row at row rest ≡ Err fault
add_row-err at row rest x fault e f = rw (e, f) refl

-- one record more that spells a value
pub rows_from-more : {T : Type 0} (reading : List (List ℕ) → Result T RowFault) (at : ℕ) (front : List (List (List ℕ))) (row : List (List ℕ)) (rows : List T) (x : T) → rows_from reading at front ≡ Ok rows → reading row ≡ Ok x → rows_from reading at (front ++ row ∷ []) ≡ Ok (rows ++ x ∷ [])
unfolding rows_from
rows_from-more reading at [] row rows x all one = let none : rows ≡ [] = cc in rw (one, none) refl
rows_from-more reading at (first ∷ front) row rows x all one =
    let a = added at (reading first) (rows_from reading (at + 1) front) rows all in
    let more = rows_from-more reading (at + 1) front row a.others x a.rest_is one in
    add_row-ok at (reading first) _ a.first (a.others ++ x ∷ []) a.row_is more ∙ ap (λ ys. Ok (ys ++ x ∷ [])) (sym a.all_is)

-- the first record that spells nothing
pub rows_from-fault : {T : Type 0} (reading : List (List ℕ) → Result T RowFault) (at : ℕ)
    (front : List (List (List ℕ))) (row : List (List ℕ)) (rest : List (List (List ℕ)))
    (rows : List T) (fault : RowFault) → rows_from reading at front ≡ Ok rows
    → reading row ≡ Err fault
    → rows_from reading at (front ++ row ∷ rest)
    ≡ Err (file.Row (bad_row (at + length front) fault))
unfolding rows_from
rows_from-fault reading at [] row rest rows fault all one = let same : at + 0 ≡ at = omega arith in rw (one, same) refl
rows_from-fault reading at (first ∷ front) row rest rows fault all one =
    let a = added at (reading first) (rows_from reading (at + 1) front) rows all in
    let more = rows_from-fault reading (at + 1) front row rest a.others fault a.rest_is one in
    let place : at + 1 + length front ≡ at + length (first ∷ front) = omega arith in
    add_row-err at (reading first) _ a.first _ a.row_is more
    ∙ ap (λ n. Err (file.Row (bad_row n fault))) place

-- the same of the records of a list, by their places
pub rows_of-next : {T R : Type 0} (reading : List (List ℕ) → Result T RowFault) (fields : R → List (List ℕ)) (records : List R) (i : ℕ) (record_at : R) (rows : List T) (x : T) → i < length records → record_at ≡ get_or records i record_at → csv_rows reading (map fields (take i records)) ≡ Ok rows → reading (fields record_at) ≡ Ok x → csv_rows reading (map fields (take (i + 1) records)) ≡ Ok (rows ++ x ∷ [])
rows_of-next reading fields records i record_at rows x low at so_far one =
    let next : take (i + 1) records ≡ take i records ++ record_at ∷ [] = take_more records i record_at low ∙ ap (λ s. take i records ++ s ∷ []) (sym at) in
    rw (next, map-append) (rows_from-more reading 1 (map fields (take i records)) (fields record_at) rows x so_far one)

pub rows_of-fault : {T R : Type 0} (reading : List (List ℕ) → Result T RowFault)
    (fields : R → List (List ℕ)) (records : List R) (i : ℕ) (record_at : R) (rows : List T)
    (fault : RowFault) → i < length records → record_at ≡ get_or records i record_at
    → csv_rows reading (map fields (take i records)) ≡ Ok rows
    → reading (fields record_at) ≡ Err fault
    → csv_rows reading (map fields records) ≡ Err (file.Row (bad_row (i + 1) fault))
rows_of-fault reading fields records i record_at rows fault low at so_far one =
    let next : take (i + 1) records ≡ take i records ++ record_at ∷ [] = take_more records i record_at low ∙ ap (λ s. take i records ++ s ∷ []) (sym at) in
    let all : records ≡ take i records ++ record_at ∷ drop (i + 1) records = sym (take-append-drop (i + 1) records) ∙ ap (λ t. t ++ drop (i + 1) records) next ∙ append_assoc (take i records) (record_at ∷ []) (drop (i + 1) records) in
    let size : 1 + length (map fields (take i records)) ≡ i + 1 = simp length-map (omega (arith, length-take-le i records (omega arith))) in
    let split : map fields records ≡ map fields (take i records) ++ fields record_at ∷ map fields (drop (i + 1) records) = ap (map fields) all ∙ map-append fields (take i records) (record_at ∷ drop (i + 1) records) in
    rw split (rows_from-fault reading 1 (map fields (take i records)) (fields record_at)
    (map fields (drop (i + 1) records)) rows fault so_far one)
    ∙ ap (λ n. Err (file.Row (bad_row n fault))) size

-- ---- by what was told of a record

told_at-ok : {T : Type 0} (at : ℕ) (read : Result T RowFault) (x : T) → Ok x ≡ told_at at read → read ≡ Ok x
told_at-ok at (Ok y) x h = cc
told_at-ok at (Err fault) x h = absurd cc

-- what is told with a number is the fault that was read
told_at-fault : {T : Type 0} (at : ℕ) (read wanted : Result T RowFault) (told : CsvFault) → Gives read wanted → Err told ≡ told_at at read → told ≢ file.NoMemory
    → (fault : RowFault) × (wanted ≡ Err fault) × (told ≡ file.Row (bad_row at fault))
told_at-fault at (Ok y) wanted told gives h other = absurd cc
told_at-fault at (Err row.NoMemory) wanted told gives h other =
    let is : told ≡ file.NoMemory = cc in
    absurd (other is)
told_at-fault at (Err fault) wanted told gives h other =
    let is : told ≡ file.Row (bad_row at fault) = cc in
    (fault, gives (λ e. cc), is)

-- a record more was kept
pub told-next : {T R : Type 0} (reading : List (List ℕ) → Result T RowFault) (fields : R → List (List ℕ)) (records : List R) (i : ℕ) (record_at : R) (rows : List T) (x : T) (read : Result T RowFault) → i < length records → record_at ≡ get_or records i record_at → csv_rows reading (map fields (take i records)) ≡ Ok rows → Gives read (reading (fields record_at)) → Ok x ≡ told_at (i + 1) read → csv_rows reading (map fields (take (i + 1) records)) ≡ Ok (rows ++ x ∷ [])
told-next reading fields records i record_at rows x read low at so_far gives told =
    rows_of-next reading fields records i record_at rows x low at so_far (rw (told_at-ok (i + 1) read x told) at gives)

-- a record was told as bad
pub told-stop : {T R : Type 0} (reading : List (List ℕ) → Result T RowFault) (fields : R → List (List ℕ)) (records : List R) (i : ℕ) (record_at : R) (rows : List T) (told : CsvFault) (read : Result T RowFault) → i < length records → record_at ≡ get_or records i record_at → csv_rows reading (map fields (take i records)) ≡ Ok rows → Gives read (reading (fields record_at)) → Err told ≡ told_at (i + 1) read → told ≢ file.NoMemory → csv_rows reading (map fields records) ≡ Err told
told-stop reading fields records i record_at rows told read low at so_far gives is other =
    let bad = told_at-fault (i + 1) read (reading (fields record_at)) told gives is other in
    rows_of-fault reading fields records i record_at rows bad.0 low at so_far bad.1 ∙ sym (ap Err bad.2)

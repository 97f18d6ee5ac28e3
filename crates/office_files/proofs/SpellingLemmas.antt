-- Records that were read are the spellings of what was read, and spellings are read back.
use Rattle.std.proofs.Common.{◌≡◌, ℕ, ◌+◌, List, [], ◌∷◌, map, All, Result, Ok, refl}
use Rattle.std.proofs.lemmas.List.Elements.{All-nil, All-cons, All-head, All-tail}
use Rattle.signal_records.specs.declared.fault.RowFault.{RowFault}
use Rattle.office_files.specs.CsvRow.{rows_from}
use Rattle.office_files.proofs.CsvRowLemmas.{added, add_row-ok}

-- one record and its row more
found_more : {T : Type 0} (spelling : T → List (List ℕ)) (IsWithin : T → Type 0) (fields : List (List ℕ)) (records : List (List (List ℕ))) (first : T) (others rows : List T) → rows ≡ first ∷ others → (fields ≡ spelling first) × IsWithin first → (records ≡ map spelling others) × All IsWithin others → (fields ∷ records ≡ map spelling rows) × All IsWithin rows
found_more spelling IsWithin fields records first others rows all one rest =
    rw (all, one.0, rest.0) (refl, All-cons IsWithin first others one.1 rest.1)

pub rows_from-found : {T : Type 0} (reading : List (List ℕ) → Result T RowFault) (spelling : T → List (List ℕ)) (IsWithin : T → Type 0) → ((fields : List (List ℕ)) (row : T) → reading fields ≡ Ok row → (fields ≡ spelling row) × IsWithin row) → (at : ℕ) (records : List (List (List ℕ))) (rows : List T) → rows_from reading at records ≡ Ok rows → (records ≡ map spelling rows) × All IsWithin rows
unfolding rows_from
rows_from-found reading spelling IsWithin found at [] rows h =
    let none : rows ≡ [] = cc in
    rw none (refl, All-nil IsWithin)
rows_from-found reading spelling IsWithin found at (fields ∷ records) rows h =
    let a = added at (reading fields) (rows_from reading (at + 1) records) rows h in
    let one = found fields a.first a.row_is in
    let rest = rows_from-found reading spelling IsWithin found (at + 1) records a.others a.rest_is in
    found_more spelling IsWithin fields records a.first a.others rows a.all_is one rest

pub rows_from-only : {T : Type 0} (reading : List (List ℕ) → Result T RowFault) (spelling : T → List (List ℕ)) (IsWithin : T → Type 0) → ((row : T) → IsWithin row → reading (spelling row) ≡ Ok row) → (at : ℕ) (rows : List T) → All IsWithin rows → rows_from reading at (map spelling rows) ≡ Ok rows
unfolding rows_from
rows_from-only reading spelling IsWithin only at [] within = refl
rows_from-only reading spelling IsWithin only at (row ∷ rows) within =
    let rest = rows_from-only reading spelling IsWithin only (at + 1) rows (All-tail IsWithin row rows within) in
    add_row-ok at (reading (spelling row)) _ row rows (only row (All-head IsWithin row rows within)) rest

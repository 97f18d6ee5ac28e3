-- The laws of a file of values: what is read is spelled so, and what spells values is read as them.
use Rattle.std.proofs.Common.{◌≡◌, ◌≢◌, ℕ, List, map, All, Result, Ok, Err, refl, ap, ◌∙◌}
use Rattle.std.specs.Prelude.{IfOk, IfErr, MatchResult}
use Rattle.signal_records.specs.declared.fault.RowFault.{RowFault}
use Rattle.office_files.specs.{declared.fault.CsvFault.CsvFault, Csv.csv_records, CsvRow.csv_rows}
use Rattle.office_files.specs.declared.fault.CsvFault.TheVariants as file
use Rattle.office_files.proofs.SpellingLemmas.{rows_from-found, rows_from-only}

-- each value has one spelling, which is read as it
pub record AreRowLaws {T : Type 0} (reading : List (List ℕ) → Result T RowFault) (spelling : T → List (List ℕ)) (IsWithin : T → Type 0) : Type 0 where
  pub found : (fields : List (List ℕ)) (row : T) → reading fields ≡ Ok row → (fields ≡ spelling row) × IsWithin row
  pub only : (row : T) → IsWithin row → reading (spelling row) ≡ Ok row

same_ok : {A E : Type 0} (read : Result A E) (x y : A) → read ≡ Ok x → read ≡ Ok y → x ≡ y
same_ok read x y is other = cc

not_both : {A E : Type 0} (read : Result A E) (x : A) (fault : E) → read ≡ Ok x → read ≡ Err fault → ⊥
not_both read x fault is other = cc

module _ {T : Type 0} (reading : List (List ℕ) → Result T RowFault) (spelling : T → List (List ℕ)) (IsWithin : T → Type 0) (laws : AreRowLaws reading spelling IsWithin) where
  file_found : (text : List ℕ) (rows : List T) → csv_rows reading (csv_records text) ≡ Ok rows → (csv_records text ≡ map spelling rows) × All IsWithin rows
  file_found text rows read = rows_from-found reading spelling IsWithin laws.found 1 (csv_records text) rows read

  pub file_only : (text : List ℕ) (rows : List T) → All IsWithin rows → csv_records text ≡ map spelling rows → csv_rows reading (csv_records text) ≡ Ok rows
  file_only text rows within spelled =
      ap (csv_rows reading) spelled ∙ rows_from-only reading spelling IsWithin laws.only 1 rows within

  -- the laws of a result
  pub given_found : {V : Type 0} (items : V → List T) (result : Result V CsvFault) (text : List ℕ) → IfOk result (λ v. csv_rows reading (csv_records text) ≡ Ok (items v)) → IfOk result (λ v. csv_records text ≡ map spelling (items v))
  given_found items (Ok v) text read = (file_found text (items v) read).0
  given_found items (Err fault) text read = tt

  pub given_within : {V : Type 0} (items : V → List T) (result : Result V CsvFault) (text : List ℕ) → IfOk result (λ v. csv_rows reading (csv_records text) ≡ Ok (items v)) → IfOk result (λ v. All IsWithin (items v))
  given_within items (Ok v) text read = (file_found text (items v) read).1
  given_within items (Err fault) text read = tt

  pub given_only : {V : Type 0} (items : V → List T) (result : Result V CsvFault) (text : List ℕ) → IfOk result (λ v. csv_rows reading (csv_records text) ≡ Ok (items v)) → IfErr result (λ fault. fault ≢ file.NoMemory → csv_rows reading (csv_records text) ≡ Err fault) → (rows : List T) → All IsWithin rows → csv_records text ≡ map spelling rows → MatchResult result (λ v. items v ≡ rows) (λ fault. fault ≡ file.NoMemory)
  given_only items (Ok v) text read bad rows within spelled =
      same_ok (csv_rows reading (csv_records text)) (items v) rows read (file_only text rows within spelled)
  given_only items (Err file.NoMemory) text read bad rows within spelled = refl
  given_only items (Err (file.Row bad_at)) text read bad rows within spelled =
      absurd (not_both (csv_rows reading (csv_records text)) rows (file.Row bad_at)
      (file_only text rows within spelled) (bad (λ e. cc)))

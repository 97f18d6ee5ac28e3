-- The CSV file of records is read as them.
use Rattle.std.proofs.Common.{◌≡◌, ℕ, List, ap, ◌∙◌, Result, Ok, Err}
use Rattle.std.specs.Prelude.{IfOk}
use Rattle.csv.specs.Reading.{records as csv_read, default_config}
use Rattle.office_files.specs.Csv.{csv_text}
use Rattle.office_files.proofs.WritingLemmas.{read_rows}
use Rattle.office_views.specs.Lists.{IsReadBack}

pub read_back : {V E : Type 0} (items : V → List ℕ) (result : Result V E) (records : List (List (List ℕ)))
    → IfOk result (λ text. items text ≡ csv_text records) → IfOk result (λ text. IsReadBack records (items text))
read_back items (Ok text) records written = λ each. ap (csv_read default_config) written ∙ read_rows records each
read_back items (Err e) records written = tt

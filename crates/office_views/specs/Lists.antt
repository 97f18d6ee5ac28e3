-- Lists as CSV.
use Rattle.std.specs.Prelude.{◌≡◌, ◌≤◌, All, ℕ, Bool, true, false, List, length, decimal}
use Rattle.csv.specs.Reading.{records as csv_read, default_config}
use Rattle.cabinet_core.specs.Day.{day_text}
use Rattle.office_views.specs.declared.lists.list.Cell.{Cell}
use Rattle.office_views.specs.declared.lists.list.Cell.TheVariants as cell
use Rattle.office_views.specs.declared.lists.list.ListStyle.{ListStyle}
use Rattle.office_views.specs.declared.lists.list.ListStyle.TheVariants as style

-- the text of a cell, with no space added
abbrev pub cell_text : Cell → List ℕ
cell_text (cell.Number n) = decimal n
cell_text (cell.Word word) = word.now
cell_text (cell.Day day) = day_text day

-- a list in this style is CSV
abbrev pub is_csv : ListStyle → Bool
is_csv style.Lines = false
is_csv style.Csv = true
is_csv style.HeadedCsv = true

-- a file of records, each with a cell or more, is read back as them: no word makes a cell or a record of its own
abbrev pub IsReadBack : (records : List (List (List ℕ))) → (text : List ℕ) → Type 0
IsReadBack records text = All (λ cells. 1 ≤ length cells) records → csv_read default_config text ≡ records

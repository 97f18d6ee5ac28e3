-- Records that spell something are not padded, and their file without padding is read as them.
use Rattle.std.proofs.Common.{◌≡◌, ℕ, ◌+◌, ◌<◌, true, false, List, [], ◌∷◌, length, map, All, Option, Some, None, Result, Ok, refl, ap, sym, ◌∙◌, arith}
use Rattle.std.proofs.lemmas.Fmt.{decimal_nonempty}
use Rattle.std.proofs.lemmas.List.Elements.{All-nil, All-cons, All-head, All-tail}
use Rattle.std.specs.Fmt.{decimal}
use Rattle.csv.specs.Reading.{default_config, records_from, strip_bom}
use Rattle.csv.specs.declared.parser.State.TheVariants as st
use Rattle.cabinet_core.specs.Within.{IsRecordWithin}
use Rattle.cabinet_core.specs.declared.command.RecordCommand.{RecordCommand}
use Rattle.cabinet_core.specs.declared.command.RecordCommand.TheVariants as command
use Rattle.office_files.proofs.{ChangesLemmas.change_laws, FileLaws.AreRowLaws, RecordLaws.record_laws, SpellingLemmas.rows_from-found, WritingLemmas.HasField, WritingLemmas.read_rows}
use Rattle.office_files.specs.{Changes.changes_of, Csv.csv_records, Csv.csv_text, CsvRow.csv_rows, Records.commands_of, RecordReading.record_at, RecordSpelling.record_spelling}
use Rattle.signal_office_faults.specs.Padded.{are_blank, is_blank, unpadded, unpadded_rows, unpadded_text}
use Rattle.signal_records.specs.{Reading.change_at, Spelling.change_spelling, Spelling.spelling, Within.current_limits, Within.IsAnyPedWithin, Within.IsChangeWithin, Within.IsRowWithin}
use Rattle.signal_records.specs.declared.fault.RowFault.{RowFault}
use Rattle.signal_records.specs.declared.key.Key.TheVariants as key
use Rattle.signal_records.specs.declared.record.{Change.Change, Ped.Ped, Phase.Phase, Row.Row}
use Rattle.signal_records.specs.declared.record.Change.TheVariants.{Put, Remove}
use Rattle.signal_records.specs.declared.record.Row.TheVariants as row

-- a record that is not padded, and has a field that is not empty
abbrev Stays : List (List ℕ) → Type 0
Stays fields = (unpadded fields ≡ fields) × HasField fields × (are_blank fields ≡ false)

-- a number is no empty field
something : (text : List ℕ) → 0 < length text → is_blank text ≡ false
something [] h = absurd (omega arith)
something (b ∷ bs) h = refl

phase_stays : (p : ℕ) (phase : Phase) (ped : Option Ped) → phase.ped ≡ ped → IsAnyPedWithin true ped
    → unpadded (spelling current_limits (row.Phase p phase)) ≡ spelling current_limits (row.Phase p phase)
phase_stays p phase None is within = rw is refl
phase_stays p phase (Some ped) is within =
    let walk : is_blank (decimal ped.walk) ≡ false = something (decimal ped.walk) (decimal_nonempty ped.walk (let h = within.walk in omega arith)) in
    rw (is, walk) refl

row_stays : (r : Row) → IsRowWithin current_limits r → Stays (spelling current_limits r)
row_stays (row.Phase p phase) within = (phase_stays p phase phase.ped refl within.ped, omega arith, refl)
row_stays (row.Seq n ring r) within = (refl, omega arith, refl)
row_stays (row.Split n p split) within = (refl, omega arith, refl)
row_stays (row.Pattern n pattern) within = (refl, omega arith, refl)

change_stays : (c : Change) → IsChangeWithin current_limits c → Stays (change_spelling current_limits c)
change_stays (Put r) within = row_stays r within
change_stays (Remove (key.Phase p)) within = (refl, omega arith, refl)
change_stays (Remove (key.Seq n ring)) within = (refl, omega arith, refl)
change_stays (Remove (key.Split n p)) within = (refl, omega arith, refl)
change_stays (Remove (key.Pattern n)) within = (refl, omega arith, refl)

command_stays : (c : RecordCommand) → IsRecordWithin c → Stays (record_spelling c)
command_stays (command.Inspect id r) within = (refl, omega arith, refl)
command_stays (command.OpenOrder id r) within = (refl, omega arith, refl)
command_stays (command.UsePart id r) within = (refl, omega arith, refl)
command_stays (command.CloseOrder id order r) within = (refl, omega arith, refl)
command_stays (command.Receive r) within = (refl, omega arith, refl)

without_mark : (text : List ℕ) → strip_bom (0xEF ∷ 0xBB ∷ 0xBF ∷ text) ≡ text
unfolding strip_bom
without_mark text = refl

-- the file of rows that have a field is read as them, behind a byte order mark
read_marked : (rows : List (List (List ℕ))) → All HasField rows → csv_records (0xEF ∷ 0xBB ∷ 0xBF ∷ csv_text rows) ≡ rows
read_marked rows full =
    ap (λ t. records_from default_config (length t + 1) st.StartRecord t) (without_mark (csv_text rows)) ∙ read_rows rows full

module _ {T : Type 0} (reading : List (List ℕ) → Result T RowFault) (spelling : T → List (List ℕ)) (IsWithin : T → Type 0) (laws : AreRowLaws reading spelling IsWithin)
    (stays : (x : T) → IsWithin x → Stays (spelling x)) where
  all_stay : (rows : List T) → All IsWithin rows → (unpadded_rows (map spelling rows) ≡ map spelling rows) × All HasField (map spelling rows)
  all_stay [] within = (refl, All-nil HasField)
  all_stay (x ∷ rows) within =
      let one = stays x (All-head IsWithin x rows within) in
      let rest = all_stay rows (All-tail IsWithin x rows within) in
      (rw (one.2, one.0, rest.0) refl, All-cons HasField (spelling x) (map spelling rows) one.1 rest.1)

  good_rows : (text padded : List ℕ) (rows : List T) → padded ≡ unpadded_text text
      → csv_rows reading (csv_records text) ≡ Ok rows → csv_rows reading (csv_records padded) ≡ Ok rows
  good_rows text padded rows is read =
      let found = rows_from-found reading spelling IsWithin laws.found 1 (csv_records text) rows read in
      let spelled = all_stay rows found.1 in
      let reads : csv_records padded ≡ map spelling rows =
      ap csv_records is ∙ ap (λ rs. csv_records (0xEF ∷ 0xBB ∷ 0xBF ∷ csv_text rs)) (ap unpadded_rows found.0 ∙ spelled.0)
      ∙ read_marked (map spelling rows) spelled.1
      in ap (csv_rows reading) (reads ∙ sym found.0) ∙ read

pub good_changes : (text padded : List ℕ) (changes : List Change) → padded ≡ unpadded_text text
    → changes_of text ≡ Ok changes → changes_of padded ≡ Ok changes
good_changes = good_rows (change_at current_limits) (change_spelling current_limits) (IsChangeWithin current_limits) change_laws change_stays

pub good_commands : (text padded : List ℕ) (commands : List RecordCommand) → padded ≡ unpadded_text text
    → commands_of text ≡ Ok commands → commands_of padded ≡ Ok commands
good_commands = good_rows record_at record_spelling IsRecordWithin record_laws command_stays

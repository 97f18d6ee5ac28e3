-- The file of changes is text, and is read as these changes.
use Rattle.std.proofs.Common.{◌≡◌, ℕ, List, Result, Ok, Err, refl, ap, ◌∙◌, arith}
use Rattle.std.specs.Prelude.{IfOk, OnOk, codes}
use Rattle.signal_records.specs.{declared.key.Key.Key, declared.record.Change.Change, declared.record.Change.TheVariants.Put, declared.record.Change.TheVariants.Remove, Reading.change_at, Spelling.change_spelling, Spelling.key_spelling, Within.current_limits, Within.IsChangeWithin}
use Rattle.signal_records.specs.declared.key.Key.TheVariants as key
use Rattle.office_files.specs.{Changes.changes_of, Changes.AreWithin, Changes.spellings, Csv.csv_text}
use Rattle.office_files.proofs.{ChangesLemmas.change_laws, FileLaws.file_only, SpelledTexts.row_texts, TimingLemmas.begins_with_kind, Utf8Lemmas.AreTexts, Utf8Lemmas.IsUtf8-low, Utf8Lemmas.IsUtf8-decimal, WritingLemmas.BeginsWithLetter}
use Rattle.office_files.proofs.WritingLemmas.{csv_records-spellings}

key_texts : (k : Key) → AreTexts (key_spelling k)
key_texts (key.Phase p) = (IsUtf8-low (codes "phase") refl, (IsUtf8-decimal p, tt))
key_texts (key.Seq n ring) =
    (IsUtf8-low (codes "seq") refl, (IsUtf8-decimal n, (IsUtf8-decimal ring, tt)))
key_texts (key.Split n p) =
    (IsUtf8-low (codes "split") refl, (IsUtf8-decimal n, (IsUtf8-decimal p, tt)))
key_texts (key.Pattern n) = (IsUtf8-low (codes "pattern") refl, (IsUtf8-decimal n, tt))

pub change_texts : (change : Change) → IsChangeWithin current_limits change
    → AreTexts (change_spelling current_limits change)
change_texts (Put r) within = row_texts r within
change_texts (Remove k) within = (IsUtf8-low (codes "remove") refl, key_texts k)

begins_with_word : (change : Change) → BeginsWithLetter (change_spelling current_limits change)
begins_with_word (Put r) = begins_with_kind r
begins_with_word (Remove k) = (omega arith, omega arith)

changes_read_back : (changes : List Change) → AreWithin changes
    → changes_of (csv_text (spellings changes)) ≡ Ok changes
changes_read_back changes within =
    file_only (change_at current_limits) (change_spelling current_limits)
    (IsChangeWithin current_limits) change_laws (csv_text (spellings changes)) changes within
    (csv_records-spellings (change_spelling current_limits) begins_with_word changes)

-- the law of a result
pub given_changes_back : {V E : Type 0} (items : V → List ℕ) (result : Result V E)
    (changes : List Change) → IfOk result (λ text. items text ≡ csv_text (spellings changes))
    → OnOk result (AreWithin changes) → IfOk result (λ text. changes_of (items text) ≡ Ok changes)
given_changes_back items (Ok text) changes written within =
    ap changes_of written ∙ changes_read_back changes within
given_changes_back items (Err e) changes written within = tt

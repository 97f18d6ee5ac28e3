-- The file of a timing set is read as the changes that put its rows.
use Rattle.std.proofs.Common.{◌≡◌, ℕ, List, [], ◌∷◌, map, All, Result, Ok, Err, refl, ap, ◌∙◌, arith}
use Rattle.std.specs.Prelude.{IfOk, OnOk}
use Rattle.std.proofs.lemmas.List.Elements.{All-nil, All-cons, All-head, All-tail}
use Rattle.signal_records.specs.{declared.record.Row.Row, declared.record.Change.TheVariants.Put, Reading.change_at, Spelling.spelling, Spelling.change_spelling, Within.current_limits, Within.IsRowWithin, Within.IsChangeWithin}
use Rattle.signal_records.specs.declared.record.Row.TheVariants as row
use Rattle.office_files.specs.{Changes.changes_of, Changes.AreWithin, Changes.spellings, Csv.csv_text}
use Rattle.office_files.proofs.{ChangesLemmas.change_laws, FileLaws.file_only}
use Rattle.office_files.proofs.WritingLemmas.{BeginsWithLetter, csv_records-spellings}

pub begins_with_kind : (r : Row) → BeginsWithLetter (spelling current_limits r)
begins_with_kind (row.Phase p phase) = (omega arith, omega arith)
begins_with_kind _ = (omega arith, omega arith)

puts_within : (rows : List Row) → All (IsRowWithin current_limits) rows → AreWithin (map Put rows)
puts_within [] within = All-nil (IsChangeWithin current_limits)
puts_within (r ∷ rows) within =
    All-cons (IsChangeWithin current_limits) (Put r) (map Put rows) (All-head (IsRowWithin current_limits) r rows within) (puts_within rows (All-tail (IsRowWithin current_limits) r rows within))

puts_spelled : (rows : List Row) → map (spelling current_limits) rows ≡ spellings (map Put rows)
puts_spelled [] = refl
puts_spelled (r ∷ rows) = ap (λ others. spelling current_limits r ∷ others) (puts_spelled rows)

pub timing_reads_back : (rows : List Row) → All (IsRowWithin current_limits) rows → changes_of (csv_text (map (spelling current_limits) rows)) ≡ Ok (map Put rows)
timing_reads_back rows within =
    file_only (change_at current_limits) (change_spelling current_limits) (IsChangeWithin current_limits) change_laws (csv_text (map (spelling current_limits) rows)) (map Put rows) (puts_within rows within)
    (csv_records-spellings (spelling current_limits) begins_with_kind rows ∙ puts_spelled rows)

-- the law of a result
pub given_reads_back : {V E : Type 0} (items : V → List ℕ) (result : Result V E) (shown rows : List Row) → shown ≡ rows → IfOk result (λ text. items text ≡ csv_text (map (spelling current_limits) shown)) → OnOk result (All (IsRowWithin current_limits) shown) → IfOk result (λ text. changes_of (items text) ≡ Ok (map Put rows))
given_reads_back items (Ok text) shown rows same written within =
    ap changes_of written ∙ timing_reads_back shown within ∙ ap (λ all. Ok (map Put all)) same
given_reads_back items (Err e) shown rows same written within = tt

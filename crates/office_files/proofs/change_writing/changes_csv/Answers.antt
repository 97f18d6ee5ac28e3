use Rattle.signal_records.specs.{Spelling.change_spelling, Within.current_limits, Within.IsChangeWithin}
use Rattle.office_files.proofs.{ChangeTexts.change_texts, ChangeTexts.given_changes_back, Utf8Lemmas.given_utf8}
use Rattle.office_files.proofs.change_writing.changes_csv.Goals as goal

pub returns-clause-utf8 : goal.returns-clause-utf8
returns-clause-utf8 c =
    given_utf8 (change_spelling current_limits) (IsChangeWithin current_limits) change_texts
    (λ text. text.items) c.write_records.result _ c.write_records.ensures.text
    c.write_records.ensures.within

pub returns-clause-reads_back : goal.returns-clause-reads_back
returns-clause-reads_back c =
    given_changes_back (λ text. text.items) c.write_records.result c.args.changes.now
    c.write_records.ensures.text c.write_records.ensures.within

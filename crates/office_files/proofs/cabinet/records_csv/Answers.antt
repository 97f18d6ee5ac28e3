use Rattle.std.proofs.Common.{◌∙◌}
use Rattle.office_files.specs.RecordSpelling.{record_spelling}
use Rattle.cabinet_core.specs.Within.{IsRecordWithin}
use Rattle.office_files.proofs.{Utf8Lemmas.given_utf8, SpelledTexts.record_texts, RecordLaws.given_reads_back}
use Rattle.office_files.proofs.cabinet.records_csv.Goals as goal

pub returns-clause-utf8 : goal.returns-clause-utf8
returns-clause-utf8 c =
    given_utf8 record_spelling IsRecordWithin record_texts (λ text. text.items) c.write_records.result _ c.write_records.ensures.text c.write_records.ensures.within

pub returns-clause-reads_back : goal.returns-clause-reads_back
returns-clause-reads_back c =
    given_reads_back (λ text. text.items) c.write_records.result _ _
    (c.deref.ensures.value ∙ c.in_ok-commands.ensures.commands) c.write_records.ensures.text
    c.write_records.ensures.within

use Rattle.office_files.specs.{RecordReading.record_at, RecordSpelling.record_spelling}
use Rattle.cabinet_core.specs.Within.{IsRecordWithin}
use Rattle.office_files.proofs.{RecordLaws.record_laws, FileLaws.given_found, FileLaws.given_within, FileLaws.given_only}
use Rattle.office_files.proofs.cabinet.read_records_csv.Goals as goal

pub returns-clause-found : goal.returns-clause-found
returns-clause-found c = given_found record_at record_spelling IsRecordWithin record_laws (λ v. v.items) _ c.args.bytes.now c.read_rows.ensures.rows

pub returns-clause-within : goal.returns-clause-within
returns-clause-within c = given_within record_at record_spelling IsRecordWithin record_laws (λ v. v.items) _ c.args.bytes.now c.read_rows.ensures.rows

pub returns-clause-only : goal.returns-clause-only
returns-clause-only c = given_only record_at record_spelling IsRecordWithin record_laws (λ v. v.items) _ c.args.bytes.now c.read_rows.ensures.rows c.read_rows.ensures.fault

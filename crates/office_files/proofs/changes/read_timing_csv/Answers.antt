use Rattle.signal_records.specs.{Reading.change_at, Spelling.change_spelling, Within.current_limits, Within.IsChangeWithin}
use Rattle.office_files.proofs.{ChangesLemmas.change_laws, FileLaws.given_found, FileLaws.given_within, FileLaws.given_only}
use Rattle.office_files.proofs.changes.read_timing_csv.Goals as goal

pub returns-clause-found : goal.returns-clause-found
returns-clause-found c = given_found (change_at current_limits) (change_spelling current_limits) (IsChangeWithin current_limits) change_laws (λ v. v.items) _ c.args.bytes.now c.read_rows.ensures.rows

pub returns-clause-within : goal.returns-clause-within
returns-clause-within c = given_within (change_at current_limits) (change_spelling current_limits) (IsChangeWithin current_limits) change_laws (λ v. v.items) _ c.args.bytes.now c.read_rows.ensures.rows

pub returns-clause-only : goal.returns-clause-only
returns-clause-only c = given_only (change_at current_limits) (change_spelling current_limits) (IsChangeWithin current_limits) change_laws (λ v. v.items) _ c.args.bytes.now c.read_rows.ensures.rows c.read_rows.ensures.fault

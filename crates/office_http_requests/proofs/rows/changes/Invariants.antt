use Rattle.std.proofs.Common.{◌≡◌, Ok, take}
use Rattle.signal_records.specs.{Reading.change_at, Within.current_limits}
use Rattle.office_files.specs.CsvRow.{csv_rows}
use Rattle.office_http_requests.specs.Rows.{rows_seen}
use Rattle.office_http_requests.proofs.rows.changes.Given as goal

abbrev pub invariant-loop-index : goal.invariant-loop-index
invariant-loop-index l = csv_rows (change_at current_limits) (rows_seen (take l.index l.rows)) ≡ Ok l.changes.items

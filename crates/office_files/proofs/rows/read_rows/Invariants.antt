use Rattle.std.proofs.Common.{◌≡◌, ◌≤◌, length, map, take, Ok, vec_capacity, vec_len}
use Rattle.csv.specs.Records.{fields_of}
use Rattle.office_files.specs.CsvRow.{csv_rows}
use Rattle.office_files.proofs.rows.read_rows.Given as goal

abbrev pub invariant-loop-i : goal.invariant-loop-i
invariant-loop-i g l = record {
  rows : csv_rows g.T.CsvRow.reading (map fields_of (take l.i l.record-items)) ≡ Ok l.rows.items;
  len : vec_len l.rows ≡ l.i;
  room : length l.record-items ≤ vec_capacity l.rows;
}

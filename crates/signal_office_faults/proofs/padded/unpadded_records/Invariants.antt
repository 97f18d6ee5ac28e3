use Rattle.std.proofs.Common.{◌≡◌, ◌++◌, drop, map}
use Rattle.csv.specs.Records.{fields_of}
use Rattle.signal_office_faults.specs.Padded.{unpadded_rows}
use Rattle.signal_office_faults.proofs.padded.unpadded_records.Given as goal

-- the rows so far, and those of the records that are left
abbrev pub invariant-loop-record : goal.invariant-loop-record
invariant-loop-record l =
    map fields_of l.rows.items ++ unpadded_rows (map fields_of (drop l.record-index l.records)) ≡ unpadded_rows (map fields_of l.records)

use Rattle.std.proofs.Common.{◌≡◌, drop}
use Rattle.office_tables_sql.specs.Version.{version_of}
use Rattle.office_tables.proofs.foreign.stored_number.Given as goal

-- the rows that are left store what all do
abbrev pub invariant-loop-row : goal.invariant-loop-row
invariant-loop-row l = version_of (drop l.row-index l.rows) ≡ version_of l.rows

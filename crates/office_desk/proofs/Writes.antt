-- How many rows changes write of each table, by the counts of the shelf and by kind of command.
use Rattle.std.proofs.Common.{◌≡◌, ◌≤◌, ◌+◌, ℕ, List, [], ◌∷◌, arith}
use Rattle.cabinet_core.specs.declared.command.RecordCommand.{RecordCommand}
use Rattle.office_tables_shelf.specs.Counts.{count_of, count_at, counts_after, writes_in}
use Rattle.office_tables_shelf.proofs.CountLemmas.{one_more}
use Rattle.office_tables_shelf.specs.{Change.row_writes, Change.table_of, Content.Content, declared.counts.WriteCounts.WriteCounts, declared.rows.RowChange.RowChange, declared.rows.Table.Table}
use Rattle.office_tables_decisions.specs.RecordBounds.{most_record_writes}
use Rattle.office_desk.specs.Changes.{RiseAtMost, most_import_writes, most_writes}
use Rattle.office_machine.specs.declared.command.Command.{Command}
use Rattle.cabinet_core.specs.declared.command.RecordCommand.TheVariants as register
use Rattle.office_tables_shelf.specs.declared.rows.Table.TheVariants as table
use Rattle.office_machine.specs.declared.command.Command.TheVariants as command

-- the counts rise at most by the rows that changes write of each table
pub rises : (changes : List RowChange) (counts : WriteCounts) (other : Table) → count_of (counts_after counts changes) other ≤ count_of counts other + writes_in other changes
rises [] counts other = omega arith
rises (change ∷ changes) counts other =
    omega (arith, one_more counts (table_of change) other (row_writes change), rises changes (count_at counts (table_of change) (row_writes change)) other)

-- changes that write no more than a command may, applied where its content was read
pub rise_at_most : (tables : Content) (command : Command) (changes : List RowChange) (old new : WriteCounts)
    → ((other : Table) → writes_in other changes ≤ most_writes tables command other) → new ≡ counts_after old changes → RiseAtMost tables command old new
rise_at_most tables command changes old new few is other = rw is (omega (arith, rises changes old other, few other))

pub no_rise : (tables : Content) (command : Command) (old new : WriteCounts) → new ≡ old → RiseAtMost tables command old new
no_rise tables command old new is other = rw is (omega arith)

-- ---- rows of the register

-- a record writes no row but of the register
most_of : (tables : Content) (c : RecordCommand) (other : Table) → most_record_writes c other ≤ most_writes tables (command.Record c) other
most_of tables (register.Inspect id inspection) table.Intersection = omega arith
most_of tables _ _ = omega arith

most_among : (tables : Content) (records : List RecordCommand) (other : Table) → most_import_writes records other ≤ most_writes tables (command.Import records) other
most_among tables [] table.Intersection = omega arith
most_among tables [] other = omega arith
most_among tables (c ∷ cs) table.Intersection = omega (arith, most_of tables c table.Intersection, most_among tables cs table.Intersection)
most_among tables (c ∷ cs) other = omega (arith, most_of tables c other, most_among tables cs other)

-- a record writes at most what it may
pub record_writes : (tables : Content) (c : RecordCommand) (rows : List RowChange) → ((table : Table) → writes_in table rows ≤ most_record_writes c table)
    → (table : Table) → writes_in table rows ≤ most_writes tables (command.Record c) table
record_writes tables c rows few other = omega (arith, few other, most_of tables c other)

-- an import writes at most what its records may
pub import_writes : (tables : Content) (records : List RecordCommand) (pending : List RowChange) → ((table : Table) → writes_in table pending ≤ most_import_writes records table)
    → (table : Table) → writes_in table pending ≤ most_writes tables (command.Import records) table
import_writes tables records pending few other = omega (arith, few other, most_among tables records other)

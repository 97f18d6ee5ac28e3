-- Which rows an answered command changes.
use Rattle.std.specs.Prelude.{ℕ, ◌+◌, ◌≤◌, Bool, true, false, cond, T, List, [], ◌∷◌, length}
use Rattle.office_tables_shelf.specs.{Content.Content, Counts.count_of, Shelf.rows_of, declared.counts.WriteCounts.WriteCounts, declared.rows.Table.Table}
use Rattle.cabinet_core.specs.declared.command.RecordCommand.{RecordCommand}
use Rattle.office_tables_decisions.specs.RecordBounds.{most_record_writes}
use Rattle.office_machine.specs.declared.{command.Command.Command, reply.Reply.Reply, reply.Reply.TheVariants.Refused}
use Rattle.office_tables_shelf.specs.declared.rows.Table.TheVariants as table
use Rattle.office_machine.specs.declared.command.Command.TheVariants as command

-- the reply is a refusal
abbrev pub IsRefused : Reply → Type 0
IsRefused (Refused refusal) = Unit {0}
IsRefused _ = ⊥

-- the command is a query
abbrev pub is_query : Command → Bool
is_query (command.State id) = true
is_query (command.Timing id) = true
is_query (command.Draft id) = true
is_query (command.Cabinet id) = true
is_query (command.OpenOrders id) = true
is_query command.Stock = true
is_query (command.Overdue day) = true
is_query _ = false

-- the command is a query: it changes nothing
abbrev pub IsQueryCommand : Command → Type 0
IsQueryCommand command = T (is_query command)

-- the most rows of an intersection that a command writes: one, and a command of the register or a query none
abbrev pub most_intersection_writes : Command → ℕ
most_intersection_writes (command.Record c) = 0
most_intersection_writes (command.Import records) = 0
most_intersection_writes command = cond (is_query command) 0 1

-- the most rows of a table of the register that the records of an import write together
abbrev pub most_import_writes : List RecordCommand → Table → ℕ
most_import_writes [] table = 0
most_import_writes (c ∷ cs) table = most_record_writes c table + most_import_writes cs table

-- The most rows of each table that a command writes. Of timing and draft rows, a commit writes one for each draft row, an edit and an abandon draft rows
-- alone: one for each change, and one for each draft row.
abbrev pub most_writes : Content → Command → Table → ℕ
most_writes tables command table.Intersection = most_intersection_writes command
most_writes tables (command.Commit id clerk) table.Timing = length (rows_of id tables.draft)
most_writes tables _ table.Timing = 0
most_writes tables (command.Edit id clerk changes) table.Draft = length changes
most_writes tables (command.Commit id clerk) table.Draft = length (rows_of id tables.draft)
most_writes tables (command.Abandon id clerk) table.Draft = length (rows_of id tables.draft)
most_writes tables _ table.Draft = 0
most_writes tables (command.Record c) table = most_record_writes c table
most_writes tables (command.Import records) table = most_import_writes records table
most_writes tables _ _ = 0

-- the counts rise at most by the most that the command writes
abbrev pub RiseAtMost : Content → Command → WriteCounts → WriteCounts → Type 0
RiseAtMost tables command old new = (table : Table) → count_of new table ≤ count_of old table + most_writes tables command table

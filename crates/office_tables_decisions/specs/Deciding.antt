-- What every decision on a command promises.
use Rattle.std.specs.Prelude.{◌≡◌, ◌≢◌, ◌≤◌, [], Result, Ok, Err}
use Rattle.office_tables_shelf.specs.{Change.AddNew, Change.changed_by, Content.Content, Counts.writes_in, declared.rows.Table.Table, declared.shelf.ShelfFault.ShelfFault}
use Rattle.office_machine.specs.declared.{command.Command.Command, refusal.Refusal.TheVariants.Damaged, reply.Reply.Reply, reply.Reply.TheVariants.Imported, reply.Reply.TheVariants.Refused}
use Rattle.office_tables_decisions.specs.{declared.decided.Decided.Decided, Answers.AnswersAny, Changes.IsRefused, Changes.IsQueryCommand, Changes.most_writes, Damage.MeetsDamage, Named.RefusesBy, Named.numbers_of}
use Rattle.office_tables_shelf.specs.declared.shelf.ShelfFault.TheVariants as fault

-- The reply and what the rows make of the tables are one step; the rows are at most those of the kind of command, and none where it is refused or only asks;
-- where one is added, none stands under its key; a refusal is one of the command's table; and a row that is no record is reported as a fault, never as a reply.
pub record IsDecision (is_honest : Type 0) (tables : Content) (command : Command) (decided : Decided) : Type 0 where
  pub step : is_honest → AnswersAny tables command decided.reply (changed_by tables decided.changes.items)
  pub writes : is_honest → (table : Table) → writes_in table decided.changes.items ≤ most_writes tables command table
  pub news : is_honest → AddNew tables decided.changes.items
  pub refused : IsRefused decided.reply → decided.changes.items ≡ []
  pub query : IsQueryCommand command → decided.changes.items ≡ []
  pub named : RefusesBy (numbers_of command) decided.reply
  pub damaged : decided.reply ≢ Refused Damaged

-- The command is decided, or a fault is reported: Damaged only where a row that it reads is no record.
abbrev pub Decides : Type 0 → Content → Command → Result Decided ShelfFault → Type 0
Decides is_honest tables command (Ok decided) = IsDecision is_honest tables command decided
Decides is_honest tables command (Err why) = why ≡ fault.Damaged → is_honest → MeetsDamage tables command

-- the decision is that on an import of no records: none was added, none was there, and no row is to be changed
abbrev pub AddsNothing : Decided → Type 0
AddsNothing decided = (decided.reply ≡ Imported 0 0) × (decided.changes.items ≡ [])

-- Commands that change an office: what they make of its tables, and what a stop leaves.
use Rattle.std.specs.Prelude.{◌≡◌, ◌⊎◌, ℕ, List, Result, Ok, Err}
use Rattle.cabinet_core.specs.declared.command.RecordCommand.{RecordCommand}
use Rattle.office_desk.specs.Answers.{StandsAfterStep}
use Rattle.office_desk.specs.Running.{Answered, MakesTables, StopLeaves}
use Rattle.office_files.specs.Records.{commands_of}
use Rattle.office_machine.specs.declared.command.Command.{Command}
use Rattle.office_machine.specs.declared.command.Command.TheVariants as command
use Rattle.office_machine.specs.declared.reply.Reply.{Reply}
use Rattle.office_machine.specs.declared.reply.Reply.TheVariants as reply
use Rattle.office_tables_shelf.specs.Content.{Content}
use Rattle.office_tables_shelf.specs.declared.shelf.Shelf.{Ghosts}
use Rattle.signal_office_commands.specs.Refused.{IsUnread, fault_of}
use Rattle.signal_office_faults.specs.declared.done.Done.{Done}
use Rattle.signal_office_faults.specs.declared.fault.Fault.{Fault}
use Rattle.signal_office_faults.specs.declared.fault.Fault.TheVariants as told

-- An office was changed: nothing makes a disk clean again, or opens a database that a failure had shut; on a clean disk the tables are Made of those that an open
-- database held before; and a stop leaves what it could leave before, or tables that are After those.
pub record ChangesShelf {S : Type 0} (g : Ghosts S) (old new : S) (Made After : Content → Content → Type 0) : Type 0 where
  pub clean : g.is_clean new → g.is_clean old
  pub honest : g.is_honest new → g.is_honest old
  pub makes : MakesTables g old new Made
  pub stop : StopLeaves g old new After

-- tables after the own step of a command, whether or not it was answered
abbrev pub AfterStep : Command → Content → Content → Type 0
AfterStep asked old found = StandsAfterStep old asked found

-- ---- one command

-- a reply that is taken as it is, or the fault of a refusal
abbrev pub accept_reply : Reply → Result Reply Fault
accept_reply (reply.Refused why) = Err (fault_of why)
accept_reply other = Ok other

-- A command was run, and this is its reply, or the fault for which it was refused.
abbrev pub RunsCommand : Command → Content → Content → Result Reply Fault → Type 0
RunsCommand asked old new result = (given : Reply) × Answered old asked given new × (result ≡ accept_reply given)

-- A CHANGE of one command: it was run; or memory was refused before it, and nothing was changed.
abbrev pub Changes : Command → Content → Content → Result Reply Fault → Type 0
Changes asked old new result = RunsCommand asked old new result ⊎ ((result ≡ Err told.Memory) × (new ≡ old))

-- something is printed of a reply; a fault is given as it is
abbrev pub TellsDrop : Result Reply Fault → Result Done Fault → Type 0
TellsDrop (Ok reply) result = (done : Done) × (result ≡ Ok done)
TellsDrop (Err why) result = result ≡ Err why

-- the draft of an intersection was dropped, and something is printed of that; or the fault says why not
abbrev pub Drops : ℕ → (clerk : List ℕ) → Content → Content → Result Done Fault → Type 0
Drops id clerk old new result = (given : Result Reply Fault) × Changes (command.Abandon id clerk) old new given × TellsDrop given result

-- The records of a file were read, and the import of all of them was run; or the fault says why they were not read, and nothing was changed.
abbrev pub Imports : (csv : List ℕ) → Content → Content → Result Reply Fault → Type 0
Imports csv old new result =
    ((records : List RecordCommand) × (commands_of csv ≡ Ok records) × RunsCommand (command.Import records) old new result)
    ⊎ ((why : Fault) × (result ≡ Err why) × IsUnread (commands_of csv) why × (new ≡ old))

-- tables after the records of a file were imported, all of them
abbrev pub AfterImporting : (csv : List ℕ) → Content → Content → Type 0
AfterImporting csv old found =
    (records : List RecordCommand) × (commands_of csv ≡ Ok records) × AfterStep (command.Import records) old found

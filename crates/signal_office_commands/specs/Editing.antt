-- A plan that is edited by a CSV file: what becomes of the tables, and what is told of it.
use Rattle.std.specs.Prelude.{◌≡◌, ◌⊎◌, ◌==◌, ℕ, Bool, true, if◌then◌else◌, List, Option, Some, None, Result, Ok, Err}
use Rattle.std.specs.Result.{result_ok}
use Rattle.draft_core.specs.declared.timing.Reach.TheVariants.{Plan}
use Rattle.office_desk.specs.Asks.{IsReply, reply_to}
use Rattle.office_desk.specs.{Damage.HasDamageIn, Editing.AfterEdit, Running.WasAnswered}
use Rattle.office_desk_timing.specs.{Revising.AnswersAnyEdit, declared.revising.PlanEdit.PlanEdit}
use Rattle.office_files.specs.Changes.{changes_of}
use Rattle.office_machine.specs.declared.command.Command.TheVariants as command
use Rattle.office_machine.specs.{declared.refusal.Refusal.Refusal, declared.reply.OpenDraft.OpenDraft, declared.reply.Reply.Reply, declared.reply.RunningTiming.RunningTiming}
use Rattle.office_machine.specs.declared.reply.Reply.TheVariants as reply
use Rattle.office_tables_shelf.specs.Content.{Content}
use Rattle.signal_office_commands.specs.Refused.{IsUnread, fault_of}
use Rattle.signal_office_commands.specs.{declared.editing.Edited.Edited, declared.editing.Revised.Revised}
use Rattle.signal_office_commands.specs.declared.editing.Revised.TheVariants.{Same, Open, Committed}
use Rattle.signal_office_faults.specs.declared.fault.Fault.{Fault}
use Rattle.signal_office_faults.specs.declared.fault.Fault.TheVariants as fault
use Rattle.signal_office_line.specs.declared.job.Edit.{Edit}
use Rattle.signal_records.specs.{declared.state.DbState.DbState, declared.state.DbState.TheVariants.Normal}

-- the edit of the plan that a file asks for: the changes that it spells
pub record AsksFor (csv : List ℕ) (edit : Edit) (asked : PlanEdit) : Type 0 where
  pub changes : changes_of csv ≡ Ok asked.changes
  pub replaces : asked.replaces ≡ edit.replace
  pub commits : asked.commits ≡ edit.commit

-- An edit of a plan was answered, whichever sound office the tables stood for. Damaged is replied only where a row of the plan is no record.
abbrev pub EditAnswered : (id : ℕ) → (clerk : List ℕ) → PlanEdit → Content → Reply → Content → Type 0
EditAnswered id clerk asked = WasAnswered (λ tables. AnswersAnyEdit tables id clerk asked) (λ tables. HasDamageIn Plan tables id)

-- a draft that was read is reported as open; a refused read gives its fault
abbrev pub open_draft : Result OpenDraft Refusal → Result Revised Fault
open_draft (Ok draft) = Ok (Open draft)
open_draft (Err why) = Err (fault_of why)

-- what is told of a transaction that went on to this state: in state Normal, and there alone, that the plan was committed, with what runs if that can be read; else that the draft is open, as the office
-- shows it, or why it does not
abbrev pub TellsMove : (id : ℕ) → DbState → Content → Result Revised Fault → Type 0
TellsMove id Normal tables result =
    (read : Result RunningTiming Refusal) × IsReply tables (command.Timing id) (reply_to (λ it. reply.Timing it) read) × (result ≡ Ok (Committed (result_ok read)))
TellsMove id state tables result =
    (read : Result OpenDraft Refusal) × IsReply tables (command.Draft id) (reply_to (λ it. reply.Draft it) read) × (result ≡ open_draft read)

-- THE REPORT ON AN EDIT, by its reply: what became of the plan, if the transaction moved; that nothing changed, exactly if the office says so; and for a
-- refusal its fault
abbrev pub TellsEdit : (id : ℕ) → Reply → Content → Result Revised Fault → Type 0
TellsEdit id reply.Same tables result = result ≡ Ok Same
TellsEdit id (reply.Moved revision state verdict) tables result = TellsMove id state tables result
TellsEdit id (reply.Refused why) tables result = result ≡ Err (fault_of why)
TellsEdit id other tables result = result ≡ Err fault.Store

-- WHAT AN EDIT MAKES OF A PLAN: it is answered, and that is reported; or memory is refused, and nothing is changed
abbrev pub RevisesPlan : PlanEdit → Edit → Content → Content → Result Revised Fault → Type 0
RevisesPlan asked edit old new result =
    ((given : Reply) × EditAnswered edit.id edit.clerk asked old given new × TellsEdit edit.id given new result)
    ⊎ ((result ≡ Err fault.Memory) × (new ≡ old))

-- what became of the plan is given with the set that ran before and with notes; a fault is told as it is, or where that is asked for explained
abbrev pub TellsEdited : (told : Result Revised Fault) → (explain : Bool) → Result Edited Fault → Type 0
TellsEdited (Ok revised) explain result = (edited : Edited) × (result ≡ Ok edited) × (edited.revised ≡ revised)
TellsEdited (Err why) true result = (explained : Fault) × (result ≡ Err explained)
TellsEdited (Err why) explain result = result ≡ Err why

-- an edit is made, and what became of the plan is given with what ran before
abbrev pub EditsFrom : PlanEdit → Edit → Content → Content → Result Edited Fault → Type 0
EditsFrom asked edit old new result = (told : Result Revised Fault) × RevisesPlan asked edit old new told × TellsEdited told edit.explain result

-- the set that runs before an edit, where its revision is the one that is asked for, or none is; or the fault of another revision, or of a refused read
abbrev pub before_edit : Option ℕ → Result RunningTiming Refusal → Result RunningTiming Fault
before_edit asked (Err why) = Err (fault_of why)
before_edit None (Ok before) = Ok before
before_edit (Some revision) (Ok before) = if before.revision == revision then Ok before else Err (fault.OtherRevision before.revision)

-- the set that runs before an edit is what the office shows, if that has the revision that the edit asks for; else there is a fault
abbrev pub ShowsBefore : Edit → Content → Result RunningTiming Fault → Type 0
ShowsBefore edit tables result =
    (read : Result RunningTiming Refusal) × IsReply tables (command.Timing edit.id) (reply_to (λ it. reply.Timing it) read) × (result ≡ before_edit edit.revision read)

-- A PLAN IS EDITED ONLY IF THE COMMITTED REVISION IS THE ONE ASKED FOR, or none is; else, or if it can't be read, the fault says so, and nothing is changed
abbrev pub EditsFound : PlanEdit → Edit → Content → Content → Result Edited Fault → Type 0
EditsFound asked edit old new result =
    ((before : RunningTiming) × ShowsBefore edit old (Ok before) × EditsFrom asked edit old new result)
    ⊎ ((why : Fault) × (result ≡ Err why) × ShowsBefore edit old (Err why) × (new ≡ old))

-- AN EDIT of a plan by a file is the one that the file asks for; or the fault says why the file is not read, and nothing is changed
abbrev pub Edits : (csv : List ℕ) → Edit → Content → Content → Result Edited Fault → Type 0
Edits csv edit old new result =
    ((asked : PlanEdit) × AsksFor csv edit asked × EditsFound asked edit old new result)
    ⊎ ((why : Fault) × (result ≡ Err why) × IsUnread (changes_of csv) why × (new ≡ old))

-- tables after the whole edit that a file asks for, whether or not it was answered
abbrev pub AfterEditing : (csv : List ℕ) → Edit → Content → Content → Type 0
AfterEditing csv edit old found = (asked : PlanEdit) × AsksFor csv edit asked × AfterEdit edit.id edit.clerk asked old found

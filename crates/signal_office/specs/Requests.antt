-- What becomes of the tables of an office by each request.
use Rattle.std.specs.Prelude.{◌≡◌, ℕ, List, true, false, Result, Ok, Err}
use Rattle.office_machine.specs.declared.command.Command.{Command}
use Rattle.office_machine.specs.declared.command.Command.TheVariants as command
use Rattle.office_machine.specs.declared.reply.Reply.{Reply}
use Rattle.office_tables_shelf.specs.Content.{Content}
use Rattle.signal_office.specs.declared.asking.Outcome.{Outcome}
use Rattle.signal_office.specs.declared.asking.Outcome.TheVariants as outcome
use Rattle.signal_office_commands.specs.Changing.{AfterImporting, AfterStep, Changes, Drops, Imports}
use Rattle.signal_office_commands.specs.Editing.{AfterEditing, Edits}
use Rattle.signal_office_commands.specs.declared.editing.Edited.{Edited}
use Rattle.signal_office_faults.specs.declared.done.Done.{Done}
use Rattle.signal_office_faults.specs.declared.fault.Fault.{Fault}
use Rattle.signal_office_file.specs.Task.{Effect}
use Rattle.signal_office_file.specs.Stopping.{SameOr}
use Rattle.signal_office_line.specs.declared.job.Request.{Request}
use Rattle.signal_office_line.specs.declared.job.Request.TheVariants as request

-- the outcome is the reply to a command, or the fault in its place
abbrev pub IsReplied : Result Reply Fault → Result Outcome Fault → Type 0
IsReplied (Ok reply) result = result ≡ Ok (outcome.Replied reply)
IsReplied (Err why) result = result ≡ Err why

-- the outcome is an edit of a plan, or the fault in its place
abbrev pub IsEditedPlan : Result Edited Fault → Result Outcome Fault → Type 0
IsEditedPlan (Ok edited) result = result ≡ Ok (outcome.Edited edited)
IsEditedPlan (Err why) result = result ≡ Err why

-- the outcome is what is printed, or the fault in its place
abbrev pub IsPrinted : Result Done Fault → Result Outcome Fault → Type 0
IsPrinted (Ok done) result = result ≡ Ok (outcome.Printed done)
IsPrinted (Err why) result = result ≡ Err why

-- a request that only looks at the tables leaves them as they were, whatever it gives, and so does a stop
abbrev pub look_effect : Effect Outcome
look_effect = record { does = λ old result new. new ≡ old; leaves = λ old found. found ≡ old }

-- a change gives what it came to as the outcome; a stop leaves the tables as they were before it, or After it
abbrev pub change_effect : {T : Type 0} → (Gives : Result T Fault → Result Outcome Fault → Type 0) → (Makes : Content → Content → Result T Fault → Type 0) → (After : Content → Content → Type 0) → Effect Outcome
change_effect {T} Gives Makes After = record {
  does = λ old result new. (it : Result T Fault) × Makes old new it × Gives it result;
  leaves = SameOr After;
}

-- one command of the office is run
abbrev pub command_effect : Command → Effect Outcome
command_effect asked = change_effect IsReplied (Changes asked) (AfterStep asked)

-- WHAT BECOMES OF THE TABLES BY EACH REQUEST, with the text of the CSV file that was read for it, and the outcome
abbrev pub effect_of : Request → (text : List ℕ) → Effect Outcome
effect_of (request.Show it) text = look_effect
effect_of (request.Fill dir folder) text = look_effect
effect_of (request.Add id interval name) text = command_effect (command.AddIntersection id interval name)
effect_of (request.Import csv until true) text = look_effect
effect_of (request.Import csv until false) text = change_effect IsReplied (Imports text) (AfterImporting text)
effect_of (request.Edit edit) text = change_effect IsEditedPlan (Edits text edit) (AfterEditing text edit)
effect_of (request.Abandon id clerk) text = change_effect IsPrinted (Drops id clerk) (AfterStep (command.Abandon id clerk))

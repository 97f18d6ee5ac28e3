-- How the office answers the requests of a stream, and what rows it writes for them.
use Rattle.std.specs.Prelude.{◌≡◌, ◌⊎◌, ℕ, List, Result, Ok, Err}
use Rattle.office_desk.specs.Changes.{IsQueryCommand, IsRefused, RiseAtMost}
use Rattle.office_machine.specs.Office.{Office}
use Rattle.office_desk.specs.StandFor.{StandForSound}
use Rattle.office_machine.specs.Step.{answered}
use Rattle.office_machine.specs.declared.command.Command.{Command}
use Rattle.office_machine.specs.declared.reply.Reply.{Reply}
use Rattle.office_http_framing.specs.Front.{PlainRequest}
use Rattle.office_http_framing.specs.Protocol.{Protocol}
use Rattle.office_http_framing.specs.Stops.{Storage}
use Rattle.office_tables_shelf.specs.Content.{Content}
use Rattle.office_tables_shelf.specs.declared.counts.WriteCounts.{WriteCounts}
use Rattle.office_http_responses.specs.Answers.{answer_bytes}
use Rattle.office_http_responses.specs.Unavailable.{unavailable_bytes}
use Rattle.office_http_requests.specs.Commands.{command_at}
use Rattle.office_http_responses.specs.Faults.{ask_fault_text, framing_fault_text}
use Rattle.office_http_requests.specs.declared.command.Asked.{Asked}
use Rattle.office_http_requests.specs.declared.fault.AskFault.{AskFault}

-- the command takes its step of the office machine, and the answer has its reply in the form that
-- was asked for
pub record AnswersAsked (before : Office) (asked : Asked) (answer : List ℕ) (after : Office) : Type 0 where
  pub reply : Reply
  pub step : answered before asked.command ≡ (reply, after)
  pub text : answer ≡ answer_bytes reply asked.form

-- a command that was read takes its step; a request that was read as a fault is answered with that, and leaves the office
abbrev pub AnswersRead : Result Asked AskFault → Office → List ℕ → Office → Type 0
AnswersRead (Ok asked) before answer after = AnswersAsked before asked answer after
AnswersRead (Err fault) before answer after = (answer ≡ ask_fault_text fault) × (after ≡ before)

-- what a request is read as: a command, or a fault
abbrev pub read_of : PlainRequest → Result Asked AskFault
read_of request = command_at request.method request.path request.body

-- a request is answered as the command or the fault that it is read as
abbrev pub AnswersRequest : Office → PlainRequest → List ℕ → Office → Type 0
AnswersRequest before request answer after = AnswersRead (read_of request) before answer after

-- the command is a query, or this office refuses it
abbrev pub ChangesNothing : Office → Command → Type 0
ChangesNothing before command = IsQueryCommand command ⊎ IsRefused (answered before command).0

-- The step of a command wrote at most the rows of its kind, table by table; where it changes
-- nothing it wrote none, and the tables are the same.
pub record WritesAsked
    (before : Office) (command : Command) (held kept : Content) (old new : WriteCounts) : Type 0 where
  pub bounds : RiseAtMost held command old new
  pub nothing : ChangesNothing before command → (kept ≡ held) × (new ≡ old)

-- a command that was read wrote what it may; a request that was read as a fault wrote no row, and the tables are the same
abbrev pub WritesRead :
    Result Asked AskFault → Office → (held kept : Content) → (old new : WriteCounts) → Type 0
WritesRead (Ok asked) before held kept old new = WritesAsked before asked.command held kept old new
WritesRead (Err fault) before held kept old new = (kept ≡ held) × (new ≡ old)

-- a request wrote no more than the command or the fault that it is read as may write
abbrev pub WritesRequest :
    Office → PlainRequest → (held kept : Content) → (old new : WriteCounts) → Type 0
WritesRequest before request = WritesRead (read_of request) before

-- how the office is stored in tables, whose row writes are counted
abbrev pub office_storage : {Shelf : Type 0} →
    (Shelf → Type 0) → (Shelf → Content) → (Shelf → WriteCounts) → (Shelf → Content → Type 0) →
    Storage Shelf Office Content
office_storage is_honest content written may_leave = record {
  is_honest = is_honest;
  holds = content;
  may_leave = may_leave;
  stands = StandForSound;
  Counts = WriteCounts;
  written = written;
  may_write = WritesRequest;
}

-- the answers that the office may give to requests and to faults of the framing, and the offices that they leave
abbrev pub office_protocol : Protocol Office
office_protocol = record {
  step = AnswersRequest;
  fault_text = framing_fault_text;
  unavailable_text = unavailable_bytes;
}

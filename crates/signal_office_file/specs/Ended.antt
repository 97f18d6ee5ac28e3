-- How work over the tables of two files may end, and what the work did.
use Rattle.std.specs.Prelude.{◌≡◌, ◌⊎◌, ℕ, List, Result, Ok, Err, ⊤}
use Rattle.std.specs.Io.KnownBytes.{Appends}
use Rattle.sqlite.specs.Files.{image_of}
use Rattle.sqlite.specs.WalReads.{AreClean}
use Rattle.sqlite_disk.specs.declared.Disk.{Ghosts as Disk}
use Rattle.sqlite_disk.specs.declared.Files.{Files}
use Rattle.office_desk.specs.StandFor.{StandForSound}
use Rattle.office_http.specs.Laws.{KeepsLaws}
use Rattle.office_http.specs.Protocol.{office_protocol}
use Rattle.office_http_framing.specs.Ends.{FailsOrGivesNone, Told}
use Rattle.office_http_framing.specs.Front.{PlainRequest}
use Rattle.office_http_framing.specs.Serve.{Did, Ends, TellsFault}
use Rattle.office_http_framing.specs.declared.engine.Served.{Served}
use Rattle.office_http_framing.specs.declared.engine.ServeFault.{ServeFault}
use Rattle.office_machine.specs.Office.{Office}
use Rattle.office_tables_shelf.specs.Content.{Content}
use Rattle.signal_office_faults.specs.Stream.{fault_of_stream}
use Rattle.signal_office_faults.specs.declared.fault.Fault.{Fault}
use Rattle.signal_office_faults.specs.declared.fault.Fault.TheVariants as fault
use Rattle.signal_office_file.specs.Files.{HoldAlone, HoldIn, KeepTables}
use Rattle.signal_office_file.specs.Left.{IsCleanFile, IsRefusedIn, IsStoreOrMemory, LeavesTables}
use Rattle.signal_office_file.specs.Stopping.{AnswersToAStop}
use Rattle.signal_office_file.specs.Task.{Effect}
use Rattle.signal_office_file.specs.declared.ended.Ended.{Ended}
use Rattle.signal_office_file.specs.declared.ended.Ended.TheVariants.{Refused, Closed, Unclosed}

-- What work over the tables of a file does, by what it gave.
pub record Work (T : Type 0) : Type 1 where
  -- from the first tables the work gave this and made the second ones, which are kept
  pub does : Content → T → Content → Type 0
  -- begun over these tables the work gave this; `leaves Such` says that a stop leaves only tables for which `Such` holds
  pub stops : Content → T → (leaves : (Content → Type 0) → Type 0) → Type 0
  -- nothing was done
  pub untouched : Type 0
  -- what is true of what the work gave, whatever the disk did
  pub begun : T → Type 0
  -- the fault that is reported if the work gave this and the file was not closed
  pub unclosed : T → Fault → Type 0

-- the fault that is reported of work whose file was not closed: that of the work, if it had one, or else that of closing, which is Store or Memory
abbrev pub TellsUnclosed : {T Cause : Type 0} → (fault_of : Cause → Fault) → Result T Cause → Fault → Type 0
TellsUnclosed fault_of (Ok done) why = IsStoreOrMemory why
TellsUnclosed fault_of (Err cause) why = why ≡ fault_of cause

-- The work gave this, and the files were closed. If their disk is clean, which returned what was written, it was clean before, and the work was done,
-- once, over the tables that the files held; the tables that it made are kept in the closed files.
pub record ClosedOver {D : Type 0} (g : Disk D) {T : Type 0} (files : Files D) (work : Work T) (done : T) (back : Files D) : Type 0 where
  pub begun : work.begun done
  pub clean : AreClean g back.log back.db → AreClean g files.log files.db
  pub made : AreClean g back.log back.db → (old : Content) × (new : Content) × HoldIn (image_of g files) old × work.does old done new × KeepTables g back new

module _ {D : Type 0} {g : Disk D} {T : Type 0} (files : Files D) (work : Work T) where
  -- How the work ended. Where the files were refused, nothing was done. Where they could not be closed, the fault is that of the work or of closing, and on a
  -- clean disk a stop leaves of them what the work lets it.
  abbrev pub EndsOver : Ended T D g → Type 0
  EndsOver (Refused why left) = work.untouched × IsRefusedIn files why left
  EndsOver (Closed done back) = ClosedOver g files work done back
  EndsOver (Unclosed why left) =
      (done : T) × work.begun done × work.unclosed done why × (IsCleanFile left → (old : Content) × HoldIn (image_of g files) old × work.stops old done (LeavesTables left))

-- the work of a task over the tables of a file; `untouched` says that nothing was done
abbrev pub task_work : {T : Type 0} → Effect T → (untouched : Type 0) → Work (Result T Fault)
task_work effect untouched = record {
  does = effect.does;
  stops = λ old done leaves. leaves (effect.leaves old);
  untouched = untouched;
  begun = λ done. ⊤;
  unclosed = TellsUnclosed (λ why. why);
}

-- The requests were run from the office `before`, with these answers and by the laws of the office, and the tables stand for the office `after`, which is
-- sound.
pub record RunsOver (new : Content) (before after : Office) (requests : List PlainRequest) (answers : List (List ℕ)) : Type 0 where
  pub laws : KeepsLaws before requests answers after
  pub stands : StandForSound new after

-- from whichever sound office the old tables stood for, a stream of at most `limit` requests was served between these moments of its ends, with this
-- outcome, and the new tables stand for the office after it
abbrev pub ServesStoredOffice : ℕ → Ends → Ends → Content → Result Served ServeFault → Content → Type 0
ServesStoredOffice limit start end old outcome new = (before : Office) → StandForSound old before → (after : Office) × Did office_protocol (RunsOver new before after) limit start end outcome

-- the work of answering at most `limit` requests of a stream between these moments of its ends; the outcome is Read or Write only if a call of that end
-- failed, or the sink took no byte
abbrev pub stream_work : ℕ → Ends → Ends → (untouched : Type 0) → Work (Result Served ServeFault)
stream_work limit start end untouched = record {
  does = ServesStoredOffice limit start end;
  stops = AnswersToAStop limit start end;
  untouched = untouched;
  begun = TellsFault start end;
  unclosed = TellsUnclosed fault_of_stream;
}

-- why bytes were not copied: the file could not be read; or memory was refused, and nothing was written; or the output failed or took no byte
abbrev pub IsUncopied : (start end : Told) → Fault → Type 0
IsUncopied start end why =
    (why ≡ fault.Store) ⊎ (((why ≡ fault.Memory) × (end ≡ start)) ⊎ ((why ≡ fault.Write) × FailsOrGivesNone start.counts end.counts))

-- the output took the bytes of a file that, alone, holds these tables; or this fault says why not all were copied
abbrev pub IsCopyOf : (start end : Told) → Content → Result ⊤ Fault → Type 0
IsCopyOf start end tables (Ok done) = (bytes : List ℕ) × Appends start.bytes end.bytes bytes × HoldAlone bytes tables
IsCopyOf start end tables (Err why) = IsUncopied start end why

-- the work of copying a file to an output that was as `start` before and is as `end` after it; the tables stay as they were, also after a stop
abbrev pub copy_work : (start end : Told) → Work (Result ⊤ Fault)
copy_work start end = record {
  does = λ old done new. (new ≡ old) × IsCopyOf start end old done;
  stops = λ old done leaves. leaves (λ found. found ≡ old);
  untouched = end ≡ start;
  begun = λ done. ⊤;
  unclosed = TellsUnclosed (λ why. why);
}

-- the result of work, if its files were closed; else the fault with which they were refused or not closed
abbrev pub told_by : {D : Type 0} {g : Disk D} {T : Type 0} → Ended T D g → Result T Fault
told_by (Refused why left) = Err why
told_by (Closed done back) = Ok done
told_by (Unclosed why left) = Err why

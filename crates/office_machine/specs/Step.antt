-- One step of the office machine, and its runs.
use Rattle.std.specs.Prelude.{◌≡◌, ◌⊎◌, ℕ, ◌+◌, Bool, true, false, List, [], ◌∷◌, ◌==◌, ◌&&◌, if◌then◌else◌, map, Option, Some, None, is_some, Result, Ok, Err}
use Rattle.std.specs.{Option.option_map, Str.bytes_eq}
use Rattle.std.specs.FinMap.{get, insert, len, entries}
use Rattle.signal_rules.specs.Violations.{violations_of}
use Rattle.draft_core.specs.Transaction.{TimingSide, Draft, state_of, verdict_of, table_line}
use Rattle.draft_core.specs.declared.refusal.DraftRefusal.{DraftRefusal}
use Rattle.cabinet_core.specs.Cabinet.{Line, added as added_line, same as same_line, refused as refused_line}
use Rattle.cabinet_core.specs.{Overdue.Listed, Overdue.last_at, Overdue.overdue_list, declared.command.RecordCommand.RecordCommand, declared.overdue_inspections.Seen.Seen, declared.refusal.CabinetRefusal.CabinetRefusal, Orders.open_at, Register.Register, Register.records_at, Step.line_at, Step.with_record, Step.after_record, Stock.stock_of}
use Rattle.office_machine.specs.{declared.reply.CabinetShown.CabinetShown, declared.command.Command.Command, declared.reply.Reply.Reply, declared.reply.IntersectionState.IntersectionState, declared.reply.RunningTiming.RunningTiming, declared.refusal.Refusal.Refusal, Refusal.line_of}
use Rattle.office_machine.specs.declared.reply.Reply.TheVariants.{Added, Same, Moved, Imported, State as Shown, Timing as Running, Draft as Drafted, Cabinet, OpenOrders, Stock, Overdue, Refused}
use Rattle.office_machine.specs.Office.{Office, Intersection, IsSound, no_timing}
use Rattle.draft_core.specs.declared.step.Step.TheVariants as step
use Rattle.draft_core.specs.declared.refusal.DraftRefusal.TheVariants as draft
use Rattle.cabinet_core.specs.declared.command.RecordCommand.TheVariants as register
use Rattle.cabinet_core.specs.declared.refusal.CabinetRefusal.TheVariants as cabinet
use Rattle.office_machine.specs.declared.command.Command.TheVariants as command
use Rattle.office_machine.specs.declared.refusal.Refusal.TheVariants as refusal

-- the office with an intersection more, or with another in its place
abbrev pub with_intersection : Office → ℕ → Intersection → Office
with_intersection office id i = record office { intersections = insert office.intersections id i }

-- ---- AddIntersection

-- a new intersection: no plan was committed, and nobody holds a draft
abbrev pub new_intersection : ℕ → List ℕ → Intersection
new_intersection interval name = record { name = name; interval = interval; timing = no_timing }

-- an intersection is added if none has its number; if one has it, the office stays as it was: the reply is Same if
-- name and interval are equal, else IntersectionDiffers
abbrev pub add_step : Office → ℕ → ℕ → List ℕ → Option Intersection → Reply × Office
add_step office id interval name None = (Added, with_intersection office id (new_intersection interval name))
add_step office id interval name (Some i) = (if bytes_eq i.name name && (i.interval == interval) then Same else Refused refusal.IntersectionDiffers, office)

-- ---- the transaction

-- a refusal of the transaction as one of the office: NoMemory is Unavailable, any other keeps its number and name
abbrev pub refusal_of_draft : DraftRefusal → Refusal
refusal_of_draft draft.NoMemory = refusal.Unavailable
refusal_of_draft why = refusal.Draft why

-- the reply to an accepted step of the transaction: the revision, the state and the verdict on the draft
abbrev pub moved_to : TimingSide → Reply
moved_to side = Moved side.revision (state_of side.draft) (verdict_of side.draft)

-- a line of the transaction's table as reply and next office; a refusal leaves the office as it was
abbrev pub moved : Office → ℕ → Intersection → Result TimingSide DraftRefusal → Reply × Office
moved office id i (Ok next) = (moved_to next, with_intersection office id (record i { timing = next }))
moved office id i (Err why) = (Refused (refusal_of_draft why), office)

-- a step of the transaction on an intersection, by its line of the table; without an intersection, the reply is
-- UnknownIntersection
abbrev pub transacted : Office → ℕ → (TimingSide → Result TimingSide DraftRefusal) → Option Intersection → Reply × Office
transacted office id line None = (Refused refusal.UnknownIntersection, office)
transacted office id line (Some i) = moved office id i (line i.timing)

-- ---- queries

-- an intersection as the query State shows it
abbrev pub state_shown : ℕ → Intersection → IntersectionState
state_shown id i = record {
  id = id;
  interval = i.interval;
  name = i.name;
  owner = option_map (λ (d : Draft). d.owner) i.timing.draft;
  revision = i.timing.revision;
  rows = len i.timing.committed;
  state = state_of i.timing.draft;
  verify = verdict_of i.timing.draft;
}

-- what the query Timing shows: the committed set, how often a set was committed, and the intersection's name
abbrev pub timing_shown : Intersection → RunningTiming
timing_shown i = record {
  name = i.name;
  revision = i.timing.revision;
  rows = i.timing.committed;
}

-- what the query Draft shows of a draft, with the rules that it breaks; without a draft, the refusal NotTransaction
abbrev pub draft_shown : Option Draft → Reply
draft_shown None = Refused (refusal.Draft draft.NotTransaction)
draft_shown (Some d) = Drafted (record { owner = d.owner; rows = d.set; violations = violations_of d.set })

-- what a query shows of an intersection; without one, the refusal UnknownIntersection
abbrev pub shown : Option Intersection → (Intersection → Reply) → Reply
shown None show = Refused refusal.UnknownIntersection
shown (Some i) show = show i

-- ---- the register

-- a refusal of the register as one of the office: NoMemory is Unavailable, any other keeps its number and name
abbrev pub refusal_of_record : CabinetRefusal → Refusal
refusal_of_record cabinet.NoMemory = refusal.Unavailable
refusal_of_record why = refusal.Cabinet why

-- a line of the register's table as a reply
abbrev pub reply_of : Line → Reply
reply_of added_line = Added
reply_of same_line = Same
reply_of (refused_line why) = Refused (refusal_of_record why)

-- the reply to a command of the register, and the next office, by the command's line of the register's table
abbrev pub record_step : Office → RecordCommand → Reply × Office
record_step office command = (reply_of (line_at office.register command), record office { register = after_record office.register command })

-- the intersection whose cabinet a command is about; a delivery is about none
abbrev pub cabinet_of : RecordCommand → Option ℕ
cabinet_of (register.Inspect id inspection) = Some id
cabinet_of (register.OpenOrder id opening) = Some id
cabinet_of (register.UsePart id line) = Some id
cabinet_of (register.CloseOrder id order closing) = Some id
cabinet_of (register.Receive delivery) = None

-- this answer, if the command's intersection exists; else UnknownIntersection, which leaves the office as it was
abbrev pub step_if_known : Office → Option Intersection → Reply × Office → Reply × Office
step_if_known office None answer = (Refused refusal.UnknownIntersection, office)
step_if_known office (Some i) answer = answer

-- the answer to a command of the register about an intersection, which has to exist, or about none
abbrev pub recorded_at : Office → Option ℕ → Reply × Office → Reply × Office
recorded_at office None answer = answer
recorded_at office (Some id) answer = step_if_known office (get office.intersections id) answer

-- the intersection exists, or none is named
abbrev pub is_known : Office → Option ℕ → Bool
is_known office None = true
is_known office (Some id) = is_some (get office.intersections id)

-- ---- imports

-- the office with what a record brings into the register
abbrev pub with_recorded : Office → RecordCommand → Office
with_recorded office c = record office { register = with_record office.register c }

-- what a record of an import does, at this place, counted from 1: it is added, or was recorded already, or ends the
-- import with its refusal
abbrev pub import_by : {X : Type 0} → (at : ℕ) (is_there : Bool) → Line → (added same : Result X Refusal) → Result X Refusal
import_by at false line added same = Err (refusal.ImportRow at (line_of refusal.UnknownIntersection).number)
import_by at true added_line added same = added
import_by at true same_line added same = same
import_by at true (refused_line why) added same = Err (refusal.ImportRow at (line_of (refusal_of_record why)).number)

-- the steps of records in turn: how many were added, how many were recorded already, and the office after them; or
-- the first refusal
abbrev pub import_from : (at added same : ℕ) → Office → List RecordCommand → Result (ℕ × ℕ × Office) Refusal
import_from at added same office [] = Ok (added, same, office)
import_from at added same office (c ∷ cs) =
    import_by at (is_known office (cabinet_of c)) (line_at office.register c)
    (import_from (at + 1) (added + 1) same (with_recorded office c) cs)
    (import_from (at + 1) added (same + 1) office cs)

-- the reply to an import, and the next office: all of the records are in it, or a refusal leaves the office as it was
abbrev pub import_step : Office → Result (ℕ × ℕ × Office) Refusal → Reply × Office
import_step office (Ok done) = (Imported done.0 done.1, done.2)
import_step office (Err why) = (Refused why, office)

-- ---- reports

-- what is known of an intersection and its inspections
abbrev pub seen_of : Register → ℕ × Intersection → Seen
seen_of r e = record { id = e.0; name = e.1.name; interval = e.1.interval; last = last_at r e.0 }

-- all that the register holds of an intersection
abbrev pub cabinet_shown : Register → ℕ → CabinetShown
cabinet_shown r id = record {
  id = id;
  view = record {
    inspections = records_at id r.inspections;
    orders = records_at id r.orders;
    lines = records_at id r.lines;
  };
}

-- the intersections that are overdue on a day
abbrev pub overdue_on : Office → ℕ → List Listed
overdue_on office day = overdue_list day (map (seen_of office.register) (entries office.intersections))

-- ---- the machine

-- the reply to a command, and the next office, as the command's own step gives them
abbrev pub answered : Office → Command → Reply × Office
answered office (command.AddIntersection id interval name) = add_step office id interval name (get office.intersections id)
answered office (command.Begin id clerk) = transacted office id (table_line step.Begin clerk) (get office.intersections id)
answered office (command.Edit id clerk changes) = transacted office id (table_line (step.Edit changes) clerk) (get office.intersections id)
answered office (command.Verify id clerk) = transacted office id (table_line step.Verify clerk) (get office.intersections id)
answered office (command.Check id clerk) = transacted office id (table_line step.Check clerk) (get office.intersections id)
answered office (command.Commit id clerk) = transacted office id (table_line step.Commit clerk) (get office.intersections id)
answered office (command.Reopen id clerk) = transacted office id (table_line step.Reopen clerk) (get office.intersections id)
answered office (command.Abandon id clerk) = transacted office id (table_line step.Abandon clerk) (get office.intersections id)
answered office (command.State id) = (shown (get office.intersections id) (λ i. Shown (state_shown id i)), office)
answered office (command.Timing id) =
    (shown (get office.intersections id) (λ i. Running (timing_shown i)), office)
answered office (command.Draft id) = (shown (get office.intersections id) (λ i. draft_shown i.timing.draft), office)
answered office (command.Record c) = recorded_at office (cabinet_of c) (record_step office c)
answered office (command.Import records) = import_step office (import_from 1 0 0 office records)
answered office (command.Cabinet id) = (shown (get office.intersections id) (λ i. Cabinet (cabinet_shown office.register id)), office)
answered office (command.OpenOrders id) = (shown (get office.intersections id) (λ i. OpenOrders (open_at office.register id)), office)
answered office command.Stock = (Stock (stock_of office.register), office)
answered office (command.Overdue day) = (Overdue (overdue_on office day), office)

-- A command takes its step, or is answered Unavailable and leaves the office as it was.
abbrev pub Step : Office → Command → Reply → Office → Type 0
Step office command reply next = ((reply ≡ Refused refusal.Unavailable) × (next ≡ office)) ⊎ (answered office command ≡ (reply, next))

-- commands in turn, each with its reply: each takes its step in the office that the one before it left, from the
-- first office to the last
abbrev pub Run : Office → List Command → List Reply → Office → Type 0
Run office [] [] last = last ≡ office
Run office (command ∷ commands) (reply ∷ replies) last = (mid : Office) × Step office command reply mid × Run mid commands replies last
Run office _ _ last = ⊥

-- every office of a run is sound: the first, those in between and the last
abbrev pub AreSound : (first : Office) (commands : List Command) (replies : List Reply) (last : Office) → Run first commands replies last → Type 0
AreSound first [] [] last run = IsSound first
AreSound first (command ∷ commands) (reply ∷ replies) last run = IsSound first × AreSound run.0 commands replies last run.2
AreSound first _ _ last run = Unit {0}

-- The JSON trees of replies, each object's keys in ascending order.
use Rattle.std.specs.Prelude.{ℕ, List, [], ◌∷◌, codes}
use Rattle.std.specs.FinMap.{values}
use Rattle.serde_json.specs.Data.{Data}
use Rattle.draft_core.specs.declared.refusal.DraftRefusal.TheVariants.{VerifyFailed}
use Rattle.signal_records.specs.declared.state.Verdict.{Verdict}
use Rattle.signal_records.specs.declared.state.Verdict.TheVariants.{NotDone, DoneWithError, DoneWithNoError}
use Rattle.office_machine.specs.Refusal.{RefusalLine, line_of}
use Rattle.office_machine.specs.States.{state_name}
use Rattle.office_machine.specs.declared.refusal.Refusal.{Refusal}
use Rattle.office_machine.specs.declared.refusal.Refusal.TheVariants as refusal
use Rattle.office_machine.specs.declared.reply.IntersectionState.{IntersectionState}
use Rattle.office_machine.specs.declared.reply.OpenDraft.{OpenDraft}
use Rattle.office_machine.specs.declared.reply.Reply.{Reply}
use Rattle.office_machine.specs.declared.reply.Reply.TheVariants.{Added, Same, Moved, Imported, State, Timing, Draft, Cabinet, OpenOrders, Stock, Overdue, Refused}
use Rattle.office_machine.specs.declared.reply.RunningTiming.{RunningTiming}
use Rattle.office_http_responses.specs.Json.{count, text, or_null, array_of, keys}
use Rattle.office_http_requests.specs.declared.form.Form.{Form}
use Rattle.office_http_requests.specs.declared.form.Form.TheVariants.{Json, Csv}
use Rattle.office_files.specs.Records.{records_csv_text}
use Rattle.office_files.specs.Timing.{timing_csv_text}
use Rattle.office_http_responses.specs.RegisterTrees.{cabinet_tree, open_tree, stock_tree, overdue_tree}
use Rattle.signal_records.specs.Spelling.{spelling}
use Rattle.signal_records.specs.TimingSet.{Rows}
use Rattle.signal_records.specs.Within.{current_limits}
use Rattle.signal_records.specs.declared.record.Row.{Row}
use Rattle.signal_rules.specs.Texts.{rule_text, subject_text}
use Rattle.signal_rules.specs.declared.violation.Violation.{Violation}

-- the name of a verdict, as the verify status has it (NTCIP 1201, dbVerifyStatus)
abbrev pub verdict_name : Verdict → List ℕ
verdict_name NotDone = codes "notDone"
verdict_name DoneWithError = codes "doneWithError"
verdict_name DoneWithNoError = codes "doneWithNoError"

-- the tree of a refusal that shows only its name and its number
abbrev pub error_tree : RefusalLine → Data
error_tree line = keys ((codes "error", text line.name) ∷ (codes "number", count line.number) ∷ [])

-- the tree of a refusal: its name and its number; for VerifyFailed also how often the draft breaks rules;
-- for ImportRow also which record was refused, counted from 1, and the number of its refusal
abbrev pub refusal_tree : Refusal → Data
refusal_tree (refusal.Draft (VerifyFailed violations)) =
    keys (
    (codes "count", count violations)
    ∷ (codes "error", text (line_of (refusal.Draft (VerifyFailed violations))).name)
    ∷ (codes "number", count (line_of (refusal.Draft (VerifyFailed violations))).number)
    ∷ []
    )
refusal_tree (refusal.ImportRow at cause) =
    keys (
    (codes "cause", count cause)
    ∷ (codes "error", text (line_of (refusal.ImportRow at cause)).name)
    ∷ (codes "number", count (line_of (refusal.ImportRow at cause)).number)
    ∷ (codes "record", count at)
    ∷ []
    )
refusal_tree why = error_tree (line_of why)

-- what the query State shows of an intersection; the owner is null where nobody holds a draft
abbrev pub state_tree : IntersectionState → Data
state_tree shown =
    keys (
    (codes "id", count shown.id)
    ∷ (codes "interval", count shown.interval)
    ∷ (codes "name", text shown.name)
    ∷ (codes "owner", or_null text shown.owner)
    ∷ (codes "revision", count shown.revision)
    ∷ (codes "rows", count shown.rows)
    ∷ (codes "state", text (state_name shown.state))
    ∷ (codes "verify", text (verdict_name shown.verify))
    ∷ []
    )

-- a timing row, as the array of its fields, which are texts
abbrev pub row_tree : Row → Data
row_tree row = array_of text (spelling current_limits row)

-- the rows of a timing set, in the order of their keys
abbrev pub rows_tree : Rows → Data
rows_tree set = array_of row_tree (values set)

-- the tree of a violation: the rule, and the subject that breaks it
abbrev pub violation_tree : Violation → Data
violation_tree violation =
    keys ((codes "rule", text (rule_text violation.rule)) ∷ (codes "subject", text (subject_text violation.subject)) ∷ [])

-- what the query Timing shows of an intersection: its revision and its committed rows
abbrev pub timing_tree : RunningTiming → Data
timing_tree shown = keys ((codes "revision", count shown.revision) ∷ (codes "rows", rows_tree shown.rows) ∷ [])

-- what the query Draft shows of an intersection: the draft's owner, its rows and the rules that they break
abbrev pub draft_tree : OpenDraft → Data
draft_tree shown =
    keys (
    (codes "owner", text shown.owner)
    ∷ (codes "rows", rows_tree shown.rows)
    ∷ (codes "violations", array_of violation_tree shown.violations)
    ∷ []
    )

-- the tree of a reply in JSON
abbrev pub tree_of : Reply → Data
tree_of Added = keys ((codes "result", text (codes "added")) ∷ [])
tree_of Same = keys ((codes "result", text (codes "same")) ∷ [])
tree_of (Moved revision state verdict) =
    keys ((codes "revision", count revision) ∷ (codes "state", text (state_name state)) ∷ (codes "verify", text (verdict_name verdict)) ∷ [])
tree_of (Imported added same) = keys ((codes "added", count added) ∷ (codes "same", count same) ∷ [])
tree_of (State shown) = state_tree shown
tree_of (Timing shown) = timing_tree shown
tree_of (Draft shown) = draft_tree shown
tree_of (Cabinet shown) = cabinet_tree shown.view.inspections shown.view.orders shown.view.lines
tree_of (OpenOrders numbers) = open_tree numbers
tree_of (Stock parts) = stock_tree parts
tree_of (Overdue rows) = overdue_tree rows
tree_of (Refused why) = refusal_tree why

-- a CSV text, under the one key of an object
abbrev pub csv_tree : List ℕ → Data
csv_tree csv = keys ((codes "csv", text csv) ∷ [])

-- the tree of a reply in CSV, which Timing and Cabinet have; any other reply, Draft too, is as in JSON
abbrev pub csv_tree_of : Reply → Data
csv_tree_of (Timing shown) = csv_tree (timing_csv_text shown.rows)
csv_tree_of (Cabinet shown) = csv_tree (records_csv_text shown.id shown.view)
csv_tree_of reply = tree_of reply

-- the tree of a reply in a form
abbrev pub tree_in : Form → Reply → Data
tree_in Json reply = tree_of reply
tree_in Csv reply = csv_tree_of reply

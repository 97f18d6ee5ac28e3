-- How a clerk's edit of a plan is answered: as a run of the steps of a revision by the office machine, all of them or none.
use Rattle.std.specs.Prelude.{◌≡◌, ◌≢◌, ◌⊎◌, ◌≤◌, ℕ, List, [], ◌∷◌, length, map, if◌then◌else◌, Option, Some, None, Result, Ok, Err}
use Rattle.std.specs.FinMap.{empty, get}
use Rattle.draft_core.specs.{Revising.base_of, Revising.revision_steps, Transaction.TimingSide, Within.AreChangesWithin, declared.timing.Timing.Timing}
use Rattle.office_desk_timing.specs.declared.revising.PlanEdit.{PlanEdit}
use Rattle.office_machine.specs.{Office.Intersection, Office.Office, Office.side_at, Step.answered, declared.command.Command.Command, declared.reply.Reply.Reply, declared.refusal.Refusal.TheVariants.Damaged, declared.refusal.Refusal.TheVariants.Unavailable, declared.refusal.Refusal.TheVariants.UnknownIntersection, declared.reply.Reply.TheVariants.Moved, declared.reply.Reply.TheVariants.Refused, declared.reply.Reply.TheVariants.Same}
use Rattle.office_tables_decisions.specs.{Asking.asking_command, Changes.IsRefused, Damage.HasDamageIn, StandFor.StandForSound, declared.decided.Decided.Decided}
use Rattle.office_tables_shelf.specs.{Change.AddNew, Change.changed_by, Content.Content, Counts.writes_in, Shelf.rows_of, declared.rows.RowChange.RowChange, declared.shelf.ShelfFault.ShelfFault}
use Rattle.signal_plans.specs.{Difference.AreTold, Difference.difference_changes, declared.difference.Difference.Difference}
use Rattle.signal_records.specs.{TimingSet.Rows, TimingSet.after_changes, declared.record.Change.Change, declared.state.DbState.TheVariants.Normal}
use Rattle.draft_core.specs.declared.timing.Reach.TheVariants as reach
use Rattle.office_tables_shelf.specs.declared.rows.Table.TheVariants as table
use Rattle.office_tables_shelf.specs.declared.shelf.ShelfFault.TheVariants as fault

-- ---- commands, all of them or none

-- a refusal ends a run of commands, and the office is as it was before the first; any other reply goes on
abbrev pub unless_refused : (before : Office) → Reply → (more : Reply × Office) → Reply × Office
unless_refused before (Refused why) more = (Refused why, before)
unless_refused before reply more = more

-- ALL OR NONE: the last reply and the office after these commands, each answered by the office that the one before it left; or the first refusal, and the
-- office before the first command
abbrev pub all_or_none : (before now : Office) → (last : Reply) → List Command → Reply × Office
all_or_none before now last [] = (last, now)
all_or_none before now last (asked ∷ more) =
    unless_refused before (answered now asked).0 (all_or_none before (answered now asked).1 (answered now asked).0 more)

-- ---- what an edit asks for

-- the plan that an edit makes of these rows: what its changes make of none, where they are the whole plan; else of the rows
abbrev pub plan_from : PlanEdit → Rows → Rows
plan_from edit rows = after_changes (if edit.replaces then empty else rows) edit.changes

-- the plan that an edit asks for, of the rows that a revision goes on with
abbrev pub plan_asked : PlanEdit → TimingSide → Rows
plan_asked edit side = plan_from edit (base_of side)

-- nothing is to be done: nobody owns a draft, and the plan is the committed set
abbrev pub IsCommittedAlready : PlanEdit → TimingSide → Type 0
IsCommittedAlready edit side = (side.draft ≡ None) × (plan_asked edit side ≡ side.committed)

-- AN EDIT, of an intersection that is there or not. Where nothing is to be done, the reply is Same. Else edits within their limits make the plan, and the reply
-- and the next office are those of the steps of a revision by these edits, as commands of the clerk, all or none
abbrev pub EditsOffice : Office → ℕ → (clerk : List ℕ) → PlanEdit → Option Intersection → Reply → Office → Type 0
EditsOffice office id clerk edit None reply next = (reply ≡ Refused UnknownIntersection) × (next ≡ office)
EditsOffice office id clerk edit (Some i) reply next =
    (IsCommittedAlready edit i.timing × (reply ≡ Same) × (next ≡ office))
    ⊎ ((IsCommittedAlready edit i.timing → ⊥) × (edits : List Change) × AreChangesWithin edits × (after_changes (base_of i.timing) edits ≡ plan_asked edit i.timing)
    × (all_or_none office office Same (map (asking_command id clerk) (revision_steps i.timing edits edit.commits)) ≡ (reply, next)))

-- ---- over tables

-- From an office, the reply is that of an edit, or Unavailable, and the tables stand for a sound office after it.
pub record AnswersEdit (office : Office) (id : ℕ) (clerk : List ℕ) (edit : PlanEdit) (reply : Reply) (tables : Content) : Type 0 where
  pub next : Office
  pub step : ((reply ≡ Refused Unavailable) × (next ≡ office)) ⊎ EditsOffice office id clerk edit (get office.intersections id) reply next
  pub stand : StandForSound tables next

-- Whichever sound office the old tables stand for, the reply and the new tables are those of one edit of it.
abbrev pub AnswersAnyEdit : Content → ℕ → (clerk : List ℕ) → PlanEdit → Reply → Content → Type 0
AnswersAnyEdit old id clerk edit reply new = (office : Office) → StandForSound old office → AnswersEdit office id clerk edit reply new

-- How many rows an edit writes that was answered so. A commit writes a timing row for each key at which the plan differs from the committed set, and drops each
-- draft row; a draft that stays open has at most one write for each key at which the plan differs from it; either writes the
-- intersection's row once. Any other answer writes none.
abbrev pub EditWrites : Content → ℕ → PlanEdit → TimingSide → Reply → List RowChange → Type 0
EditWrites tables id edit side (Moved revision Normal verdict) changes =
    (found : List Difference) × AreTold side.committed (plan_asked edit side) found
    × (writes_in table.Intersection changes ≡ 1) × (writes_in table.Timing changes ≡ length found)
    × (writes_in table.Draft changes ≡ length (rows_of id tables.draft))
EditWrites tables id edit side (Moved revision state verdict) changes =
    (found : List Difference) × AreTold (base_of side) (plan_asked edit side) found
    × (writes_in table.Intersection changes ≡ 1) × (writes_in table.Timing changes ≡ 0) × (writes_in table.Draft changes ≤ length found)
EditWrites tables id edit side reply changes = changes ≡ []

-- in each sound office that the tables stand for, an edit writes so many rows
abbrev pub WritesForEdit : Content → ℕ → PlanEdit → Reply → List RowChange → Type 0
WritesForEdit tables id edit reply changes =
    (office : Office) → StandForSound tables office → EditWrites tables id edit (side_at office id) reply changes

-- the reply says that the transaction went on
abbrev pub IsMoved : Reply → Type 0
IsMoved (Moved revision state verdict) = Unit {0}
IsMoved reply = ⊥

-- The reply and what the rows make of the tables are one edit; where a row is added, none stands under its key; some are written where the transaction went on,
-- and none where the edit is refused; and Damaged is told only where the intersection's row or a row of its plan is no record.
pub record IsEditDecision (is_honest : Type 0) (tables : Content) (id : ℕ) (clerk : List ℕ) (edit : PlanEdit) (reply : Reply) (changes : List RowChange) : Type 0 where
  pub step : is_honest → AnswersAnyEdit tables id clerk edit reply (changed_by tables changes)
  pub writes : is_honest → WritesForEdit tables id edit reply changes
  pub news : is_honest → AddNew tables changes
  pub made : IsMoved reply → changes ≢ []
  pub refused : IsRefused reply → changes ≡ []
  pub damaged : reply ≡ Refused Damaged → is_honest → HasDamageIn reach.Plan tables id

-- The edit is decided, or a fault is reported: Damaged only where the intersection's row or a row of its plan is no record.
abbrev pub DecidesEdit : Type 0 → Content → ℕ → (clerk : List ℕ) → PlanEdit → Result Decided ShelfFault → Type 0
DecidesEdit is_honest tables id clerk edit (Ok decided) = IsEditDecision is_honest tables id clerk edit decided.reply decided.changes.items
DecidesEdit is_honest tables id clerk edit (Err why) = why ≡ fault.Damaged → is_honest → HasDamageIn reach.Plan tables id

-- ---- by what was read

-- the changes that make the second set of the first: one for each of their differences, in the order of the keys
pub record AreChangesTo (first second : Rows) (changes : List Change) : Type 0 where
  pub found : List Difference
  pub told : AreTold first second found
  pub are : changes ≡ difference_changes found
  pub make : after_changes first changes ≡ second

-- the plan that an edit asks for, of the committed set with the draft rows over it
abbrev pub plan_read : PlanEdit → Timing → Rows
plan_read edit timing = plan_from edit (after_changes timing.committed timing.delta)

-- the changes that make that plan: of the rows that a revision goes on with, and of the committed set
pub record PlansChanges (timing : Timing) (edit : PlanEdit) (edits settled : List Change) : Type 0 where
  pub of_base : AreChangesTo (after_changes timing.committed timing.delta) (plan_read edit timing) edits
  pub within : AreChangesWithin edits
  pub of_committed : AreChangesTo timing.committed (plan_read edit timing) settled
